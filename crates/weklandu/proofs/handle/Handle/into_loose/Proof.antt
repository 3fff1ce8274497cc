-- `into_loose` keeps the pointer, and with it the object and the right to free its block.
use Rattle.std.proofs.Common.{◌≡◌, List, [], ◌∷◌, ◌++◌, refl, sym, subst, ap, ◌∙◌, true≢false}
use mir.Val.{Val, vptr, vstruct, vcons, vnil, of_list}
use mir.Raw.{raw as bare}
use base.Logic.{SProp, ent, emp, id⊢, never, fst∗}
use base.Fml.{ftrue}
use prog.Wp.{WpFn}
use types.Logic.{sem}
use types.Kit.{‵, raw, ◌⊛◌, ◌$◌, ◌∵◌, !, qed, by, move, keep, drop, split, fsplit, fjoin, fpick, feq_l, rewrite, suffices, use0}
use types.Run.{stop, fld, of_opd, no_more, and_then, returns, enter}
use types.ByLocal.{alloc_all, pass_all, free_all, look_at, get, get_in, sets}
use types.Part.{agg, sub, whole}
use contract.Monad.{fact, fact_i}
use contract.Running.{tables}
use denote.Exit.{yes}
use denote.Memory.{lone}
use denote.RattleType.{RattleType, owns}
use denote.Signature.{plain}
use denote.RawPtr.{Ptr, block_ptr, null_ptr, ptr_val, in_a_block}
use denote.Steps.{nothing, heard}
use denote.Triple.Walked.{Stays, stay_dropped, walk_of}
use Rattle.std.proofs.alloc.Calls.{Goes-blank, handle_tells}
use Rattle.std.proofs.raw_atomic.Walks.{proved_at, leaves}
use Rattle.std.proofs.alloc.Global.TheLaws as GlobalLaws
use Rattle.std.specs.contracts.alloc.Global
use Rattle.std.specs.contracts.impls.GlobalAllocator.TheImpl
use Rattle.std.specs.Prelude.{Some, None, Option, IsSome}
use Rattle.std.specs.Box.Ownership.{box_owns}
use Rattle.weklandu.specs.Handles.{handle_owns, may_free}
use Rattle.weklandu.proofs.Values.{both, al, loose_good, loose_in}
use Rattle.weklandu.specs.contracts.thing.Thing as Obj
use Rattle.weklandu.specs.contracts.handle.Handle
use Rattle.weklandu.specs.contracts.handle.Handle.into_loose.{ended, clauses}
use Rattle.weklandu.specs.contracts.handle.Handle.into_loose.Key.{name as #self}
use Rattle.weklandu.proofs.handle.Handle.into_loose.Statement.{statement}
use Rattle.weklandu.proofs.handle.Handle.into_loose.Code as code

-- what a `Some` holds
held : {X : Type 0} (o : Option X) → IsSome o → (x : X) × (o ≡ Some x)
held None is = absurd (true≢false (sym is))
held (Some x) is = (x, refl)

pub into_loose_spec : {M : Type 1} → statement M
into_loose_spec 𝓤 𝓛 𝓜 𝓡 wired =
    let H = 𝓛.H in let 𝓣 = tables 𝓤 H 𝓜 𝓡 𝓡.env in let c = clauses 𝓛 𝓜.mem 𝓡.returns in
    let R : RattleType = Obj.the_row in let Z : RattleType = Global.the_row in let LZ = GlobalLaws.the_row_laws in
    let g = TheImpl.ghosts in let D : RattleType = Handle.the_row in
    let hs : Stays ended.signature.params ended.kept = (stay_dropped (plain (λ _. D)) yes, (stay_dropped (plain (λ _. Z)) yes, tt)) in
    proved_at 𝓛 ended hs c 𝓜 𝓡 (
      Goes-blank 𝓛 0 (plain (λ _. D)) yes (λ κs x f. tt),
      (
        Goes-blank 𝓛 0 (plain (λ _. Z)) yes (λ κs x f.
            tt),
        tt,
      ),
    ) #self code.function (code.unfolded 𝓤 H 𝓜 𝓡 wired) (λ z are.
    let d = z.0.3.0 in let a = z.0.3.1.0 in let Post : Val → SProp 𝓤 = (walk_of 𝓛 ended hs c).post z in
    let Run : List Val → SProp 𝓤 = λ ws. WpFn 𝓤 H 𝓣.C 𝓣.Λ code.function ws Post in
    qed 𝓛 ((‵ ftrue ⊛ ‵ (owns (D ∷ Z ∷ []) z.0.3 z.0.4)) ∷ raw (fact 𝓤 (IsSome d.state)) ∷ []) ∵ move ! (1 ∷ []) $
    heard ! (IsSome d.state) (λ is. let x = (held d.state is).0 in let ex : d.state ≡ Some x = (held d.state is).1 in
    split ! $ move ! (1 ∷ []) $ fsplit ! $ move ! (1 ∷ []) $ fsplit ! $
    handle_tells (al R Z LZ g) ! a z.0.4.1.0 (λ h ea fits. move ! (2 ∷ []) $
    fsplit ! $ fpick ! (λ vss. fsplit ! $ feq_l ! (λ ev. fsplit ! $ feq_l ! (λ ep. drop ! $
    rewrite ! 0 (λ s. ‵ (handle_owns R d.at s)) ex refl $
    in_a_block ! d.at (λ p. box_owns may_free R p x) (fst∗ 𝓤 (never 𝓤) (sem 𝓛 (may_free (bare (lone R.mir)) null_ptr))) (λ b o e.
    -- [the object with its block; the allocator; ..]
    let u : Val = vstruct (vcons (vptr b o) vnil) in
    let eu : z.0.4.0 ≡ u ∷ [] = ev ∙ (λ j. vstruct (of_list ((ep ∙ ap (λ (p : Ptr). ptr_val p ∷ []) e) j ++ [])) ∷ []) in
    let out : Val = both (vptr b o) h in let typed = loose_good R Z LZ g b o h fits in
    suffices ! (Run (u ∷ h ∷ [])) (subst (λ (us : List Val). ent 𝓤 (Run (u ∷ h ∷ [])) (Run us)) (sym (λ i.
    eu i ++ (ea i ++ []))) (id⊢ 𝓤 (Run (u ∷ h ∷ [])))) $
    enter ! 𝓣.C 𝓣.Λ code.function (u ∷ h ∷ []) Post $ alloc_all ! (λ l. pass_all ! refl ((tt, (tt, tt)), (fits, tt)) $
    sets ! (of_opd ! (get_in ! (fld ! refl (stop !)) (sub ! 0 refl (whole !)))) refl (tt, tt) $
    sets ! (of_opd ! (get ! refl)) refl (tt, tt) $
    sets ! (agg ! (and_then ! (get ! refl) (and_then ! (get ! refl) (no_more !)))) refl typed $
    move ! (0 ∷ 1 ∷ []) $ loose_in R Z LZ g ! b o h a x $
    use0 𝓛 (raw (fact 𝓤 (d.state ≡ Some x))) (fact_i 𝓤 (d.state ≡ Some x) (emp 𝓤) ex) $ nothing ! $ nothing ! $ fjoin ! $ nothing ! $
    fjoin ! $
    returns ! (look_at ! 0 refl) $ free_all ! refl $ keep ! (5 ∷ 0 ∷ 2 ∷ 1 ∷ []) $
    by ! (leaves 𝓛 ended hs c z out (record { at = block_ptr b o; alloc = a; value = x }) (tt, (tt, tt)) (tt, (tt, tt)))))))))))
