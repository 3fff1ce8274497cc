-- `of_loose` keeps the pointer, and with it the object and the right to free its block.
use Rattle.std.proofs.Common.{◌≡◌, List, [], ◌∷◌, ◌++◌, refl, sym, subst}
use mir.Val.{Val, vptr, vstruct, vcons, vnil}
use base.Logic.{SProp, ent, emp, id⊢}
use base.Fml.{ftrue}
use prog.Wp.{WpFn}
use types.Kit.{‵, raw, ◌⊛◌, ◌$◌, ◌∵◌, !, qed, by, move, keep, split, fsplit, fjoin, fpack, suffices, use0, feq_i}
use types.Run.{stop, fld, of_opd, no_more, and_then, returns, enter}
use types.ByLocal.{alloc_all, pass_all, free_all, look_at, get, get_in, sets}
use types.Part.{agg, sub, whole}
use contract.Monad.{fact, fact_i}
use contract.Running.{tables}
use denote.Exit.{yes}
use denote.RattleType.{RattleType, Valss, owns}
use denote.Builtin.{RawPtr}
use denote.Signature.{plain}
use denote.RawPtr.{block_ptr}
use denote.Steps.{nothing}
use denote.Struct.Struct.{within}
use denote.Struct.Owning.{shape}
use denote.Triple.Walked.{Stays, stay_dropped, walk_of}
use Rattle.std.proofs.alloc.Calls.{Goes-blank}
use Rattle.std.proofs.raw_atomic.Walks.{proved_at, leaves}
use Rattle.std.proofs.alloc.Global.TheLaws as GlobalLaws
use Rattle.std.specs.contracts.alloc.Global
use Rattle.std.specs.contracts.impls.GlobalAllocator.TheImpl
use Rattle.std.specs.Prelude.{Some}
use Rattle.weklandu.proofs.Values.{both, Loose, loose_good, loose_out}
use Rattle.weklandu.specs.contracts.thing.Thing as Obj
use Rattle.weklandu.specs.contracts.handle.Handle
use Rattle.weklandu.specs.contracts.handle.Handle.of_loose.{ended, clauses}
use Rattle.weklandu.specs.contracts.handle.Handle.of_loose.Key.{name as #self}
use Rattle.weklandu.proofs.handle.Handle.of_loose.Statement.{statement}
use Rattle.weklandu.proofs.handle.Handle.of_loose.Code as code

pub of_loose_spec : {M : Type 1} → statement M
of_loose_spec 𝓤 𝓛 𝓜 𝓡 wired =
    let H = 𝓛.H in let 𝓣 = tables 𝓤 H 𝓜 𝓡 𝓡.env in let c = clauses 𝓛 𝓜.mem 𝓡.returns in
    let R : RattleType = Obj.the_row in let Z : RattleType = Global.the_row in let LZ = GlobalLaws.the_row_laws in
    let g = TheImpl.ghosts in let P : RattleType = Loose R Z LZ g in
    let hs : Stays ended.signature.params ended.kept = (stay_dropped (plain (λ _. P)) yes, tt) in
    proved_at 𝓛 ended hs c 𝓜 𝓡 (
      Goes-blank 𝓛 0 (plain (λ _. P)) yes (λ κs x f.
          tt),
      tt,
    ) #self code.function (code.unfolded 𝓤 H 𝓜 𝓡 wired) (λ z are.
    let v = z.0.3.0 in let Post : Val → SProp 𝓤 = (walk_of 𝓛 ended hs c).post z in
    let Run : List Val → SProp 𝓤 = λ ws. WpFn 𝓤 H 𝓣.C 𝓣.Λ code.function ws Post in
    qed 𝓛 ((‵ ftrue ⊛ ‵ (owns (P ∷ []) z.0.3 z.0.4)) ∷ ‵ ftrue ∷ []) ∵ split ! $ move ! (1 ∷ []) $ fsplit ! $
    loose_out R Z LZ g ! v z.0.4.0 (λ b o h e ws fits.
    -- [the object with its block; the allocator; nothing; the tokens; the `requires`]
    let w : Val = both (vptr b o) h in let typed = loose_good R Z LZ g b o h fits in let out : Val = vstruct (vcons (vptr b o) vnil) in
    suffices ! (Run (w ∷ [])) (subst (λ (us : List Val). ent 𝓤 (Run (w ∷ [])) (Run us)) (sym (λ i. ws i ++ [])) (id⊢ 𝓤 (Run (w ∷ [])))) $
    enter ! 𝓣.C 𝓣.Λ code.function (w ∷ []) Post $ alloc_all ! (λ l. pass_all ! refl (typed, tt) $
    sets ! (of_opd ! (get_in ! (fld ! refl (stop !)) (sub ! 0 refl (whole !)))) refl (tt, tt) $
    sets ! (of_opd ! (get ! refl)) refl (tt, tt) $
    sets ! (agg ! (and_then ! (get ! refl) (no_more !))) refl (tt, (tt, tt)) $
    nothing ! $ feq_i ! (List Val) (vptr b o ∷ []) (vptr b o ∷ []) refl $ fjoin ! $ feq_i ! (List Val) (out ∷ []) (out ∷ []) refl $
    fjoin ! $
    fpack ! (Valss (RawPtr ∷ [])) (within (shape Handle.the_type) (block_ptr b o, tt) (out ∷ [])) (vptr b o ∷ [], tt) $ fjoin ! $
    use0 𝓛 (raw (fact 𝓤 (Some v.value ≡ Some v.value))) (fact_i 𝓤 (Some v.value ≡ Some v.value) (emp 𝓤) refl) $ nothing ! $ nothing ! $
    fjoin ! $
    returns ! (look_at ! 0 refl) $ free_all ! refl $ keep ! (5 ∷ 0 ∷ 2 ∷ 1 ∷ []) $
    by ! (leaves 𝓛 ended hs c z out (record { at = block_ptr b o; state = Some v.value }) (tt, tt) (tt, tt)))))
