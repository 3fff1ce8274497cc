use Rattle.std.proofs.Common.{◌≡◌, ◌∙◌, ◌+◌, ◌++◌, ◌∷◌, [], length, ap, sym, subst, arith, append_assoc}
use Rattle.std.proofs.lemmas.List.{length-append}
use Rattle.wf_show.specs.Players.{AreFresh, IsFresh}
use Rattle.wf_show.specs.Opened.{passes_from}
use Rattle.wf_show.proofs.Passes.{few_yielded, fresh_one, one_more}
use Rattle.wf_show.proofs.players.players_of.Goals as goal

pub push_reserved-requires : goal.push_reserved-requires
push_reserved-requires c =
    let l = c.loop-pass in
    let i = l.invariant in
    let same : l.yielded ++ c.in-Some.pass ∷ _ ≡ passes_from c.args.desk.now.id c.args.script.now 1 7 =
    ap (λ xs. l.yielded ++ xs) (sym c.in-Some.ensures.steps.0) ∙ i.6 in
    let within = few_yielded c.args.desk.now.id c.args.script.now l.yielded c.in-Some.pass _ same in
    omega (arith, within, i.3, i.5)

pub loop-pass-preserved : goal.loop-pass-preserved
loop-pass-preserved c =
    let l = c.loop-pass in
    let i = l.invariant in
    let d = c.args.desk.now.id in
    let s = c.args.script.now in
    let k = c.in-Some.pass in
    let p = c.in_ok-program in
    let same : l.yielded ++ k ∷ _ ≡ passes_from d s 1 7 = ap (λ xs. l.yielded ++ xs) (sym c.in-Some.ensures.steps.0) ∙ i.6 in
    let one = fresh_one d s l.yielded k _ l.client p.program same i.2 p.ensures.program p.ensures.fit p.ensures.left c.requires.few in
    let here : IsFresh d s (1 + length l.players.items) (record { pass = k; program = p.program }) =
    subst (λ n. IsFresh d s (1 + n) (record { pass = k; program = p.program })) (sym i.3) one in (
      tt,
      tt,
      omega (arith, i.2, length-append l.yielded (k ∷ [])),
      ap length c.push_reserved.ensures.items
          ∙ omega (
            arith,
            i.3,
            length-append l.players.items (record { pass = k; program = p.program } ∷ []),
            length-append l.yielded
                (k ∷ []),
          ),
      subst (AreFresh d s 1) (sym c.push_reserved.ensures.items)
          (one_more d s 1 l.players.items (record { pass = k; program = p.program }) i.4 here),
      omega (arith, i.5, c.push_reserved.ensures.capacity),
      append_assoc l.yielded (k ∷ []) _ ∙ same,
    )
