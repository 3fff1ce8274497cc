use Rattle.wf_turn.proofs.Common.{◌≡◌, ◌∙◌, ◌++◌, ◌∷◌, [], ◌+◌, ap, sym, map, arith, range_with_len, program}
use Rattle.std.proofs.lemmas.List.{map-append}
use Rattle.wf_turn.proofs.ShowAtTheStart.{range_more}
use Rattle.wf_turn.proofs.cast.open_others.Goals as goal

pub loop-before-preserved : goal.loop-before-preserved
loop-before-preserved c =
    let made = program _ in
    let n = c.loop-before.before in (
      c.push_reserved.ensures.items
          ∙ ap (λ ps. ps ++ c.in_ok-new.field-0 ∷ []) c.loop-before.invariant.0
          ∙ ap (λ p. map made (range_with_len 1 n) ++ p ∷ []) c.in_ok-new.ensures.program
          ∙ sym (map-append made (range_with_len 1 n) ((n + 1) ∷ []))
          ∙ ap (λ ns. map made ns) (sym (range_more n)),
      omega (arith, c.push_reserved.ensures.capacity, c.loop-before.invariant.1),
      omega (arith, c.push_reserved.ensures.len, c.loop-before.invariant.2),
    )

pub returns : goal.returns
returns c =
    let seven : c.loop-before.before ≡ 7 = omega (arith, c.loop-before-test.false, c.loop-before.auto.before-end) in
    c.loop-before.invariant.0 ∙ ap (λ n. map (program c.args.script.now) (range_with_len 1 n)) seven
