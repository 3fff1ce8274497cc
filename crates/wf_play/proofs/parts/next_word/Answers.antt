use Rattle.std.proofs.Common.{◌≡◌, ◌∙◌, ◌<◌, length, sym, arith}
use Rattle.std.proofs.lemmas.Bool.Decides.{nat_tests}
use Rattle.std.proofs.lemmas.Grind.{common_steps}
use Rattle.wf_script.proofs.Cuts.{next_is_none, next_is_word, no_word}
use Rattle.wf_play.proofs.parts.next_word.Goals as goal

pub returns-then-not-is_empty : goal.returns-then-not-is_empty
returns-then-not-is_empty c =
    let cut = c.cut_at_blank in
    let some : 0 < length cut.result.0.now = grind (arith, nat_tests) in
    sym c.loop-rest.invariant.same ∙ next_is_word c.loop-rest.rest.now cut.result.0.now cut.result.1.now cut.ensures.front
    cut.ensures.behind some

pub loop-rest-preserved : goal.loop-rest-preserved
loop-rest-preserved c =
    let cut = c.cut_at_blank in
    let none : length cut.result.0.now ≡ 0 = grind (arith, nat_tests) in
    record {
      same = sym (next_is_none c.loop-rest.rest.now cut.result.0.now cut.result.1.now cut.ensures.front cut.ensures.behind none)
          ∙ c.loop-rest.invariant.same;
      within = grind (arith, common_steps);
    }

pub returns : goal.returns
returns c = sym c.loop-rest.invariant.same ∙ no_word c.loop-rest.rest.now (grind (arith, nat_tests))
