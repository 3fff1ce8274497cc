use Rattle.std.proofs.Common.{◌≡◌, ◌≤◌, length}
use Rattle.wf_script.specs.Words.{words_in}
use Rattle.wf_play.proofs.parts.next_word.Given as goal

-- no word was passed over
abbrev pub invariant-loop-rest : goal.invariant-loop-rest
invariant-loop-rest l = record {
  same : words_in l.rest ≡ words_in l.text;
  within : length l.rest ≤ length l.text;
}

abbrev pub decreases-loop-rest : goal.decreases-loop-rest
decreases-loop-rest l = length l.rest
