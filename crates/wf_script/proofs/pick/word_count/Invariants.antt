use Rattle.std.proofs.Common.{◌≡◌, ◌+◌, ◌≤◌, length}
use Rattle.wf_script.specs.Words.{words_in}
use Rattle.wf_script.proofs.pick.word_count.Given as goal

-- the words so far and those of the rest are all
abbrev pub invariant-loop-behind : goal.invariant-loop-behind
invariant-loop-behind l = record {
  all : l.count + length (words_in l.rest) ≡ length (words_in l.text);
  within : l.count + length l.rest ≤ length l.text;
}

abbrev pub decreases-loop-behind : goal.decreases-loop-behind
decreases-loop-behind l = length l.rest
