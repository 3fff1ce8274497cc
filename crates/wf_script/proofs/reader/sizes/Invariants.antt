use Rattle.std.proofs.Common.{◌≡◌, ◌+◌, ◌≤◌, length}
use Rattle.wf_script.specs.Grammar.{sizes}
use Rattle.wf_script.specs.Words.{words_in}
use Rattle.wf_script.specs.Items.{behind}
use Rattle.wf_script.proofs.reader.sizes.Given as goal

-- the sizes so far stand before those of the words that are left
abbrev pub invariant-loop-word : goal.invariant-loop-word
invariant-loop-word l = record {
  same : behind l.sizes.items (sizes (words_in l.rest)) ≡ sizes (words_in l.words);
  few : length l.sizes.items + length (words_in l.rest) ≤ 4;
}

abbrev pub decreases-loop-word : goal.decreases-loop-word
decreases-loop-word l = length l.rest
