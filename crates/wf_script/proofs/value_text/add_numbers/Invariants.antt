use Rattle.std.proofs.Common.{◌+◌, ◌*◌, ◌≤◌, map, take}
use Rattle.wf_script.specs.Spelled.{integer_word}
use Rattle.wf_script.specs.Token.{spaced}
use Rattle.wf_script.specs.Text.{Adds, extent}
use Rattle.wf_script.proofs.value_text.add_numbers.Given as goal
use Rattle.wf_script.specs.declared.TheConstants.{WORD_ROOM}

abbrev pub invariant-loop-number : goal.invariant-loop-number
invariant-loop-number g l = record {
  adds : Adds g.K.Sink.took g.K.Sink.faults l.initial.text l.initial.k l.text l.k
      (spaced (map integer_word (take l.number-index l.numbers)));
  most : extent l.text ≤ extent l.initial.text + WORD_ROOM * l.number-index;
}
