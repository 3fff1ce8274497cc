use Rattle.std.proofs.Common.{◌+◌, ◌*◌, ◌≤◌, map, take}
use Rattle.wf_script.specs.Canonical.{size_word}
use Rattle.wf_script.specs.Token.{spaced}
use Rattle.wf_script.specs.Text.{Adds, extent}
use Rattle.wf_script.proofs.printing.add_sizes.Given as goal
use Rattle.wf_script.specs.declared.TheConstants.{WORD_ROOM}

abbrev pub invariant-loop-size : goal.invariant-loop-size
invariant-loop-size g l = record {
  adds : Adds g.K.Sink.took g.K.Sink.faults l.initial.text l.initial.k l.text l.k
      (spaced (map size_word (take l.size-index l.sizes)));
  most : extent l.text ≤ extent l.initial.text + WORD_ROOM * l.size-index;
}
