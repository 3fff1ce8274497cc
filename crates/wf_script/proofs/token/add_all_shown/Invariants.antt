use Rattle.std.proofs.Common.{◌+◌, ◌*◌, ◌≤◌, map, take}
use Rattle.wf_script.specs.Token.{shown_word, spaced}
use Rattle.wf_script.specs.Text.{Adds, extent}
use Rattle.wf_script.proofs.token.add_all_shown.Given as goal
use Rattle.wf_script.specs.declared.TheConstants.{WORD_ROOM}

abbrev pub invariant-loop-one : goal.invariant-loop-one
invariant-loop-one g l = record {
  adds : Adds g.K.Sink.took g.K.Sink.faults l.initial.text l.initial.k l.text l.k (spaced (map shown_word (take l.one-index l.shown)));
  most : extent l.text ≤ extent l.initial.text + WORD_ROOM * l.one-index;
}
