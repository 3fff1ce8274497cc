use Rattle.std.proofs.Common.{◌+◌, ◌*◌, ◌≤◌, map, take}
use Rattle.wf_script.specs.Token.{spaced, token_word}
use Rattle.wf_script.specs.Text.{Adds, extent}
use Rattle.wf_script.proofs.token.add_words.Given as goal
use Rattle.wf_script.specs.declared.TheConstants.{WORD_ROOM}

abbrev pub invariant-loop-token : goal.invariant-loop-token
invariant-loop-token g l = record {
  adds : Adds g.K.Sink.took g.K.Sink.faults l.initial.text l.initial.k l.text l.k
      (spaced (map token_word (take l.token-index l.tokens)));
  most : extent l.text ≤ extent l.initial.text + WORD_ROOM * l.token-index;
}
