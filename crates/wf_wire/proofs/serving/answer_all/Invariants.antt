use Rattle.std.proofs.Common.{◌≡◌, ◌+◌, ◌*◌, ◌-◌, ◌≤◌}
use Rattle.wf_wire.specs.declared.answering.TheConstants.{ANSWER_BYTES}
use Rattle.wf_wire.specs.declared.TheConstants.{MESSAGES_END}
use Rattle.wf_wire.specs.Served.{HeardAll}
use Rattle.wf_wire.proofs.serving.answer_all.Given as goal

-- the messages so far were answered, and a call is left
abbrev pub invariant-loop-message : goal.invariant-loop-message
invariant-loop-message g l = record {
  all :
      HeardAll g.K.Sink.took l.initial.pass l.pass l.initial.out l.out l.initial.session (g.I.Source.left l.initial.input)
      (g.I.Source.left l.input) l.session l.held l.written;
  left : 1 ≤ l.pass.left;
  place : l.at ≡ l.session;
  early : l.at ≤ MESSAGES_END + 72;
  short : l.written ≤ ANSWER_BYTES * l.session;
  input_count : g.I.Source.faults l.initial.input ≤ g.I.Source.faults l.input;
  out_count : g.K.Sink.faults l.initial.out ≤ g.K.Sink.faults l.out;
}

abbrev pub decreases-loop-message : goal.decreases-loop-message
decreases-loop-message g l = MESSAGES_END + 72 - l.session
