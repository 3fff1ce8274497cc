-- The machine at a desk: the events of its histories, and what a pass knows.
use Rattle.wf_calls.specs.declared.call.Call.{Call}
use Rattle.wf_calls.specs.declared.reply.Reply.{Reply}
use Rattle.wf_desk.specs.declared.event.Event.{Event}
use Rattle.wf_desk.specs.Pass.{Known}
use Rattle.wf_model.specs.State.{State}

-- one call that the machine answered
abbrev pub Happening : Type 0
Happening = Event Call Reply

-- a pass of a machine's desk, as contracts see it
abbrev pub PlainPass : Type 0
PlainPass = Known State Call Reply
