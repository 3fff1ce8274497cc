use Rattle.wf_turn.proofs.Common.{handle}
use Rattle.wf_calls.specs.Requests.{call_of}
use Rattle.wf_turn.specs.Puts.{put_some}
use Rattle.wf_turn.proofs.AsksAreNextCalls.{one_carries}
use Rattle.wf_turn.proofs.program.Program.ask_one.Goals as goal

pub returns-then-plain_call-clause-call : goal.returns-then-plain_call-clause-call
returns-then-plain_call-clause-call c is =
    one_carries (handle c.args.self.now) c.args.verb.now (call_of c.plain_call.new.call)
    (put_some _ (call_of c.plain_call.new.call) c.plain_call.result c.plain_call.ensures c.if-plain_call.true)
