use Rattle.std.proofs.Common.{subst}
use Rattle.std.specs.Prelude.{IsTrue}
use Rattle.wf_calls.specs.declared.call.Call.TheVariants as call
use Rattle.wf_calls.specs.declared.call.Job.{Job}
use Rattle.wf_calls.specs.declared.reply.Reply.{Reply}
use Rattle.wf_desk.specs.Pass.{Made}
use Rattle.wf_machine.specs.Object.{MayAnswer, after, is_ready}
use Rattle.wf_wire.proofs.answering.finish.Goals as goal

pub returns-clause-ended : goal.returns-clause-ended
returns-clause-ended g c =
    subst (λ (j : Job). (x : Reply) × Made after MayAnswer (λ h. IsTrue (is_ready h (call.End j))) c.args.pass.now (call.End j) x
    c.make-reply.new.pass)
    c.paint.ensures (c.make-reply.result, c.make-reply.ensures.made)
