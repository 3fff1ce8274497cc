use Rattle.wf_machine.proofs.Common.{rules, ap, true, to_z-of_z, bare, act}
use mir.Syntax.{w64}
use mir.Val.{SFits}
use Rattle.wf_calls.specs.Requests.{call_of}
use Rattle.wf_calls.specs.declared.call.Call.TheVariants as call
use Rattle.wf_machine.proofs.ActsAreTheModels.{as_marked_act, as_settled, plain_answer}
use Rattle.wf_machine.proofs.parts.Parts.deny_on_streams.Goals as goal

pub returns-in-StreamNew : goal.returns-in-StreamNew
unfolding act
returns-in-StreamNew c =
    let x = c.in-StreamNew in
    let w : SFits w64 c.in-StreamNew.width = search rules in
    let h : SFits w64 c.in-StreamNew.height = search rules in
    let b : SFits w64 c.in-StreamNew.buffers = search rules in
    as_marked_act true _ _ _ (call.StreamNew x.width x.height x.format x.buffers)
    (bare _) (ap call_of x.is)
    (as_settled _ _ _ (rw (to_z-of_z w, to_z-of_z h, to_z-of_z b) at c.deny_stream.ensures)
    c.prove_all_named.ensures) (plain_answer c.deny_stream.result)

pub returns-in-StreamQueue : goal.returns-in-StreamQueue
unfolding act
returns-in-StreamQueue c =
    let x = c.in-StreamQueue in
    let w : SFits w64 c.in-StreamQueue.width = search rules in
    let h : SFits w64 c.in-StreamQueue.height = search rules in
    let b : SFits w64 c.in-StreamQueue.depth = search rules in
    as_marked_act true _ _ _ (call.StreamQueue x.width x.height x.format x.depth)
    (bare _) (ap call_of x.is)
    (as_settled _ _ _ (rw (to_z-of_z w, to_z-of_z h, to_z-of_z b) at c.deny_stream-in-StreamQueue.ensures)
    c.prove_all_named.ensures) (plain_answer c.deny_stream-in-StreamQueue.result)
