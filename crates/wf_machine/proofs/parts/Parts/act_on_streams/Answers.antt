use Rattle.wf_machine.proofs.Common.{rules, ap, sym, to_z-of_z, bare, act}
use mir.Syntax.{w64}
use mir.Val.{SFits}
use Rattle.wf_calls.specs.Requests.{call_of}
use Rattle.wf_calls.specs.declared.call.Call.TheVariants as call
use Rattle.wf_machine.proofs.ActsAreTheModels.{as_act, as_settled, plain_answer}
use Rattle.wf_machine.proofs.parts.Parts.act_on_streams.Goals as goal

pub returns-in-StreamNew : goal.returns-in-StreamNew
unfolding act
returns-in-StreamNew c =
    let x = c.in-StreamNew in
    let w : SFits w64 c.in-StreamNew.width = search rules in
    let h : SFits w64 c.in-StreamNew.height = search rules in
    let b : SFits w64 c.in-StreamNew.buffers = search rules in
    as_act _ _ _ (call.StreamNew x.width x.height x.format x.buffers)
    (bare _) (ap call_of x.is)
    (as_settled _ _ _ (rw (to_z-of_z w, to_z-of_z h, to_z-of_z b) at c.stream_new.ensures.made) c.stream_new.ensures.settled)
    (plain_answer c.stream_new.result)

pub returns-in-StreamQueue : goal.returns-in-StreamQueue
unfolding act
returns-in-StreamQueue c =
    let x = c.in-StreamQueue in
    let w : SFits w64 c.in-StreamQueue.width = search rules in
    let h : SFits w64 c.in-StreamQueue.height = search rules in
    let b : SFits w64 c.in-StreamQueue.depth = search rules in
    as_act _ _ _ (call.StreamQueue x.width x.height x.format x.depth)
    (bare _) (ap call_of x.is)
    (as_settled _ _ _ (rw (to_z-of_z w, to_z-of_z h, to_z-of_z b) at c.stream_new-in-StreamQueue.ensures.made)
    c.stream_new-in-StreamQueue.ensures.settled)
    (plain_answer c.stream_new-in-StreamQueue.result)

pub returns-in-StreamDestroy : goal.returns-in-StreamDestroy
unfolding act
returns-in-StreamDestroy c =
    as_act _ _ _ (call.StreamDestroy c.in-StreamDestroy.stream)
    (bare _)
    (ap call_of c.in-StreamDestroy.is) c.stream_destroy.ensures (plain_answer c.stream_destroy.result)

pub returns-in-Stat : goal.returns-in-Stat
unfolding act
returns-in-Stat c =
    as_act _ _ _ (call.Stat c.in-Stat.what) (bare _) (ap call_of c.in-Stat.is)
    (as_settled _ _ _ (ap (λ a. (c.args.self.now, bare a)) (sym c.stat.ensures))
    c.prove_all_named.ensures)
    (plain_answer c.stat.result)
