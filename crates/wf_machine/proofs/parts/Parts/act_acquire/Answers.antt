use Rattle.wf_machine.proofs.Common.{refl, act, acquirable}
use Rattle.wf_calls.specs.declared.call.Call.TheVariants as call
use Rattle.wf_machine.proofs.ActsAreTheModels.{as_act, as_settled, plain_acquired, plain_of}
use Rattle.wf_machine.proofs.parts.Parts.act_acquire.Goals as goal

pub returns : goal.returns
unfolding act
returns c =
    let h = c.args.self.now in
    as_act h _ _ (call.Acquire c.args.stream) _ refl
    (as_settled _ _ _ c.acquire.ensures.acquired c.acquire.ensures.settled)
    (plain_of _ _ _ c.acquire.ensures.acquired (plain_acquired h (acquirable c.args.stream h)))
