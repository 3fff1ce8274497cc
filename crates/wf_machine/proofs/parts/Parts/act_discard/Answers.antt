use Rattle.wf_machine.proofs.Common.{refl, discarded, act}
use Rattle.wf_calls.specs.declared.call.Call.TheVariants as call
use Rattle.wf_machine.proofs.ActsAreTheModels.{as_act, plain_back, plain_of}
use Rattle.wf_machine.proofs.parts.Parts.act_discard.Goals as goal

pub returns : goal.returns
unfolding act
returns c =
    let canvas = c.args.canvas in
    as_act _ _ _ (call.Discard canvas) _ refl c.discard.ensures (plain_of _ _ _ c.discard.ensures (plain_back canvas discarded _))
