use Rattle.wf_machine.proofs.Common.{subst, ◌∙◌, IsReady}
use Rattle.wf_machine.proofs.FrameStarts.{all_home}
use Rattle.wf_machine.proofs.frames.take_target.Goals as goal

pub returns-in-Context-clause-away : goal.returns-in-Context-clause-away
returns-in-Context-clause-away c =
    let ready = subst (λ k. IsReady c.args.store.now.streams c.args.ports.now.items c.args.mode k) c.in-Context.is c.requires in
    λ frame is drawn. all_home frame c.in-Context.handle c.in-Context.target (is ∙ c.in-Context.is) 1 _ ready.0
