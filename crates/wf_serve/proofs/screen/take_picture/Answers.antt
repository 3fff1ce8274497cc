use Rattle.std.proofs.Common.{◌≡◌, Some, subst, sym}
use Rattle.wf_guard.specs.declared.clients.TheConstants.{OUTPUT}
use Rattle.wf_serve.specs.Ticks.{ended}
use Rattle.wf_serve.proofs.Ends.{same_end}
use Rattle.wf_serve.proofs.screen.take_picture.Goals as goal

pub returns-in-Port-clause-ends : goal.returns-in-Port-clause-ends
returns-in-Port-clause-ends c h =
    subst (λ image. ended OUTPUT (Some (record c.args.job.now { image = image })) h ≡ ended OUTPUT (Some c.args.job.now) h)
    (sym c.swap.ensures.y_after)
    (same_end OUTPUT c.args.job.now c.args.screen.now.image _ c.in-Port.is c.requires.size c.requires.format h)
