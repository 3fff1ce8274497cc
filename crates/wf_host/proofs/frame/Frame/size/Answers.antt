use Rattle.std.proofs.Common.{◌≡◌, ◌∙◌, Some, ap, option_map, subst}
use Rattle.wf_calls.specs.Places.{job_in}
use Rattle.wf_host.proofs.Frames.{size_is}
use Rattle.wf_host.proofs.frame.Frame.size.Goals as goal

pub returns-in-Some : goal.returns-in-Some
returns-in-Some c =
    subst (λ o. Some c.in-Some.job.now.scene.size ≡ option_map (λ job. job.image.size) o) c.self.view_is
    (ap (option_map (λ job. job.scene.size)) c.in-Some.ensures ∙ size_is (job_in c.self.inside.place))
