use Rattle.std.proofs.Common.{◌≡◌, ◌∙◌, ap, option_map, subst, sym}
use Rattle.wf_calls.specs.Places.{job_in}
use Rattle.wf_model.specs.Picture.{painted_job}
use Rattle.wf_host.specs.Reading.{Reads}
use Rattle.wf_host.proofs.Frames.{twice}
use Rattle.wf_host.proofs.frame.Frame.read.Goals as goal

pub invariant_of-self : goal.invariant_of-self
invariant_of-self c =
    subst (λ o. option_map painted_job o ≡ o) (sym c.paint_unless.ensures) (twice (job_in c.self.inside.place))

pub returns-clause-frame : goal.returns-clause-frame
returns-clause-frame c =
    ap (option_map painted_job) c.paint_unless.ensures ∙ twice (job_in c.self.inside.place) ∙ c.self.view_is

pub returns-clause-copies : goal.returns-clause-copies
returns-clause-copies c =
    subst (λ o. Reads o c.args.stride c.args.order c.args.out.now c.read_place.new.out c.read_place.result)
    (c.paint_unless.ensures ∙ c.self.view_is) c.read_place.ensures
