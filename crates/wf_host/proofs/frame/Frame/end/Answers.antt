use Rattle.std.proofs.Common.{◌≡◌, ◌∙◌, IfSome, is_some, option_map, subst, sym, true}
use Rattle.wf_calls.specs.Places.{job_in}
use Rattle.wf_model.specs.Picture.{painted_job}
use Rattle.wf_host.specs.Painted.{IsEnded}
use Rattle.wf_host.proofs.Frames.{ended, keeps_painted, twice}
use Rattle.wf_host.proofs.frame.Frame.end.Goals as goal
use Rattle.wf_host.proofs.frame.Frame.end.Goals.{After-end}

-- the picture that was held
held_is : (c : goal.After-end) → job_in c.paint_unless.new.place ≡ c.args.self.now
held_is c = c.paint_unless.ensures ∙ c.self.view_is

is_painted : (c : goal.After-end) → option_map painted_job (job_in c.paint_unless.new.place) ≡ job_in c.paint_unless.new.place
is_painted c = subst (λ o. option_map painted_job o ≡ o) (sym c.paint_unless.ensures) (twice (job_in c.self.inside.place))

pub invariant_of-self : goal.invariant_of-self
invariant_of-self c =
    let after = (goal.at.invariant_of-self c).After-end in
    keeps_painted _ _ _ _ _ (job_in c.end.new.place) (is_painted after)
    (subst (λ o. is_some o ≡ true) (sym (held_is after)) c.requires) c.end.ensures.step

pub returns : goal.returns
returns c =
    let after = (goal.at.returns c).After-end in
    subst (λ o. IfSome o (λ job. IsEnded c.args.client job c.args.machine.now c.end.new.self
    (option_map painted_job (job_in c.end.new.place)) c.end.result))
    (held_is after)
    (ended c.args.client c.args.machine.now c.end.new.self (job_in c.paint_unless.new.place) c.end.result (job_in c.end.new.place)
    (is_painted after) c.end.ensures.step)
