use Rattle.std.proofs.Common.{◌==◌, ◌∙◌, ap, is_some, position, refl}
use Rattle.wf_members.specs.Membership.{is_open}
use Rattle.wf_members.specs.Inside.{membership_of}
use Rattle.wf_members.proofs.Kept.{open_by_place}
use Rattle.wf_members.proofs.members.Members.is_open.Goals as goal

pub returns-then-owner-ne0 : goal.returns-then-owner-ne0
returns-then-owner-ne0 c =
    let h = c.args.owner in
    c.is_some.ensures ∙ ap is_some (c.place_of.ensures.place ∙ ap (position (λ x. x == h)) c.deref.ensures.value)
    ∙ open_by_place (membership_of c.self.inside) c.self.invariant h c.if-owner-ne0.true ∙ ap (is_open h) c.self.view_is

pub returns-else-owner-ne0 : goal.returns-else-owner-ne0
unfolding is_open
returns-else-owner-ne0 c = rw c.if-owner-ne0.false refl
