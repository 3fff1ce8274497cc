use Rattle.std.proofs.Common.{◌≡◌, ◌∙◌, ◌<◌, ◌==◌, sym, ap, subst, false, position, Some, None}
use Rattle.wf_members.specs.Membership.{is_open, most_owners, open_count}
use Rattle.wf_members.specs.Calls.{Opens}
use Rattle.wf_members.specs.Inside.{membership_of}
use Rattle.wf_members.proofs.Kept.{free_owner}
use Rattle.wf_members.proofs.Opened.{opens, open_sound, with_owner}
use Rattle.wf_members.proofs.members.Members.open.Goals as goal

pub unreachable-requires : goal.unreachable-requires
unreachable-requires c =
    let room = free_owner (membership_of c.self.inside) c.self.invariant
    (subst (λ v. open_count v < most_owners v) (sym c.self.view_is) c.requires.room) in
    let sought = c.place_of.ensures.place ∙ ap (position (λ x. x == 0)) c.deref.ensures.value in
    let both : None ≡ Some room.0 = sym c.in_default.is ∙ sought ∙ room.1 in
    cc

pub invariant_of-self : goal.invariant_of-self
invariant_of-self c =
    let sought = c.place_of.ensures.place ∙ ap (position (λ x. x == 0)) c.deref.ensures.value in
    open_sound (membership_of c.self.inside) c.self.invariant c.in-Some.place c.args.owner (sym sought ∙ c.in-Some.is) c.requires.named
    (subst (λ v. is_open c.args.owner v ≡ false) (sym c.self.view_is) c.requires.closed)

pub returns : goal.returns
returns c =
    let v = membership_of c.self.inside in
    let sought = c.place_of.ensures.place ∙ ap (position (λ x. x == 0)) c.deref.ensures.value in
    subst (λ w. Opens c.args.owner w (with_owner v c.in-Some.place c.args.owner)) c.self.view_is
    (opens v c.self.invariant c.in-Some.place c.args.owner (sym sought ∙ c.in-Some.is) c.requires.named
    (subst (λ w. is_open c.args.owner w ≡ false) (sym c.self.view_is) c.requires.closed))
