use Rattle.std.proofs.Common.{◌≡◌, ◌∙◌, ◌==◌, sym, ap, subst, true, [], position, Some, None}
use Rattle.wf_members.specs.Membership.{is_open, members_of}
use Rattle.wf_members.specs.Calls.{Closes}
use Rattle.wf_members.specs.Inside.{membership_of}
use Rattle.wf_members.proofs.Kept.{open_place}
use Rattle.wf_members.proofs.Opened.{closes, closed_sound, with_owner}
use Rattle.wf_members.proofs.members.Members.close.Goals as goal
use Rattle.wf_members.proofs.members.Members.close.Goals.{After-place_of}

sought : (c : After-place_of) → c.place_of.result ≡ position (λ x. x == c.args.owner) c.self.inside.owners.items
sought c = c.place_of.ensures.place ∙ ap (position (λ x. x == c.args.owner)) c.deref.ensures.value

-- what is required, of the fields

opened : (c : After-place_of) → is_open c.args.owner (membership_of c.self.inside) ≡ true
opened c = subst (λ v. is_open c.args.owner v ≡ true) (sym c.self.view_is) c.requires.is_open

bare : (c : After-place_of) → members_of c.args.owner (membership_of c.self.inside) ≡ []
bare c = subst (λ v. members_of c.args.owner v ≡ []) (sym c.self.view_is) c.requires.bare

pub unreachable-requires : goal.unreachable-requires
unreachable-requires c =
    let k = (goal.at.unreachable-requires c).After-place_of in
    let place = open_place (membership_of c.self.inside) c.self.invariant c.args.owner (opened k) in
    let both : None ≡ Some place.0 = sym c.in_default.is ∙ sought k ∙ place.1 in
    cc

pub invariant_of-self : goal.invariant_of-self
invariant_of-self c =
    let k = (goal.at.invariant_of-self c).After-place_of in
    closed_sound (membership_of c.self.inside) c.self.invariant c.in-Some.place c.args.owner (sym (sought k) ∙ c.in-Some.is) (opened k)
    (bare k)

pub returns : goal.returns
returns c =
    let v = membership_of c.self.inside in
    let k = (goal.at.returns c).After-place_of in
    subst (λ w. Closes c.args.owner w (with_owner v c.in-Some.place 0)) c.self.view_is
    (closes v c.self.invariant c.in-Some.place c.args.owner (sym (sought k) ∙ c.in-Some.is) (opened k) (bare k))
