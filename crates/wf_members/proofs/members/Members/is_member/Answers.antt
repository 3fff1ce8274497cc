use Rattle.std.proofs.Common.{◌≡◌, ◌==◌, ◌∙◌, ap, sym, subst, is_some, position, true, false}
use Rattle.wf_words.specs.Keyed.{is_in}
use Rattle.wf_members.specs.Membership.{members_of}
use Rattle.wf_members.specs.Inside.{membership_of}
use Rattle.wf_members.proofs.Kept.{nobodys, somebodys, zero_nobodys}
use Rattle.wf_members.proofs.members.Members.is_member.Goals as goal

pub returns-then-member-ne0-clause-somebodys : goal.returns-then-member-ne0-clause-somebodys
returns-then-member-ne0-clause-somebodys c =
    λ is. (let m = c.args.member in
    let sought = c.is_some.ensures ∙ ap is_some (c.place_of.ensures.place ∙ ap (position (λ x. x == m)) c.deref.ensures.value) in
    let owner = somebodys (membership_of c.self.inside) c.self.invariant m c.if-member-ne0.true (sym sought ∙ is) in
    (owner.0, subst (λ v. is_in m (members_of owner.0 v) ≡ true) c.self.view_is owner.1))

pub returns-then-member-ne0-clause-nobodys : goal.returns-then-member-ne0-clause-nobodys
returns-then-member-ne0-clause-nobodys c =
    λ is o. (let m = c.args.member in
    let sought = c.is_some.ensures ∙ ap is_some (c.place_of.ensures.place ∙ ap (position (λ x. x == m)) c.deref.ensures.value) in
    subst (λ v. is_in m (members_of o v) ≡ false) c.self.view_is
    (nobodys (membership_of c.self.inside) c.self.invariant m (sym sought ∙ is) o))

pub returns-else-member-ne0-clause-nobodys : goal.returns-else-member-ne0-clause-nobodys
returns-else-member-ne0-clause-nobodys c =
    λ is o. rw c.if-member-ne0.false (subst (λ v. is_in 0 (members_of o v) ≡ false) c.self.view_is
    (zero_nobodys (membership_of c.self.inside) c.self.invariant o))
