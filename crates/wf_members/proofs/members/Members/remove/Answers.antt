use Rattle.std.proofs.Common.{◌≡◌, ◌∙◌, ◌==◌, sym, ap, subst, true, position, Some, None}
use Rattle.wf_words.specs.Keyed.{is_in}
use Rattle.wf_members.specs.Membership.{members_of}
use Rattle.wf_members.specs.Inside.{membership_of}
use Rattle.wf_members.proofs.Kept.{some_node}
use Rattle.wf_members.proofs.Told.{node_listed, removed_sound, removes}
use Rattle.wf_members.proofs.members.Members.remove.Goals as goal
use Rattle.wf_members.proofs.members.Members.remove.Goals.{After-place_of}

sought : (c : After-place_of) → c.place_of.result ≡ position (λ x. x == c.args.member) c.self.inside.members.items
sought c = c.place_of.ensures.place ∙ ap (position (λ x. x == c.args.member)) c.deref.ensures.value

-- what is required, of the fields
there : (c : After-place_of) → is_in c.args.member (members_of c.requires.0 (membership_of c.self.inside)) ≡ true
there c = subst (λ v. is_in c.args.member (members_of c.requires.0 v) ≡ true) (sym c.self.view_is) c.requires.1

pub unreachable-requires : goal.unreachable-requires
unreachable-requires c =
    let k = (goal.at.unreachable-requires c).After-place_of in
    let node = some_node (membership_of c.self.inside) c.self.invariant c.requires.0 c.args.member (there k) in
    let both : None ≡ Some node.1.0 = sym c.in_default.is ∙ sought k ∙ node.1.1 in
    cc

pub move_node-requires-clause-somewhere : goal.move_node-requires-clause-somewhere
move_node-requires-clause-somewhere c =
    let k = (goal.at.move_node-requires-clause-somewhere c).After-place_of in
    node_listed (membership_of c.self.inside) c.self.invariant c.requires.0 c.args.member c.in-Some.node (there k)
    (sym (sought k) ∙ c.in-Some.is)

pub invariant_of-self : goal.invariant_of-self
invariant_of-self c =
    let k = (goal.at.invariant_of-self c).After-place_of in
    rw (c.move_node.ensures, c.free-free.ensures, ← c.self.view_is)
    (removed_sound (membership_of c.self.inside) c.self.invariant c.requires.0 c.args.member c.in-Some.node (there k)
    (sym (sought k) ∙ c.in-Some.is))

pub returns : goal.returns
returns c =
    let v = membership_of c.self.inside in
    let k = (goal.at.returns c).After-place_of in
    rw (c.move_node.ensures, c.free-free.ensures, ← c.self.view_is)
    (removes v c.self.invariant c.requires.0 c.args.member c.in-Some.node (there k) (sym (sought k) ∙ c.in-Some.is))
