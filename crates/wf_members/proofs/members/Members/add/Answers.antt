use Rattle.std.proofs.Common.{◌≡◌, ◌∙◌, ◌<◌, ◌==◌, ℕ, sym, ap, subst, true, false, length, position, Some, None, arith}
use Rattle.wf_words.specs.Keyed.{is_in}
use Rattle.wf_links.specs.Lists.{list_at, lowest}
use Rattle.wf_members.specs.Membership.{is_open, member_count, members_of, most_members}
use Rattle.wf_members.specs.Calls.{Adds}
use Rattle.wf_members.specs.Inside.{membership_of}
use Rattle.wf_members.proofs.Kept.{free_node, open_place}
use Rattle.wf_members.proofs.Told.{added_sound, adds, free_listed, free_within, with_member}
use Rattle.wf_members.proofs.members.Members.add.Goals as goal
use Rattle.wf_members.proofs.members.Members.add.Goals.{After-place_of, After-lowest}

sought : (c : After-place_of) → c.place_of.result ≡ position (λ x. x == c.args.owner) c.self.inside.owners.items
sought c = c.place_of.ensures.place ∙ ap (position (λ x. x == c.args.owner)) c.deref.ensures.value

lowest_free : (c : After-lowest) → c.lowest.result ≡ lowest (list_at (length c.self.inside.owners.items) c.self.inside.links.lists)
lowest_free c =
    c.lowest.ensures.lowest
    ∙ ap (λ n. lowest (list_at n c.self.inside.links.lists)) (c.free.ensures ∙ ap (λ v. length v.owners) (sym c.self.view_is))

-- what is required, of the fields

opened : (c : After-place_of) → is_open c.args.owner (membership_of c.self.inside) ≡ true
opened c = subst (λ v. is_open c.args.owner v ≡ true) (sym c.self.view_is) c.requires.is_open

nobodys : (c : After-place_of) (o : ℕ) → is_in c.args.member (members_of o (membership_of c.self.inside)) ≡ false
nobodys c o = subst (λ v. is_in c.args.member (members_of o v) ≡ false) (sym c.self.view_is) (c.requires.nobodys o)

pub unreachable-requires : goal.unreachable-requires
unreachable-requires c =
    let k = (goal.at.unreachable-requires c).After-place_of in
    let place = open_place (membership_of c.self.inside) c.self.invariant c.args.owner (opened k) in
    let both : None ≡ Some place.0 = sym c.in_default.is ∙ sought k ∙ place.1 in
    cc

pub unreachable-requires-in_default-lowest : goal.unreachable-requires-in_default-lowest
unreachable-requires-in_default-lowest c =
    let k = (goal.at.unreachable-requires-in_default-lowest c).After-lowest in
    let node = free_node (membership_of c.self.inside) c.self.invariant
    (subst (λ v. member_count v < most_members v) (sym c.self.view_is) c.requires.room) in
    let both : None ≡ Some node.0 = sym c.in_default-lowest.is ∙ lowest_free k ∙ node.1 in
    cc

pub index_mut-requires : goal.index_mut-requires
index_mut-requires c =
    let k = (goal.at.index_mut-requires c).After-place_of in
    let l = (goal.at.index_mut-requires c).After-lowest in
    let less = free_within (membership_of c.self.inside) c.self.invariant c.args.owner c.args.member c.in-Some.place
    c.in-Some-lowest.node
    (sym (sought k) ∙ c.in-Some.is) (opened k) c.requires.named (nobodys k) (sym (lowest_free l) ∙ c.in-Some-lowest.is) in
    omega (arith, less, c.self.inside.members.ok.0)

pub move_node-requires-clause-node : goal.move_node-requires-clause-node
move_node-requires-clause-node c =
    let k = (goal.at.move_node-requires-clause-node c).After-place_of in
    let l = (goal.at.move_node-requires-clause-node c).After-lowest in
    let less = free_within (membership_of c.self.inside) c.self.invariant c.args.owner c.args.member c.in-Some.place
    c.in-Some-lowest.node
    (sym (sought k) ∙ c.in-Some.is) (opened k) c.requires.named (nobodys k) (sym (lowest_free l) ∙ c.in-Some-lowest.is) in
    omega (arith, less, c.self.invariant.nodes)

pub move_node-requires-clause-somewhere : goal.move_node-requires-clause-somewhere
move_node-requires-clause-somewhere c =
    let k = (goal.at.move_node-requires-clause-somewhere c).After-place_of in
    let l = (goal.at.move_node-requires-clause-somewhere c).After-lowest in
    free_listed (membership_of c.self.inside) c.self.invariant c.args.owner c.args.member c.in-Some.place c.in-Some-lowest.node
    (sym (sought k) ∙ c.in-Some.is) (opened k) c.requires.named (nobodys k) (sym (lowest_free l) ∙ c.in-Some-lowest.is)

pub invariant_of-self : goal.invariant_of-self
invariant_of-self c =
    let k = (goal.at.invariant_of-self c).After-place_of in
    let l = (goal.at.invariant_of-self c).After-lowest in
    rw c.move_node.ensures
    (added_sound (membership_of c.self.inside) c.self.invariant c.args.owner c.args.member c.in-Some.place c.in-Some-lowest.node
    (sym (sought k) ∙ c.in-Some.is) (opened k) c.requires.named (nobodys k) (sym (lowest_free l) ∙ c.in-Some-lowest.is))

pub returns : goal.returns
returns c =
    let v = membership_of c.self.inside in
    let k = (goal.at.returns c).After-place_of in
    let l = (goal.at.returns c).After-lowest in
    rw c.move_node.ensures
    (subst (λ w. Adds c.args.owner c.args.member w (with_member v c.self.invariant c.in-Some-lowest.node c.args.member c.in-Some.place))
    c.self.view_is
    (adds v c.self.invariant c.args.owner c.args.member c.in-Some.place c.in-Some-lowest.node
    (sym (sought k) ∙ c.in-Some.is) (opened k) c.requires.named (nobodys k) (sym (lowest_free l) ∙ c.in-Some-lowest.is)))
