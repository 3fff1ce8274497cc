use Rattle.std.proofs.Common.{◌≡◌, ◌∙◌, ◌<◌, ◌==◌, ℕ, sym, ap, length, option_map, position, Option, Some, None, arith}
use Rattle.std.specs.Prelude.{slice_index}
use Rattle.std.proofs.lemmas.List.{get_or_read}
use Rattle.wf_links.specs.Lists.{list_at, lowest}
use Rattle.wf_members.specs.Membership.{members_at, members_of}
use Rattle.wf_members.specs.Inside.{membership_of}
use Rattle.wf_members.proofs.Kept.{lowest_in, lowest_named}
use Rattle.wf_members.proofs.members.Members.first.Goals as goal
use Rattle.wf_members.proofs.members.Members.first.Goals.{After-place_of, In_ok-node}

sought : (c : After-place_of) → c.place_of.result ≡ position (λ x. x == c.args.owner) c.self.inside.owners.items
sought c = c.place_of.ensures.place ∙ ap (position (λ x. x == c.args.owner)) c.deref.ensures.value

-- the members of the owner, by its place
by_place : (c : After-place_of) (o : Option ℕ) → c.place_of.result ≡ o
    → lowest (members_at o (membership_of c.self.inside)) ≡ lowest (members_of c.args.owner c.args.self.now)
unfolding members_of
by_place c o is =
    ap (λ q. lowest (members_at q (membership_of c.self.inside))) (sym is ∙ sought c)
    ∙ ap (λ v. lowest (members_of c.args.owner v)) c.self.view_is

pub returns-in_err-place : goal.returns-in_err-place
returns-in_err-place c =
    c.from_residual.ensures ∙ by_place (goal.at.returns-in_err-place c).After-place_of None c.in_err-place.was

pub returns-in_err-node : goal.returns-in_err-node
returns-in_err-node c =
    let s = c.self.inside in
    let nodes = list_at c.in_ok-place.place s.links.lists in
    c.from_residual-in_err-node.ensures
    ∙ ap (option_map (slice_index s.members.items)) (sym c.in_err-node.was ∙ c.lowest.ensures.lowest)
    ∙ sym (lowest_named s.members.items nodes)
    ∙ by_place (goal.at.returns-in_err-node c).After-place_of (Some c.in_ok-place.place) c.in_ok-place.was

-- the node is one of those that there are
within : (c : In_ok-node) → c.in_ok-node.node < length c.self.inside.members.items
within c =
    (c.self.invariant.placed.only c.in_ok-node.node c.in_ok-place.place
    (lowest_in c.in_ok-node.node (list_at c.in_ok-place.place c.self.inside.links.lists)
    (sym c.lowest.ensures.lowest ∙ c.in_ok-node.was))).0

pub index-requires : goal.index-requires
index-requires c = omega (arith, within c, c.self.inside.members.ok.0)

pub returns : goal.returns
returns c =
    let s = c.self.inside in
    let nodes = list_at c.in_ok-place.place s.links.lists in
    ap (λ n. Some n) (get_or_read s.members.items c.in_ok-node.node c.index.result.now (within (goal.at.returns c).In_ok-node)
    c.index.ensures 0)
    ∙ ap (option_map (slice_index s.members.items)) (sym c.in_ok-node.was ∙ c.lowest.ensures.lowest)
    ∙ sym (lowest_named s.members.items nodes)
    ∙ by_place (goal.at.returns c).After-place_of (Some c.in_ok-place.place) c.in_ok-place.was
