use Rattle.std.proofs.Common.{sym, arith, ◌∙◌}
use Rattle.wf_links.proofs.Represented.{node_within, list_within, is_read}
use Rattle.wf_links.proofs.Removed.{below_within, above_within}
use Rattle.wf_links.proofs.Left.{nodes_left, lowest_left, remove_left}
use Rattle.wf_links.proofs.links.Links.remove.Goals as goal

pub index-requires : goal.index-requires
index-requires c =
    let some = rw (← c.self.view_is) at c.requires in
    omega (arith, c.self.inside.nodes.ok.0, node_within _ _ _ c.args.node c.self.invariant some)

pub returns-in_default : goal.returns-in_default
returns-in_default c =
    let some = rw (← c.self.view_is) at c.requires in
    let links = is_read _ _ _ c.args.node c.index.result.now c.self.invariant some c.index.ensures in
    absurd (let none = rw (sym links.list ∙ c.in_default.is) at some in cc)

pub index_mut-requires : goal.index_mut-requires
index_mut-requires c =
    let some = rw (← c.self.view_is) at c.requires in
    omega (arith, c.self.inside.nodes.ok.0, node_within _ _ _ c.args.node c.self.invariant some)

pub set_above-requires-clause-list : goal.set_above-requires-clause-list
set_above-requires-clause-list c =
    let some = rw (← c.self.view_is) at c.requires in
    let links = is_read _ _ _ c.args.node c.index.result.now c.self.invariant some c.index.ensures in
    omega (
      arith,
      c.deref_mut-2.ensures.len,
      c.self.inside.lowest.ok.0,
      list_within _ _ _ c.args.node c.in-Some.list c.self.invariant (sym links.list ∙ c.in-Some.is),
    )

pub set_above-requires-clause-node : goal.set_above-requires-clause-node
set_above-requires-clause-node c = λ m is.
    (let some = rw (← c.self.view_is) at c.requires in
    let links = is_read _ _ _ c.args.node c.index.result.now c.self.invariant some c.index.ensures in
    omega (
      arith,
      c.deref_mut.ensures.len,
      c.self.inside.nodes.ok.0,
      below_within _ _ _ c.in-Some.list c.args.node c.index.result.now
          c.self.invariant (sym links.list ∙ c.in-Some.is) links.stands m is,
    ))

pub set_below-requires : goal.set_below-requires
set_below-requires c = λ m is.
    (let some = rw (← c.self.view_is) at c.requires in
    let links = is_read _ _ _ c.args.node c.index.result.now c.self.invariant some c.index.ensures in
    omega (
      arith,
      c.deref_mut-3.ensures.len,
      c.self.inside.nodes.ok.0,
      above_within _ _ _ c.in-Some.list c.args.node c.index.result.now
          c.self.invariant (sym links.list ∙ c.in-Some.is) links.stands m is,
    ))

pub returns : goal.returns
returns c =
    let s = c.self.inside in
    let x = c.index.result.now in
    let some = rw (← c.self.view_is) at c.requires in
    let links = is_read _ _ _ c.args.node x c.self.invariant some c.index.ensures in
    let nodes = nodes_left s.nodes.len s.nodes.items c.args.node _ x.below x.above x.above x.below _ _ _ _ s.nodes.ok.0
    c.deref_mut.ensures.value c.set_above.ensures.nodes c.deref_mut-3.ensures.value c.set_below.ensures in
    let lowest = lowest_left s.lowest.len s.lowest.items c.in-Some.list x.below x.above _ _ s.lowest.ok.0
    c.deref_mut-2.ensures.value c.set_above.ensures.lowest in
    let left = remove_left s.nodes.items s.lowest.items _ c.in-Some.list c.args.node x _ _ c.self.invariant
    (sym links.list ∙ c.in-Some.is) links.stands nodes lowest in
    rw (← c.self.view_is) (record { removed = left.view; orderly = left.orderly })

pub invariant_of-self : goal.invariant_of-self
invariant_of-self c =
    let s = c.self.inside in
    let x = c.index.result.now in
    let some = rw (← c.self.view_is) at c.requires in
    let links = is_read _ _ _ c.args.node x c.self.invariant some c.index.ensures in
    let nodes = nodes_left s.nodes.len s.nodes.items c.args.node _ x.below x.above x.above x.below _ _ _ _ s.nodes.ok.0
    c.deref_mut.ensures.value c.set_above.ensures.nodes c.deref_mut-3.ensures.value c.set_below.ensures in
    let lowest = lowest_left s.lowest.len s.lowest.items c.in-Some.list x.below x.above _ _ s.lowest.ok.0
    c.deref_mut-2.ensures.value c.set_above.ensures.lowest in
    (remove_left s.nodes.items s.lowest.items _ c.in-Some.list c.args.node x _ _ c.self.invariant (sym links.list ∙ c.in-Some.is)
    links.stands nodes lowest).sound
