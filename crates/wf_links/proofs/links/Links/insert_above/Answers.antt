use Rattle.std.proofs.Common.{Some, arith}
use Rattle.wf_links.proofs.Inserted.{base_within, next_within}
use Rattle.wf_links.proofs.Left.{nodes_left, lowest_left, insert_left}
use Rattle.wf_links.proofs.links.Links.insert_above.Goals as goal

pub next_up-above-requires-clause-node : goal.next_up-above-requires-clause-node
next_up-above-requires-clause-node c = λ m is.
    (let given = rw (← c.self.view_is) at c.requires.below in
    omega (arith, c.deref.ensures.len, c.self.inside.nodes.ok.0, base_within _ _ _ c.args.list c.args.below c.self.invariant given m is))

pub set_above-requires-clause-node : goal.set_above-requires-clause-node
set_above-requires-clause-node c = λ m is.
    (let given = rw (← c.self.view_is) at c.requires.below in
    omega (
      arith,
      c.deref_mut.ensures.len,
      c.self.inside.nodes.ok.0,
      base_within _ _ _ c.args.list c.args.below c.self.invariant given m is,
    ))

pub set_below-requires : goal.set_below-requires
set_below-requires c = λ m is.
    (let s = c.self.inside in
    let r = rw (← c.self.view_is) at c.requires in
    let above_is = rw (c.deref.ensures.value, c.deref-2.ensures.value) at c.next_up-above.ensures in
    let near = next_within s.nodes.items s.lowest.items _ c.args.list c.args.below c.next_up-above.result c.self.invariant r.list r.below
    above_is m is in
    omega (arith, c.deref_mut-3.ensures.len, s.nodes.ok.0, near))

pub returns : goal.returns
returns c =
    let s = c.self.inside in
    let r = rw (← c.self.view_is) at c.requires in
    let above_is = rw (c.deref.ensures.value, c.deref-2.ensures.value) at c.next_up-above.ensures in
    let nodes = nodes_left s.nodes.len s.nodes.items c.args.node _ c.args.below (Some c.args.node) c.next_up-above.result (Some c.args.node)
    _ _ _ _ s.nodes.ok.0 c.deref_mut.ensures.value c.set_above.ensures.nodes c.deref_mut-3.ensures.value c.set_below.ensures in
    let lowest = lowest_left s.lowest.len s.lowest.items c.args.list c.args.below (Some c.args.node) _ _ s.lowest.ok.0
    c.deref_mut-2.ensures.value c.set_above.ensures.lowest in
    let left = insert_left s.nodes.items s.lowest.items _ c.args.list c.args.node c.args.below c.next_up-above.result _ _ c.self.invariant
    r.list r.node r.free r.below above_is nodes lowest in
    rw (← c.self.view_is) (record { inserted = left.view; orderly = left.orderly })

pub invariant_of-self : goal.invariant_of-self
invariant_of-self c =
    let s = c.self.inside in
    let r = rw (← c.self.view_is) at c.requires in
    let above_is = rw (c.deref.ensures.value, c.deref-2.ensures.value) at c.next_up-above.ensures in
    let nodes = nodes_left s.nodes.len s.nodes.items c.args.node _ c.args.below (Some c.args.node) c.next_up-above.result (Some c.args.node)
    _ _ _ _ s.nodes.ok.0 c.deref_mut.ensures.value c.set_above.ensures.nodes c.deref_mut-3.ensures.value c.set_below.ensures in
    let lowest = lowest_left s.lowest.len s.lowest.items c.args.list c.args.below (Some c.args.node) _ _ s.lowest.ok.0
    c.deref_mut-2.ensures.value c.set_above.ensures.lowest in
    (insert_left s.nodes.items s.lowest.items _ c.args.list c.args.node c.args.below c.next_up-above.result _ _ c.self.invariant
    r.list r.node r.free r.below above_is nodes lowest).sound
