use Rattle.std.proofs.Common.{arith}
use Rattle.wf_kernel.specs.Bound.{bound}
use Rattle.wf_kernel.proofs.Bindings.{bound_more, table_for, place_next, place_low}
use Rattle.wf_kernel.proofs.bound.bind_layers.Goals as goal

pub bind_layer-requires-clause-table : goal.bind_layer-requires-clause-table
bind_layer-requires-clause-table g c =
    table_for c.args.scene.now c.args.left c.args.right c.args.tables.now c.as_slice-layers.result.now c.loop-i.i c.loop-i.place _
    c.table_at-table.result.now c.requires.tables c.as_slice-layers.ensures.value c.loop-i-test.true c.loop-i.invariant.place_is
    c.table_at-table.ensures

pub next_place-place-requires : goal.next_place-place-requires
next_place-place-requires g c =
    let low = place_low c.args.scene.now c.loop-i.i c.loop-i.place c.loop-i.invariant.place_is in
    omega arith

pub loop-i-preserved : goal.loop-i-preserved
loop-i-preserved g c = record {
  items =
      bound_more (bound c.args.scene.now c.args.contents.now c.args.left c.args.right) c.as_slice-layers.result.now
      c.args.scene.now.layers.items c.loop-i.i _ c.loop-i.list.items c.push.new.self.items c.bind_layer.result
      c.as_slice-layers.ensures.value c.loop-i-test.true c.loop-i.invariant.items c.bind_layer.ensures c.push.ensures.items;
  place_is =
      place_next c.args.scene.now c.as_slice-layers.result.now c.loop-i.i _ c.loop-i.place c.next_place-place.result
      c.as_slice-layers.ensures.value c.loop-i-test.true c.loop-i.invariant.place_is c.next_place-place.ensures.needed
      c.next_place-place.ensures.not_needed;
}
