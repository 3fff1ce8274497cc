use Rattle.std.proofs.Common.{length, ◌∙◌, arith}
use Rattle.wf_kernel.proofs.Bindings.{place_next, place_low, table_room, filled_more, filled_all, all_counted}
use Rattle.wf_kernel.proofs.tables.fill_tables.Goals as goal

pub fill_needed-requires-clause-room : goal.fill_needed-requires-clause-room
fill_needed-requires-clause-room c =
    table_room c.args.scene.now c.as_slice-layers.result.now c.loop-i.i _ c.loop-i.place (length c.loop-i.tables)
    c.as_slice-layers.ensures.value c.loop-i-test.true c.loop-i.invariant.place_is
    (let len = c.loop-i.invariant.len in let room = c.requires.room in omega arith)

pub next_place-place-requires : goal.next_place-place-requires
next_place-place-requires c =
    let low = place_low c.args.scene.now c.loop-i.i c.loop-i.place c.loop-i.invariant.place_is in
    omega arith

pub loop-i-preserved : goal.loop-i-preserved
loop-i-preserved c =
    let scene = c.args.scene.now in
    let layers = c.as_slice-layers.result.now in
    let next = c.next_place-place.result in
    let next_is = place_next scene layers c.loop-i.i _ c.loop-i.place next c.as_slice-layers.ensures.value c.loop-i-test.true
    c.loop-i.invariant.place_is c.next_place-place.ensures.needed c.next_place-place.ensures.not_needed in
    record {
      len = c.fill_needed.ensures.len ∙ c.loop-i.invariant.len;
      place_is = next_is;
      filled =
          filled_more scene c.args.left c.args.right layers c.loop-i.i c.loop-i.place next _ c.turned-space.result c.loop-i.tables
          c.fill_needed.new.tables c.loop-i-test.true c.loop-i.invariant.place_is next_is c.next_place-place.ensures.up
          c.next_place-place.ensures.needed c.fill_needed.ensures.before c.turned-space.ensures c.fill_needed.ensures.table
          c.loop-i.invariant.filled;
    }

pub returns : goal.returns
returns c =
    let scene = c.args.scene.now in
    let layers = c.as_slice-layers.result.now in
    let all = all_counted scene layers c.loop-i.i c.loop-i.place c.as_slice-layers.ensures.value (omega arith)
    c.loop-i.invariant.place_is in
    let len = c.loop-i.invariant.len in
    let room = c.requires.room in
    filled_all scene c.args.left c.args.right layers c.loop-i.i c.loop-i.place c.loop-i.tables c.as_slice-layers.ensures.value (omega arith)
    c.loop-i.invariant.place_is (omega (arith, all, len, room)) c.loop-i.invariant.filled
