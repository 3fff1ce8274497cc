use Rattle.std.proofs.Common.{arith}
use Rattle.wf_kernel.proofs.Bindings.{place_next, place_low, all_counted}
use Rattle.wf_kernel.proofs.tables.count_tables.Goals as goal

pub next_place-count-requires : goal.next_place-count-requires
next_place-count-requires c =
    let low = place_low c.args.scene.now c.loop-i.i c.loop-i.count c.loop-i.invariant in
    omega arith

pub loop-i-preserved : goal.loop-i-preserved
loop-i-preserved c =
    place_next c.args.scene.now c.as_slice-layers.result.now c.loop-i.i _ c.loop-i.count c.next_place-count.result
    c.as_slice-layers.ensures.value c.loop-i-test.true c.loop-i.invariant c.next_place-count.ensures.needed
    c.next_place-count.ensures.not_needed

pub returns-clause-value : goal.returns-clause-value
returns-clause-value c =
    all_counted c.args.scene.now c.as_slice-layers.result.now c.loop-i.i c.loop-i.count c.as_slice-layers.ensures.value (omega arith)
    c.loop-i.invariant

pub returns-clause-few : goal.returns-clause-few
returns-clause-few c =
    let low = place_low c.args.scene.now c.loop-i.i c.loop-i.count c.loop-i.invariant in
    omega arith
