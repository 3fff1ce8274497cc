use Rattle.wf_damage.proofs.Places.{place_more, place_few}
use Rattle.wf_damage.proofs.changes.areas_by.Goals as goal

pub loop-i-preserved : goal.loop-i-preserved
loop-i-preserved c =
    let before = c.args.before.now in
    let now = c.args.now.now in
    let a = c.as_slice-a.result.now in
    let b = c.as_slice-b.result.now in
    record {
      few = place_few before now a b c.loop-i.i c.loop-i.list.items c.add_place.new.list.items c.loop-i.invariant.few
          c.add_place.ensures.list;
      left =
          place_more before now a b c.loop-i.i c.loop-i.list.items c.add_place.new.list.items _ c.loop-i.invariant.left
          c.add_place.ensures.list;
      compared = c.add_place.ensures.compared;
    }
