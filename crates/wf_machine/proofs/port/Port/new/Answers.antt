use Rattle.wf_machine.proofs.Common.{◌∷◌, [], Some, length, ap, arith, length-append}
use Rattle.wf_machine.proofs.Images.{holds_more, is_frame_image, taken_more}
use Rattle.wf_machine.proofs.port.Port.new.Goals as goal

pub loop-size-preserved : goal.loop-size-preserved
loop-size-preserved c =
    let so_far = c.loop-size.invariant in
    let modes-are = c.push.ensures.items in
    let images-are = c.push_reserved.ensures.items in
    record {
      modes = taken_more _ c.loop-size.modes.items _ c.loop-size.size-index _ c.loop-size-test.true
          so_far.modes modes-are;
      images = rw (modes-are, images-are) (holds_more c.loop-size.modes.items c.loop-size.images.items _ (Some c.in_ok-new.field-0)
          so_far.images (is_frame_image _ c.in_ok-new.field-0 c.in_ok-new.ensures));
      many = omega (arith, so_far.many, ap length images-are, length-append c.loop-size.images.items (Some c.in_ok-new.field-0 ∷ []));
      room = omega (arith, so_far.room, c.push_reserved.ensures.capacity);
    }
