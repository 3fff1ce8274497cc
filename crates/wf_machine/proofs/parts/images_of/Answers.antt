use Rattle.wf_machine.proofs.Common.{◌++◌, ◌∷◌, [], length, take, sym, ap, subst, ◌∙◌, arith, length-append, take_more}
use Rattle.wf_machine.proofs.MachineOpened.{HaveImages, declared_ports, may_at, more_images}
use Rattle.wf_machine.proofs.parts.images_of.Goals as goal

pub loop-modes-preserved : goal.loop-modes-preserved
loop-modes-preserved c =
    let all = c.as_slice-modes-items.result.now in
    let i = c.loop-modes.modes-index in
    let m = c.modes-item.result in
    let so_far = c.loop-modes.invariant in
    let may = may_at all i m c.loop-modes-test.true c.modes-item.is
    (rw c.as_slice-modes-items.ensures.value (declared_ports c.args.ports.now c.requires).1) in
    let more = more_images c.loop-modes.images.items c.push_reserved.new.self.items (take i all) m c.in_ok-new.field-0 so_far.so_far may
    c.push_reserved.ensures.items (c.in_ok-new.ensures.modes ∙ c.as_slice-sizes.ensures.value) c.in_ok-new.ensures.images in
    record {
      so_far = subst (λ ms. HaveImages c.push_reserved.new.self.items ms)
          (sym (take_more all i m c.loop-modes-test.true ∙ ap (λ x. take i all ++ x ∷ []) (sym c.modes-item.is))) more;
      many = omega (
        arith,
        so_far.many,
        ap length c.push_reserved.ensures.items,
        length-append c.loop-modes.images.items (c.in_ok-new.field-0 ∷ []),
      );
      room = omega (arith, so_far.room, c.push_reserved.ensures.capacity);
    }
