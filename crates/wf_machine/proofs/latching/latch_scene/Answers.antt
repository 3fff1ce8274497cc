use Rattle.wf_machine.proofs.Common.{◌+◌, ◌≤◌, ◌∙◌, length, map, sym, ap, subst, arith, content_shape}
use Rattle.wf_machine.proofs.StreamsLatched.{IsTaken, few_step, names_more, nothing_taken, take_home, take_nothing, take_step}
use Rattle.wf_machine.proofs.latching.latch_scene.Goals as goal
use Rattle.wf_machine.proofs.latching.latch_scene.Goals.{then-layer-ne0, else-layer-ne0}

pub loop-layer-init : goal.loop-layer-init
loop-layer-init c = record {
  so_far = nothing_taken _ _ c.requires.none;
  few = omega (arith, ap length c.requires.none);
  shapes = c.requires.no_shapes ∙ ap (map content_shape) (sym c.requires.none);
}

pub take-requires-clause-home : goal.take-requires-clause-home
take-requires-clause-home c = take_home _ c.loop-layer.store _ _ c.loop-layer.contents c.requires.home
    c.loop-layer.invariant.so_far

pub take-requires-then-layer-ne0-clause-home : goal.take-requires-then-layer-ne0-clause-home
take-requires-then-layer-ne0-clause-home c =
    let first = take_step _ c.loop-layer.store _ _ _ _ c.loop-layer.contents
    c.take.new.contents c.requires.numbered c.loop-layer.invariant.so_far c.take.ensures.contents c.take.ensures.store
    c.take.ensures.shaped in
    take_home _ _ _ _ _ c.requires.home first

pub loop-layer-preserved : goal.loop-layer-preserved
loop-layer-preserved c =
    let first = take_step _ c.loop-layer.store _ _ _ _ c.loop-layer.contents
    c.take.new.contents c.requires.numbered c.loop-layer.invariant.so_far c.take.ensures.contents c.take.ensures.store
    c.take.ensures.shaped in
    let one : length c.take.new.contents ≤ length c.loop-layer.contents + 1 =
    few_step _ c.loop-layer.store.streams c.loop-layer.contents _ c.take.ensures.contents in
    let more = names_more c.loop-layer.layer-index _ _ c.loop-layer-test.true in
    elim c.if-layer-ne0.branch [
      | then-layer-ne0 w ↦
          let t = w.take-then-layer-ne0 in
          let second = take_step _ _ t.new.store _ _ _ _ t.new.contents
          c.requires.numbered first t.ensures.contents t.ensures.store t.ensures.shaped in
          let two : length t.new.contents ≤ length c.take.new.contents + 1 =
          few_step _ _ _ t.new.contents t.ensures.contents in
          rw (w.store-is, w.contents-is, w.shapes-is) (record {
            so_far = subst (λ ns. IsTaken c.args.store.now ns t.new.contents t.new.store) (sym more) second;
            few = omega (arith, c.loop-layer.invariant.few);
            shapes = t.ensures.shapes;
          })
      | else-layer-ne0 w ↦
          let second = take_nothing _ c.take.new.store _ _ _ c.take.new.contents c.requires.numbered w.if-layer-ne0.false first in
          rw (w.store-is, w.contents-is, w.shapes-is) (record {
            so_far = subst (λ ns. IsTaken c.args.store.now ns c.take.new.contents c.take.new.store) (sym more) second;
            few = omega (arith, c.loop-layer.invariant.few);
            shapes = c.take.ensures.shapes;
          })
    ]
