use Rattle.wf_scene.specs.Inside.{scene_inside}
use Rattle.wf_scene.proofs.Handled.{orderly_removed}
use Rattle.wf_scene.proofs.cached.Cached.remove.Goals as goal

pub invariant_of-self : goal.invariant_of-self
invariant_of-self c = record {
  orderly =
      rw (c.remove.ensures.elements, c.remove.ensures.order)
      (orderly_removed (scene_inside c.self.inside) c.self.invariant.orderly c.args.element);
  kept = c.remove.ensures.kept;
}

pub returns-clause-orderly : goal.returns-clause-orderly
returns-clause-orderly c = (invariant_of-self c).orderly
