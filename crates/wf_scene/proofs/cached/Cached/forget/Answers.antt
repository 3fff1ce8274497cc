use Rattle.wf_scene.specs.Inside.{scene_inside}
use Rattle.wf_scene.proofs.Handled.{orderly_forgotten}
use Rattle.wf_scene.proofs.cached.Cached.forget.Goals as goal

pub invariant_of-self : goal.invariant_of-self
invariant_of-self c = record {
  orderly =
      rw (c.forget.ensures.elements, c.forget.ensures.order)
      (orderly_forgotten (scene_inside c.self.inside) c.self.invariant.orderly c.args.element);
  kept = c.forget.ensures.kept;
}

pub returns-clause-orderly : goal.returns-clause-orderly
returns-clause-orderly c = (invariant_of-self c).orderly
