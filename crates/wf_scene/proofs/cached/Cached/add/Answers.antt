use Rattle.wf_scene.specs.Inside.{scene_inside}
use Rattle.wf_scene.proofs.Handled.{orderly_added}
use Rattle.wf_scene.proofs.cached.Cached.add.Goals as goal

pub invariant_of-self : goal.invariant_of-self
invariant_of-self c =
    let room = rw (← c.self.view_is) at c.requires.room in
    let fresh = rw (← c.self.view_is) at c.requires.fresh in
    record {
      orderly =
          rw (c.add.ensures.elements, c.add.ensures.order)
          (orderly_added (scene_inside c.self.inside) c.self.invariant.orderly c.args.element room c.requires.handle fresh);
      kept = c.add.ensures.kept;
    }

pub returns-clause-orderly : goal.returns-clause-orderly
returns-clause-orderly c = (invariant_of-self c).orderly
