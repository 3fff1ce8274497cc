use Rattle.wf_scene.specs.Slots.{elements_in, order_in}
use Rattle.wf_scene.proofs.Placed.{layers_placed}
use Rattle.wf_scene.proofs.cached.Cached.consistent.Goals as goal

pub returns-clause-placed : goal.returns-clause-placed
returns-clause-placed g c =
    let sight = g.L.Look.sight c.args.look.now in
    let inside = c.self.inside in
    rw c.in_ok-layers.ensures.layers
    (layers_placed sight (order_in inside.slots) (elements_in inside.slots) c.self.invariant.orderly.placed)
