use Rattle.wf_damage.proofs.Painted.{are_places, kept_is}
use Rattle.wf_damage.proofs.bench.BenchPainter.paint.Goals as goal

pub invariant_of-self-2 : goal.invariant_of-self-2
invariant_of-self-2 g c =
    are_places c.self.inside.places.items c.in-Some.i c.keep.new.place c.self.invariant
    (kept_is c.keep.new.place c.args.kind.now c.args.scene.now c.args.contents.now c.repaint.new.target c.args.target.now.format
    c.requires.pixels
    c.repaint.ensures.picture c.keep.ensures)
