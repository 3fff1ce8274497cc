use Rattle.std.proofs.Common.{arith}
use Rattle.wf_script.specs.Canonical.{hex_pixel_word}
use Rattle.wf_script.proofs.Additions.{adds_next}
use Rattle.wf_script.proofs.token.add_pixels.Goals as goal

pub loop-pixel-preserved : goal.loop-pixel-preserved
loop-pixel-preserved g c = record {
  adds = adds_next g.K.Sink.took g.K.Sink.faults hex_pixel_word c.args.pixels.now c.loop-pixel.pixel-index _ _ _ _ _ _ _
      c.loop-pixel-test.true c.loop-pixel.invariant.adds (rw c.hex_of.ensures at c.add.ensures.adds);
  most = omega (arith, c.hex_of.ensures);
}
