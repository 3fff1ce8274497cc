use Rattle.std.proofs.Common.{◌∙◌, ap, length, subst, sym}
use Rattle.std.specs.Bool.{IsTrue}
use Rattle.wf_pixel.specs.Choice.{has_sides}
use Rattle.wf_film.proofs.FrameLaws.{image_stands}
use Rattle.wf_film.proofs.writer.prove_frame.Goals as goal

pub returns : goal.returns
returns c =
    image_stands c.args.form c.args.port c.args.tick c.args.begin c.args.image.now c.requires.low_port c.requires.high_port
    c.ranges.tick.fits c.ranges.begin.fits (subst (λ s. IsTrue (has_sides s)) c.size-sides.ensures.size c.size-sides.ensures.sides)
    c.requires.pixels (sym (ap length c.bytes-bytes.ensures.value) ∙ c.bytes-bytes.ensures.len)
