use Rattle.std.proofs.Common.{◌+◌, ◌*◌, ◌≤◌, flat_map, take}
use Rattle.wf_script.specs.Canonical.{hex_pixel_word}
use Rattle.wf_script.specs.Text.{Adds, extent}
use Rattle.wf_script.proofs.token.add_pixels.Given as goal

abbrev pub invariant-loop-pixel : goal.invariant-loop-pixel
invariant-loop-pixel g l = record {
  adds : Adds g.K.Sink.took g.K.Sink.faults l.initial.text l.initial.k l.text l.k
      (flat_map hex_pixel_word (take l.pixel-index l.pixels));
  most : extent l.text ≤ extent l.initial.text + 8 * l.pixel-index;
}
