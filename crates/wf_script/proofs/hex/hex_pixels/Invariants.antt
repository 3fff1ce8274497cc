use Rattle.std.proofs.Common.{◌≡◌, length}
use Rattle.wf_script.specs.PaintWords.{hex_pixels}
use Rattle.wf_script.specs.Items.{behind}
use Rattle.wf_script.proofs.hex.hex_pixels.Given as goal

-- the pixels so far stand before those of the digits that are left
abbrev pub invariant-loop-rest : goal.invariant-loop-rest
invariant-loop-rest l = behind l.pixels.items (hex_pixels l.rest) ≡ hex_pixels l.word

abbrev pub decreases-loop-rest : goal.decreases-loop-rest
decreases-loop-rest l = length l.rest
