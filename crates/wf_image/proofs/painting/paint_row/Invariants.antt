use Rattle.std.proofs.Common.{◌≡◌, ◌*◌, ◌++◌, drop}
use Rattle.wf_image.specs.Bitmap.{pixel_bytes}
use Rattle.wf_image.proofs.Spans.{cells}
use Rattle.wf_image.proofs.painting.paint_row.Given as goal

-- the pixels so far are painted, and the others are as they were
abbrev pub invariant-loop-x : goal.invariant-loop-x
invariant-loop-x l =
    l.row ≡ cells l.size l.format l.fn.row l.p l.y 0 l.x ++ drop (l.x * pixel_bytes l.format) l.fn.row
