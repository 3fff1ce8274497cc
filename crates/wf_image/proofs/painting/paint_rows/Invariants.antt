use Rattle.std.proofs.Common.{◌≡◌, ◌*◌, ◌++◌, drop}
use Rattle.wf_image.specs.Bitmap.{pixel_bytes}
use Rattle.wf_image.proofs.Spans.{rows}
use Rattle.wf_image.proofs.painting.paint_rows.Given as goal

-- the rows so far are painted, and the others are as they were
abbrev pub invariant-loop-y : goal.invariant-loop-y
invariant-loop-y l =
    l.bytes ≡ rows l.size l.format l.fn.bytes l.p 0 l.y ++ drop (l.y * (l.size.w * pixel_bytes l.format)) l.fn.bytes
