use Rattle.std.specs.Prelude.{All}
use Rattle.wf_kernel.specs.Bound.{bound_colour}
use Rattle.wf_kernel.specs.Kept.{AreKept}
use Rattle.wf_kernel.specs.PartOfTarget.{IsPartly}
use Rattle.wf_kernel.specs.Strips.{IsStrip}
use Rattle.wf_kernel.proofs.Partly.{upto}
use Rattle.wf_kernel.proofs.parts.paint_part.Given as goal

-- the rows so far are written
abbrev pub invariant-loop-y : goal.invariant-loop-y
invariant-loop-y l =
    record {
      partly : IsPartly l.width l.height (bound_colour l.layers l.background) (upto l.part l.y) l.fn.bytes l.bytes;
      kept : All (AreKept l.layers) l.kept;
      strips : All (IsStrip l.layers l.part.right) l.strips;
    }
