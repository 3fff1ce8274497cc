use Rattle.std.proofs.Common.{◌≡◌, take}
use Rattle.std.specs.Prelude.{sum, map}
use Rattle.wf_damage.specs.Bench.{area, IsRise, over_picture}
use Rattle.wf_damage.proofs.bench.paint_areas.Given as goal

-- the rectangles so far are painted and counted
abbrev pub invariant-loop-i : goal.invariant-loop-i
invariant-loop-i g l =
    record {
      picture : l.target ≡ over_picture l.scene l.contents (take l.i l.list) l.fn.target;
      painted : IsRise (g.B.Brush.count l.fn.brush) (g.B.Brush.count l.brush) (sum (map area (take l.i l.list)));
      size : l.target.size ≡ l.fn.target.size;
      format : l.target.format ≡ l.fn.target.format;
    }
