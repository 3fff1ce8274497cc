use Rattle.std.specs.Prelude.{All, max}
use Rattle.bench_pictures.specs.Shown.{IsShown}
use Rattle.bench_pictures.proofs.scenes.windows.Given as goal

-- the layers so far are shown
abbrev pub invariant-loop-i : goal.invariant-loop-i
invariant-loop-i l = All (IsShown l.size (max l.size.w l.size.h)) l.layers.items
