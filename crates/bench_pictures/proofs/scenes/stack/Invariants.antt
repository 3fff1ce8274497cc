use Rattle.std.specs.Prelude.{All, max}
use Rattle.bench_pictures.specs.Shown.{IsShown}
use Rattle.bench_pictures.proofs.scenes.stack.Given as goal

-- the layers so far are shown
abbrev pub invariant-loop : goal.invariant-loop
invariant-loop l = All (IsShown l.size (max l.size.w l.size.h)) l.layers.items
