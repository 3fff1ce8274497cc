use Rattle.std.proofs.Common.{◌≡◌, ◌++◌, drop, length, map, take}
use Rattle.wf_serve.specs.Pictures.{forgotten}
use Rattle.wf_serve.proofs.screen.forget_all.Given as goal

-- the screens so far show nothing
abbrev pub invariant-loop-n : goal.invariant-loop-n
invariant-loop-n l = record {
  so_far : l.screens.items ≡ map forgotten (take l.n l.initial.screens.items) ++ drop l.n l.initial.screens.items;
  count : length l.screens.items ≡ length l.initial.screens.items;
}
