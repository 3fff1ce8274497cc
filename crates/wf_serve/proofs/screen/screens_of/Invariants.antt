use Rattle.std.proofs.Common.{◌≡◌, map, take}
use Rattle.wf_guard.specs.Screens.{screen_of}
use Rattle.wf_serve.proofs.screen.screens_of.Given as goal

-- the ports so far have their screens
abbrev pub invariant-loop-modes : goal.invariant-loop-modes
invariant-loop-modes l = l.screens.items ≡ map screen_of (take l.modes-index l.modes-items)
