use Rattle.std.proofs.Common.{◌≡◌, ◌≤◌, ◌++◌, ◌∷◌, map, vec_capacity}
use Rattle.wf_show.specs.declared.player.Player.{Player}
use Rattle.wf_show.proofs.closing.gather.Given as goal

abbrev pub invariant-loop-player : goal.invariant-loop-player
invariant-loop-player l =
    (goal.iterator-loop-player).can_next l.player-iterator × (goal.iterator-loop-player).is_finite l.player-iterator
    × (l.ended.items ≡ l.fn.clock.pass ∷ map (λ (p : Player). p.pass) l.yielded)
    × (8 ≤ vec_capacity l.ended)
    × (l.yielded ++ l.player-iterator.rest.items ≡ l.fn.others.items)
