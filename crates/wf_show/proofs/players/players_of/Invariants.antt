use Rattle.std.proofs.Common.{◌≡◌, ◌≤◌, ◌+◌, ◌++◌, length, vec_capacity}
use Rattle.wf_show.specs.Players.{AreFresh}
use Rattle.wf_show.specs.Opened.{passes_from}
use Rattle.wf_show.proofs.players.players_of.Given as goal

abbrev pub invariant-loop-pass : goal.invariant-loop-pass
invariant-loop-pass l =
    (goal.iterator-loop-pass).can_next l.pass-iterator × (goal.iterator-loop-pass).is_finite l.pass-iterator
    × (l.client ≡ 1 + length l.yielded)
    × (length l.players.items ≡ length l.yielded)
    × AreFresh l.desk.id l.script 1 l.players.items
    × (7 ≤ vec_capacity l.players)
    × (l.yielded ++ l.pass-iterator.rest.items ≡ passes_from l.desk.id l.script 1 7)
