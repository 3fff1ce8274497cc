use Rattle.std.proofs.Common.{◌≡◌, ◌-◌}
use Rattle.wf_film.specs.Reading.{turns_at}
use Rattle.wf_film.proofs.JournalLaws.{with_front}
use Rattle.wf_film.proofs.journal.turns_of.Given as goal

-- reading goes on from here as from the start, behind the entries that were read
abbrev pub invariant-loop : goal.invariant-loop
invariant-loop l = with_front l.turns.items (turns_at (l.count - l.counter) l.rest) ≡ turns_at l.count l.bytes
