-- A client's program beside a history of the machine: which of the events are its calls, and what it makes of the answers.
use Rattle.std.specs.Prelude.{◌≡◌, ℕ, true, ◌==◌, List, [], ◌∷◌, if◌then◌else◌}
use Rattle.wf_calls.specs.declared.reply.Reply.{Reply}
use Rattle.wf_machine.specs.Histories.{Happening}
use Rattle.wf_machine.specs.Object.{after}
use Rattle.wf_model.specs.State.{State}
use Rattle.wf_turn.specs.Going.{IsNextCall}
use Rattle.wf_turn.specs.Program.{Program, took, worked}

-- a program after an answer, with the Job that came painted
abbrev pub gone_on : Program → Reply → Program
gone_on p reply = worked (took p reply)

-- the program of a client after an event, which may be another client's
abbrev pub after_event : ℕ → Program → Happening → Program
after_event client p e = if e.client == client then gone_on p e.reply else p

-- the program of a client after a history
abbrev pub program_after : ℕ → Program → List Happening → Program
program_after client p [] = p
program_after client p (e ∷ es) = program_after client (after_event client p e) es

-- The events of a client in a history from a state on are the calls of its program, one after another: each is the call that the
-- program makes next after the answers so far, and one that waits finds no frame running just before it.
abbrev pub IsPlayed : ℕ → State → Program → List Happening → Type 0
IsPlayed client h p [] = Unit {0}
IsPlayed client h p (e ∷ es) =
    ((e.client == client) ≡ true → IsNextCall h p e.call)
    × IsPlayed client (after h e.client e.call e.reply) (after_event client p e) es
