-- The order of a history, and the frames that a client's program shows in it. A frame carries the place of the event that begins it.
use Rattle.std.specs.Prelude.{ℕ, ◌+◌, ◌==◌, List, [], ◌∷◌, ◌++◌, if◌then◌else◌}
use Rattle.wf_calls.specs.Codes.{entry}
use Rattle.wf_calls.specs.declared.order.Turn.{Turn}
use Rattle.wf_desk.specs.History.{entries}
use Rattle.wf_film.specs.Film.{Frame}
use Rattle.wf_turn.specs.Program.{Program, took}
use Rattle.wf_turn.specs.Turns.{frames_of}
use Rattle.wf_show.specs.Played.{after_event}
use Rattle.wf_machine.specs.Histories.{Happening}

-- the journal's entries, one of each event
abbrev pub order_of : List Happening → List Turn
order_of es = entries entry es

-- the frames of one event, by how many events stand before it
abbrev pub frames_in : (begin client : ℕ) → Program → Happening → List Frame
frames_in begin client p e = if e.client == client then frames_of begin (took p e.reply) else []

-- the frames of a history, by how many events stand before it
abbrev pub frames_by : (begin client : ℕ) → Program → List Happening → List Frame
frames_by begin client p [] = []
frames_by begin client p (e ∷ es) = frames_in begin client p e ++ frames_by (begin + 1) client (after_event client p e) es
