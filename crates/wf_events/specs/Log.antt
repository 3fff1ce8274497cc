-- The log of an order: what happens in its turns, by stretches that end with each tick.
use Rattle.std.specs.Prelude.{ℕ, Bool, true, false, not, ◌==◌, List, [], ◌∷◌, ◌++◌, map, Option, Some, None, if◌then◌else◌}
use Rattle.wf_calls.specs.declared.order.Turn.{Turn}
use Rattle.wf_model.specs.Step.{step}
use Rattle.wf_script.specs.Script.{PlainScript}
use Rattle.wf_turn.specs.declared.stage.Wanted.{Wanted}
use Rattle.wf_turn.specs.Play.{is_marked, replay_turn}
use Rattle.wf_turn.specs.Program.{Program, next}
use Rattle.wf_turn.specs.Turns.{Show, opening_show, program_at, tick_line, turn}
use Rattle.wf_events.specs.Happenings.{happen}
use Rattle.wf_events.specs.Text.{Placed, log_text}

-- what happens in the turn of an entry, with its place
abbrev pub happens_in : Show → Turn → List Placed
happens_in show t = of_program (program_at show t.client)
  where
    of_wanted : Option Wanted → List Placed
    of_wanted None = []
    of_wanted (Some w) =
        map (λ e. (show.turns, e)) (happen show.state w.call (step show.state t.client w.call (is_marked t)))

    of_program : Option Program → List Placed
    of_program None = []
    of_program (Some p) = of_wanted (next p)

-- the clock was in a tick, and is in that tick no more
abbrev pub ends_tick : Option ℕ → Option ℕ → Bool
ends_tick None after = false
ends_tick (Some line) None = true
ends_tick (Some line) (Some other) = not (line == other)

-- what happens in the turns of an order from a show on, by the stretches that end behind the last turn of each tick and behind the
-- last turn; the first stretch has begun with what happened before
unfoldable pub stretches_from : Show → List Placed → List Turn → List (List Placed)
stretches_from show begun [] = begun ∷ []
stretches_from show begun (t ∷ ts) = elim (replay_turn t (turn show t.client (is_marked t))) [
  | None ↦ begun ∷ []
  | Some after ↦ (
      let so_far : List Placed = begun ++ happens_in show t in
      if ends_tick (tick_line show.programs) (tick_line after.programs) then so_far ∷ stretches_from after [] ts
      else stretches_from after so_far ts)
]

abbrev pub stretches : PlainScript → List Turn → List (List Placed)
stretches script order = stretches_from (opening_show script) [] order

-- the log of an order, by the depth of the queue
abbrev pub log : PlainScript → List Turn → ℕ → List ℕ
log script order depth = log_text depth (stretches script order)
