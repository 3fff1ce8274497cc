-- The turns of an order while they are logged.
use Rattle.std.specs.Prelude.{◌≡◌, ℕ, ◌+◌, ◌-◌, ◌≤◌, List, [], ◌++◌, length, map, Bool, true, false, Option, IsSome}
use Rattle.wf_calls.specs.declared.order.Turn.{Turn}
use Rattle.wf_film.specs.Film.{Frame}
use Rattle.wf_model.specs.Names.{kept}
use Rattle.wf_model.specs.State.{State}
use Rattle.wf_turn.specs.Play.{is_marked, replay_turn}
use Rattle.wf_turn.specs.Played.{Follows, Shows}
use Rattle.wf_turn.specs.Playing.{IsCast, with_frames}
use Rattle.wf_turn.specs.Quota.{all_left}
use Rattle.wf_turn.specs.Turns.{Show, tick_line, turn}
use Rattle.wf_events.specs.declared.happening.Happening.{Happening}
use Rattle.wf_events.specs.declared.log.Queue.{Queue}
use Rattle.wf_events.specs.Happenings.{released}
use Rattle.wf_events.specs.Log.{ends_tick}
use Rattle.wf_events.specs.Queue.{Queues}
use Rattle.wf_events.specs.Text.{Placed, stretch_text}
use Rattle.wf_events.specs.Watching.{attached_at, between_from, bound_at, waiting_at}

-- what happened between two states, as two looks at them tell
abbrev pub seen : State → State → List Happening
seen before after =
    between_from bound_at 1 (map waiting_at before.display.pipelines) (map waiting_at after.display.pipelines)
    ++ between_from attached_at 1 (map (λ p. p.attached) before.display.ports) (map (λ p. p.attached) after.display.ports)
    ++ released (length before.streams - length after.streams)

-- the show after one more entry, where that entry is its client's turn
abbrev pub next_show : Show → Turn → Option Show
next_show show t = replay_turn t (turn show t.client (is_marked t))

-- whatever was shown before it, an entry may be a turn of a show
abbrev pub MayFollow : Show → Turn → Type 0
MayFollow show t = (front : List Frame) × IsSome (next_show (with_frames front show) t)

-- the turn of an entry leads from a show to another, and its frames stand behind whatever was shown before it
pub record Taken (show now : Show) (t : Turn) : Type 0 where
  pub frames : List Frame
  pub next : Shows Follows show t frames now
  pub turns : now.turns ≡ show.turns + 1
  pub fewer : all_left now.programs + 1 ≤ all_left show.programs
  pub cast : IsCast now

-- the queue with what a stretch has so far; where the stretch ends with it, the queue is written and emptied
abbrev pub Holds : Bool → ℕ → List ℕ → List Placed → Queue → Type 0
Holds true depth earlier so_far q = Queues (earlier ++ stretch_text depth so_far) [] q
Holds false depth earlier so_far q = Queues earlier so_far q

-- the queue after a turn: what was seen joins it, and a stretch may end
abbrev pub Queued : Show → Show → Queue → Queue → Type 0
Queued show now old new =
    (earlier : List ℕ) (stretch : List Placed) → Queues earlier stretch old
    → Holds (ends_tick (tick_line show.programs) (tick_line now.programs)) old.depth earlier
    (stretch ++ map (λ e. (show.turns, e)) (seen show.state now.state)) new
    × (new.depth ≡ old.depth)

-- the turn of an entry, with what happened in it told
pub record Logs (show now : Show) (t : Turn) (old new : Queue) : Type 0 where
  pub taken : Taken show now t
  pub settled : show.state.streams ≡ kept show.state
  pub queued : Queued show now old new
  pub most : new.lost ≤ old.lost + 13
