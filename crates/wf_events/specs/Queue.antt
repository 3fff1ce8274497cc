-- The queue of a log while it is made.
use Rattle.std.specs.Prelude.{◌≡◌, ℕ, ◌-◌, List, [], ◌++◌, length, take, flat_map}
use Rattle.wf_events.specs.declared.log.Queue.{Queue}
use Rattle.wf_events.specs.Text.{Placed, line_of, stretch_text}

-- the text has the lines of all earlier stretches, and the first of this one's happenings; the others are counted
pub record Queues (earlier : List ℕ) (stretch : List Placed) (q : Queue) : Type 0 where
  pub text : q.text.items ≡ earlier ++ flat_map line_of (take q.depth stretch)
  pub room : q.room ≡ q.depth - length stretch
  pub lost : q.lost ≡ length stretch - q.depth

-- more happenings of the stretch
abbrev pub AreTold : Queue → Queue → List Placed → Type 0
AreTold old new ps =
    (earlier : List ℕ) (stretch : List Placed) → Queues earlier stretch old → Queues earlier (stretch ++ ps) new × (new.depth ≡ old.depth)

-- the stretch ends: its text is whole, and another one begins
abbrev pub IsFlushed : Queue → Queue → Type 0
IsFlushed old new =
    (earlier : List ℕ) (stretch : List Placed) → Queues earlier stretch old
    → Queues (earlier ++ stretch_text old.depth stretch) [] new × (new.depth ≡ old.depth)
