-- Serial play: each turn is that of the client of the first line in the file that is not through.
use Rattle.std.specs.Prelude.{◌≡◌, ℕ, List, [], ◌∷◌, ◌++◌, map, Some, Result, Ok, Err, IsSomeAnd}
use Rattle.wf_calls.specs.declared.order.Turn.{Turn}
use Rattle.wf_script.specs.Script.{PlainScript}
use Rattle.wf_turn.specs.declared.player.PlayStop.{PlayStop}
use Rattle.wf_turn.specs.declared.player.PlayStop.TheVariants as stop
use Rattle.wf_turn.specs.Program.{Program, place_of}
use Rattle.wf_turn.specs.Turns.{Show, turn}
use Rattle.wf_turn.specs.Play.{first_client, is_marked, marks, serial_order}

-- the client of the first line that is not through
abbrev pub IsFirst : List Program → ℕ → Type 0
IsFirst programs client = IsSomeAnd (first_client (map place_of programs)) (λ c. c.0 ≡ client)

-- the next turn of serial play
pub record IsNextTurn (show : Show) (t : Turn) (after : Show) : Type 0 where
  pub first : IsFirst show.programs t.client
  pub taken : turn show t.client (is_marked t) ≡ Some (after, t)

-- turns of serial play from one show to another
abbrev pub IsRun : Show → List Turn → Show → Type 0
IsRun show [] after = show ≡ after
IsRun show (t ∷ ts) after = (next : Show) × (IsNextTurn show t next × IsRun next ts after)

-- the order is a beginning of that of serial play
pub record BeginsSerial (script : PlainScript) (order : List Turn) : Type 0 where
  pub rest : List Turn
  pub serial : serial_order script (marks order) ≡ order ++ rest

-- the order that a play answers is that of serial play, or where it stopped a beginning of that
abbrev pub IsInFileOrder : PlainScript → Result (List Turn) PlayStop → Type 0
IsInFileOrder script (Ok order) = order ≡ serial_order script (marks order)
IsInFileOrder script (Err (stop.WriteFault written order)) = BeginsSerial script order
IsInFileOrder script (Err stop.NoMemory) = Unit {0}
