-- Lines that are passed, since they make no event.
use Rattle.std.specs.Prelude.{◌≡◌, ℕ, ◌≤◌, Bool, ◌&&◌, ◌==◌, List, length, slice_get, Option, IfSome, if◌then◌else◌}
use Rattle.wf_image.specs.declared.canvas.Canvas.{Canvas}
use Rattle.wf_script.specs.declared.line.Line.{Line}
use Rattle.wf_turn.specs.Program.{is_event, silent}

-- a line makes an event of a client
abbrev pub is_event_of : ℕ → Bool → Line → Bool
is_event_of client held l = (l.client == client) && is_event held l.verb

-- the canvas of a client after a line that makes no event of its own
abbrev pub passed : ℕ → Line → Option Canvas → Option Canvas
passed client l canvas = if l.client == client then silent l.verb canvas else canvas

-- a place in the lines, which is the end or holds a line of the client
pub record IsPlace (client at : ℕ) (lines : List Line) : Type 0 where
  pub within : at ≤ length lines
  pub here : IfSome (slice_get lines at) (λ l. l.client ≡ client)
