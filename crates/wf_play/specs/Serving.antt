-- How the mode `session` comes to its status.
use Rattle.std.specs.Prelude.{◌≡◌, ℕ, ◌<◌, List, [], length, Some, Result, Ok, Err}
use Rattle.atomic_table.specs.Seated.{TableId}
use Rattle.wf_calls.specs.Codes.{entry}
use Rattle.wf_calls.specs.declared.order.Turn.{Turn}
use Rattle.wf_calls.specs.declared.ports.Ports.{Ports}
use Rattle.wf_desk.specs.Desk.{IsClosing, Opened}
use Rattle.wf_machine.specs.Object.{MayAnswer, after}
use Rattle.wf_model.specs.State.{State}
use Rattle.wf_machine.specs.Histories.{PlainPass}
use Rattle.wf_wire.specs.declared.stop.ServeStop.{ServeStop}
use Rattle.wf_wire.specs.declared.stop.ServeStop.TheVariants as stop
use Rattle.wf_wire.specs.Header.{header}
use Rattle.wf_wire.specs.Reading.{cursor}
use Rattle.wf_play.specs.Sessions.{session_calls}
use Rattle.wf_play.specs.declared.report.Status.{Status}
use Rattle.wf_play.specs.declared.report.Status.TheVariants as status

-- the status of a session that ended
abbrev pub status_of_end : Result ℕ ServeStop → Status
status_of_end (Ok n) = status.Done
status_of_end (Err stop.ReadFault) = status.ReadFault
status_of_end (Err (stop.WriteFault written)) = status.WriteFault written
status_of_end (Err (stop.BadMessage at rule)) = status.BadMessage at rule
status_of_end (Err (stop.Quota at)) = status.Quota at

-- the header of an input declares these ports, and `rest` is left after it, at the place `at`
pub record IsOpened (bytes : List ℕ) (ports : Ports) (at : ℕ) (rest : List ℕ) : Type 0 where
  pub header_is : header (cursor 0 bytes) ≡ Ok (ports, cursor at rest)
  pub shorter : length rest < length bytes

-- the pass of the client of a desk before its first call
abbrev pub first_pass : TableId → State → PlainPass
first_pass desk h =
    record { desk = desk; client = 0; opening = Some h; left = session_calls; seen = []; mine = []; place = 0 }

-- a desk was ended, with these passes
abbrev pub IsClosed : Opened State → List PlainPass → Type 0
IsClosed desk passes = (object : State) × (journal : List Turn) × IsClosing after MayAnswer entry desk passes object journal
