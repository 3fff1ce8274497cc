-- What a program asks for next, where a call that carries an image is told without it.
use Rattle.std.specs.Prelude.{Bool, true, false, not, ◌&&◌, Option, Some, None, option_map}
use Rattle.wf_calls.specs.declared.call.Call.TheVariants as call
use Rattle.wf_calls.specs.declared.call.Job.{Job}
use Rattle.wf_machine.specs.Object.{is_ready}
use Rattle.wf_model.specs.State.{State}
use Rattle.wf_script.specs.declared.line.Line.{Line}
use Rattle.wf_script.specs.declared.line.Verb.{Verb}
use Rattle.wf_script.specs.declared.line.Verb.TheVariants as verb
use Rattle.wf_calls.specs.Requests.{call_of}
use Rattle.wf_turn.specs.declared.stage.Asked.{Asked}
use Rattle.wf_turn.specs.declared.stage.Asks.{Asks}
use Rattle.wf_turn.specs.declared.stage.Asks.TheVariants as asks
use Rattle.wf_turn.specs.declared.stage.Stage.{Stage}
use Rattle.wf_turn.specs.declared.stage.Stage.TheVariants as stage
use Rattle.wf_turn.specs.declared.stage.Wanted.{Wanted}
use Rattle.wf_turn.specs.Program.{Program, first_line, issued, plain}

-- a call that brings nothing, as the call that is wanted
abbrev pub as_wanted : Asked → Wanted
as_wanted a = record { call = call_of a.request; wait = a.wait }

-- the call that is asked for, by the Job that is held and the call that was put in its place
abbrev pub asked : Option Job → Wanted → Asks → Option Wanted
asked job wanted asks.Nothing = None
asked job wanted asks.Call = Some wanted
asked job wanted (asks.Acquire stream) = Some (plain (call.Acquire stream))
asked job wanted (asks.Post canvas) = Some (plain (call.Post canvas))
asked job wanted (asks.Discard canvas) = Some (plain (call.Discard canvas))
asked job wanted asks.End = option_map (λ j. plain (call.End j)) job

-- the program after it asked: a Job to be ended is held still
abbrev pub handed : Program → Asks → Program
handed p asks.End = p
handed p _ = issued p

-- the program after what it held was handed on: the Job of a frame to be ended
abbrev pub given : Program → Asks → Program
given p asks.End = record p { job = None }
given p _ = p

-- a line whose first call begins a frame
abbrev pub begins_frame : Verb → Bool
begins_frame verb.Tick = true
begins_frame (verb.Compose d c) = true
begins_frame (verb.TryCompose d c) = true
begins_frame _ = false

-- the next call begins a frame: the Job that comes is held
abbrev pub takes_job : Program → Bool
takes_job p = of_line (first_line p)
  where
    at_stage : Verb → Stage → Bool
    at_stage v stage.Fresh = begins_frame v
    at_stage v (stage.Ticking m) = true
    at_stage v _ = false

    of_line : Option Line → Bool
    of_line None = false
    of_line (Some l) = at_stage l.verb p.stage

-- the next call ends a frame
abbrev pub is_ending : Program → Bool
is_ending p = of_line (first_line p)
  where
    at_stage : Stage → Bool
    at_stage (stage.Ending m) = true
    at_stage _ = false

    of_line : Option Line → Bool
    of_line None = false
    of_line (Some l) = at_stage p.stage

-- there is no turn now: nothing is asked for, or a call that waits for the running frame
abbrev pub is_stuck : State → Asks → Wanted → Bool
is_stuck h asks.Nothing w = true
is_stuck h asks.Call w = w.wait && not (is_ready h w.call)
is_stuck h _ w = false
