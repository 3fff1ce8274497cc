-- What a tick makes of the machine: the active contexts are composed, and then each port shows its picture.
use Rattle.std.specs.Prelude.{ℕ, zero, suc, pos, ◌+◌, ◌%◌, ◌^◌, ◌==◌, Bool, false, List, [], ◌++◌, length, replicate, set, get_or, Option}
use Rattle.std.specs.Prelude.{Some, None, option_map, if◌then◌else◌}
use Rattle.wf_pixel.specs.declared.Format.TheVariants.{Rgba8Pre}
use Rattle.wf_image.specs.Bitmap.{blank}
use Rattle.wf_calls.specs.declared.call.Call.{Call}
use Rattle.wf_calls.specs.declared.call.Call.TheVariants as call
use Rattle.wf_calls.specs.declared.call.Job.{Job}
use Rattle.wf_calls.specs.declared.reply.Reply.{Reply}
use Rattle.wf_guard.specs.Serving.{Served}
use Rattle.wf_guard.specs.declared.clients.TheConstants.{CLIENTS, OUTPUT}
use Rattle.wf_guard.specs.Screens.{one_pixel}
use Rattle.wf_guard.specs.declared.form.Form.{Form}
use Rattle.wf_guard.specs.declared.screen.Screen.{Screen}
use Rattle.wf_host.specs.Made.{told_of}
use Rattle.wf_host.specs.declared.told.Told.{Told}
use Rattle.wf_model.specs.Picture.{painted_job}
use Rattle.wf_model.specs.State.{State}
use Rattle.wf_model.specs.Step.{step}
use Rattle.wf_model.specs.declared.TheConstants.{MOST_CONTEXTS}
use Rattle.wf_wire.specs.Answers.{begun}
use Rattle.wf_serve.specs.AnswerBytes.{answer_bytes, answer_to}
use Rattle.wf_serve.specs.Pictures.{shown_bytes, shown_now}
use Rattle.wf_serve.specs.declared.kind.TheConstants.{TICK, WAIT}

-- a client asks for a frame
abbrev pub asked : ℕ → Call → State → State × Reply
asked client c h = step h client c false

-- the frame that began with a reply, painted
abbrev pub pictured : Reply → Option Job
pictured reply = option_map painted_job (begun reply)

-- a frame ends
abbrev pub ended : ℕ → Option Job → State → State
ended client None h = h
ended client (Some job) h = (step h client (call.End job) false).0

-- a frame begins by a call, is painted and ends: the state then, what the call was answered, and the frame
pub record Framed : Type 0 where
  pub now : State
  pub told : Told
  pub frame : Option Job

abbrev pub framed : ℕ → Call → State → Framed
framed client c h =
    let x : State × Reply = asked client c h in
    record { now = ended client (pictured x.1) x.0; told = told_of x.1; frame = pictured x.1 }

-- n active contexts at most are composed, by rising handle from above a number
abbrev pub composed : ℕ → ℕ → State → State
composed zero after h = h
composed (suc n) after h =
    let x : Framed = framed OUTPUT (call.BeginNext after) h in if x.told.value == 0 then x.now else composed n x.told.value x.now

-- all active contexts are composed
unfoldable pub composed_all : State → State
composed_all h = composed MOST_CONTEXTS 0 h

-- ports that show their pictures: the machine then, what each port shows, and what is put
pub record Showing : Type 0 where
  pub machine : State
  pub screens : List Screen
  pub put : List ℕ

-- the frame of a port
abbrev pub of_port : ℕ → State → Framed
of_port port h = framed OUTPUT (call.BeginPort (pos port)) h

-- what stands in the place of a port that has no screen
abbrev pub no_screen : Screen
no_screen = record { image = blank one_pixel Rgba8Pre; is_put = false }

-- one port more, the one after n
abbrev pub with_port : Form → ℕ → ℕ → Showing → Showing
with_port f tick n before =
    let x : Framed = of_port (n + 1) before.machine in
    let last : Screen = get_or before.screens n no_screen in
    record {
      machine = x.now;
      screens = set before.screens n (shown_now x.frame last);
      put = before.put ++ shown_bytes f tick (n + 1) x.frame last;
    }

-- the first n ports
abbrev pub shown : Form → ℕ → ℕ → State → List Screen → Showing
shown f tick zero h screens = record { machine = h; screens = screens; put = [] }
shown f tick (suc n) h screens = with_port f tick n (shown f tick n h screens)

-- contexts are composed, and then all ports show their pictures
unfoldable pub played : Form → ℕ → State → List Screen → Showing
played f tick h screens = shown f tick (length screens) (composed_all h) screens

-- the number of the next tick
abbrev pub next_tick : ℕ → ℕ
next_tick ticks = (ticks + 1) % 2 ^ 32

-- the answer to a client, if it waits
abbrev pub waiter : Bool → ℕ → ℕ → List ℕ
waiter waits client tick = if waits then answer_bytes (answer_to client WAIT (record { code = 0; value = tick }) []) else []

-- those to the first n clients
abbrev pub waiters : ℕ → List Bool → ℕ → List ℕ
waiters zero waiting tick = []
waiters (suc n) waiting tick = waiters n waiting tick ++ waiter (get_or waiting n false) n tick

-- those to all clients
unfoldable pub woken : List Bool → ℕ → List ℕ
woken waiting tick = waiters CLIENTS waiting tick

-- a tick: what is served then, its answers, and what is put
pub record Ticked : Type 0 where
  pub now : Served
  pub answers : List ℕ
  pub frames : List ℕ

abbrev pub ticked : Served → Ticked
ticked v =
    let tick : ℕ = next_tick v.ticks in
    let x : Showing = played v.form tick v.machine v.shown in
    record {
      now = record v { machine = x.machine; waiting = replicate CLIENTS false; ticks = tick; shown = x.screens };
      answers = answer_bytes (answer_to OUTPUT TICK (record { code = 0; value = tick }) []) ++ woken v.waiting tick;
      frames = x.put;
    }
