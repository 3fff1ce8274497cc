-- What a core serves to several clients of one machine: what it keeps beside the machine, and what a client's request leaves and answers.
use Rattle.std.specs.Prelude.{◌≡◌, ℕ, Bool, ◌&&◌, ◌||◌, nat_le, List, length, Option, Some, None, if◌then◌else◌}
use Rattle.wf_image.specs.Bitmap.{Bitmap}
use Rattle.wf_image.specs.declared.canvas.Canvas.{Canvas}
use Rattle.wf_calls.specs.Codes.{is_ok_code}
use Rattle.wf_calls.specs.Replies.{bare, given_canvas, refusal, refused}
use Rattle.wf_calls.specs.Requests.{call_of}
use Rattle.wf_calls.specs.declared.call.Call.{Call}
use Rattle.wf_calls.specs.declared.call.Call.TheVariants as call
use Rattle.wf_calls.specs.declared.code.Code.{Code}
use Rattle.wf_calls.specs.declared.reply.Reply.{Reply}
use Rattle.wf_calls.specs.declared.request.Request.{Request}
use Rattle.wf_host.specs.Held.{adding, canvas_of, holds, without}
use Rattle.wf_host.specs.Made.{not_made, told_of}
use Rattle.wf_host.specs.declared.canvases.Held.{Held}
use Rattle.wf_host.specs.declared.told.Told.{Told}
use Rattle.wf_model.specs.State.{State}
use Rattle.wf_model.specs.Step.{step}
use Rattle.wf_stream.specs.declared.TheConstants.{MOST_STREAMS}
use Rattle.wf_wire.specs.Asked.{is_acquire}
use Rattle.wf_guard.specs.Policy.{owned_after, refusal_of}
use Rattle.wf_guard.specs.declared.form.Form.{Form}
use Rattle.wf_guard.specs.declared.owners.Owned.{Owned}
use Rattle.wf_guard.specs.declared.screen.Screen.{Screen}

-- the machine, the makers of its live streams, the write buffers that clients hold by their numbers, whether each client waits for the
-- next tick, how many ticks there were, how pictures are put, and what each port shows
pub record Served : Type 0 where
  pub machine : State
  pub owned : List Owned
  pub held : List Held
  pub waiting : List Bool
  pub ticks : ℕ
  pub form : Form
  pub shown : List Screen

-- what a client asks for: what a request says, or something of the write buffer that it holds
pub data Asked : Type 0 where
  plain : Request → Asked
  post : Asked
  discard : Asked
  draw : (Bitmap → Bitmap) → Asked

-- what is told of a refusal by a code alone
abbrev pub refused_by : Code → Told
refused_by why = told_of (bare (refused (refusal why)))

-- the owners after a request with its reply
abbrev pub owned_by : ℕ → Request → Reply → List Owned → List Owned
owned_by client r reply owned = if is_ok_code reply.code then owned_after client r reply.value owned else owned

-- a call that the machine answers: what comes with the answer is held beside this
abbrev pub carried : ℕ → List Held → Served → State × Reply → Served × Told
carried client rest v done =
    (record v { machine = done.0; held = adding client (given_canvas done.1.payload) rest }, told_of done.1)

-- a request that the machine answers
abbrev pub made : ℕ → Request → Served → State × Reply → Served × Told
made client r v done = (
  record v {
    machine = done.0;
    owned = owned_by client r done.1 v.owned;
    held = adding client (given_canvas done.1.payload) v.held;
  },
  told_of done.1,
)

-- a request for a write buffer by who holds one, or where no place is left for it
abbrev pub lacks_place : ℕ → Request → List Held → Bool
lacks_place client r held = is_acquire r && (holds client held || nat_le MOST_STREAMS (length held))

-- a request, by the refusal of the policy
abbrev pub allowed : ℕ → Request → Bool → Served → Option Code → Served × Told
allowed client r memory_refused v (Some why) = (v, refused_by why)
allowed client r memory_refused v None =
    if lacks_place client r v.held then (v, not_made)
    else made client r v (step v.machine client (call_of r) memory_refused)

-- what is done with the write buffer that a client holds, if it holds one
abbrev pub with_held : (Canvas → Served × Told) → Served → Option Canvas → Served × Told
with_held f v None = (v, not_made)
with_held f v (Some canvas) = f canvas

-- the write buffer goes with a call
abbrev pub given : ℕ → (Canvas → Call) → Bool → Served → Canvas → Served × Told
given client c memory_refused v canvas =
    carried client (without client v.held) v (step v.machine client (c canvas) memory_refused)

-- it is drawn on
abbrev pub drawn : ℕ → (Bitmap → Bitmap) → Served → Canvas → Served × Told
drawn client paint v canvas = (
  record v { held = adding client (Some (record canvas { image = paint canvas.image })) (without client v.held) },
  record { code = 0; value = 0 },
)

-- what a request leaves and answers
abbrev pub served : ℕ → Asked → Bool → Served → Served × Told
served client (plain r) memory_refused v = allowed client r memory_refused v (refusal_of client r v.owned)
served client post memory_refused v = with_held (given client call.Post memory_refused v) v (canvas_of client v.held)
served client discard memory_refused v = with_held (given client call.Discard memory_refused v) v (canvas_of client v.held)
served client (draw paint) memory_refused v = with_held (drawn client paint v) v (canvas_of client v.held)

-- a request was served so, where memory was refused or not
abbrev pub Serves : ℕ → Asked → Served → Served → Told → Type 0
Serves client x old new t = (memory_refused : Bool) × (served client x memory_refused old ≡ (new, t))
