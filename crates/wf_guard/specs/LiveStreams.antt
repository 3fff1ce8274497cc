-- Which streams are live, and whether their owners are true.
use Rattle.std.specs.Prelude.{◌≡◌, ℕ, Bool, true, false, not, ◌||◌, ◌==◌, List, [], ◌∷◌, ◌++◌, filter, map, replicate, if◌then◌else◌}
use Rattle.wf_calls.specs.Codes.{is_ok_code}
use Rattle.wf_calls.specs.Parts.{is_begin}
use Rattle.wf_calls.specs.declared.call.Call.{Call}
use Rattle.wf_calls.specs.declared.call.Call.TheVariants as call
use Rattle.wf_calls.specs.declared.ports.Ports.{Ports}
use Rattle.wf_calls.specs.declared.reply.Reply.{Reply}
use Rattle.wf_calls.specs.declared.request.Request.TheVariants as request
use Rattle.wf_model.specs.State.{State, opening}
use Rattle.wf_model.specs.Step.{step}
use Rattle.wf_stream.specs.Buffers.{buffer_bytes}
use Rattle.wf_stream.specs.Streams.{KeptStream}
use Rattle.wf_guard.specs.declared.clients.TheConstants.{CLIENTS, OUTPUT}
use Rattle.wf_guard.specs.declared.form.Form.{Form}
use Rattle.wf_guard.specs.Screens.{screen_of}
use Rattle.wf_guard.specs.Serving.{Asked, Served, plain, served}
use Rattle.wf_guard.specs.declared.owners.Owned.{Owned}

-- the handles of the live streams, in the order in which these were made; a stream whose handle is dead has the handle 0
abbrev pub live_handles : List KeptStream → List ℕ
live_handles [] = []
live_handles (s ∷ ss) = if s.handle == 0 then live_handles ss else s.handle ∷ live_handles ss

-- the live streams by their handles, in the same order, each with the bytes of its buffers
abbrev pub live_bytes : List KeptStream → List (ℕ × ℕ)
live_bytes [] = []
live_bytes (s ∷ ss) = if s.handle == 0 then live_bytes ss else (s.handle, buffer_bytes s.buffers) ∷ live_bytes ss

-- the live handles after a call that was carried out, or was not, with its value
abbrev pub lives_if : Bool → Call → ℕ → List ℕ → List ℕ
lives_if false c value live = live
lives_if true (call.StreamNew width height format buffers) value live = live ++ value ∷ []
lives_if true (call.StreamQueue width height format depth) value live = live ++ value ∷ []
lives_if true (call.StreamDestroy stream) value live = filter (λ n. not (n == stream)) live
lives_if true _ value live = live

-- the live handles after a call with its reply
abbrev pub lives_after : Call → Reply → List ℕ → List ℕ
lives_after c reply live = lives_if (is_ok_code reply.code) c reply.value live

-- each live stream has one owner, which is a list of the same streams in the same order
abbrev pub AreTrue : Served → Type 0
AreTrue v = map (λ o. o.stream) v.owned ≡ live_handles v.machine.streams

-- what is kept of each live stream are the bytes that its buffers take
abbrev pub AreMeasured : Served → Type 0
AreMeasured v = map (λ o. (o.stream, o.bytes)) v.owned ≡ live_bytes v.machine.streams

-- what a core serves first: nobody owns, holds or waits for anything, and no port has shown a picture
abbrev pub opened : Form → Ports → Served
opened form ports = record {
  machine = opening ports;
  owned = [];
  held = [];
  waiting = replicate CLIENTS false;
  ticks = 0;
  form = form;
  shown = map screen_of ports.modes.items;
}

-- what happens to what is served: a client asks for something, where memory is refused to a creation or is not; or a frame begins or ends
pub data Turn : Type 0 where
  asks : ℕ → Asked → Bool → Turn
  frames : Call → Turn

-- the call that ends a frame
abbrev pub is_end : Call → Bool
is_end (call.End job) = true
is_end _ = false

-- a call that begins or ends a frame
abbrev pub is_of_frames : Call → Bool
is_of_frames c = is_begin c || is_end c

-- such a call is carried out, as those of a tick are, and no other one
abbrev pub framed : Call → Served → Served
framed c v = if is_of_frames c then record v { machine = (step v.machine OUTPUT c false).0 } else v

-- what is served after a turn
abbrev pub after_turn : Turn → Served → Served
after_turn (asks client x memory_refused) v = (served client x memory_refused v).0
after_turn (frames c) v = framed c v

-- what is served after some turns
abbrev pub after_turns : Served → List Turn → Served
after_turns v [] = v
after_turns v (r ∷ rs) = after_turns (after_turn r v) rs

-- the turns by which a client destroys all streams that it made
abbrev pub destroying : ℕ → List Owned → List Turn
destroying client [] = []
destroying client (o ∷ os) =
    if o.client == client then asks client (plain (request.StreamDestroy o.stream)) false ∷ destroying client os else destroying client os

-- the machine after those calls
abbrev pub destroyed_by : ℕ → List Owned → State → State
destroyed_by client [] h = h
destroyed_by client (o ∷ os) h =
    destroyed_by client os (if o.client == client then (step h client (call.StreamDestroy o.stream) false).0 else h)
