-- The calls that an app may make, which name streams alone; and what such a call leaves alone.
use Rattle.std.specs.Prelude.{◌≡◌, ℕ, Bool, true, false, ◌==◌, Option, Some, None}
use Rattle.wf_stream.specs.Buffers.{Buffers}
use Rattle.wf_stream.specs.Streams.{KeptStream, has_no_room, stream_at, stream_of}
use Rattle.wf_calls.specs.declared.call.Call.{Call}
use Rattle.wf_calls.specs.declared.call.Call.TheVariants as call
use Rattle.wf_model.specs.State.{State}
use Rattle.wf_model.specs.Streams.{is_out_at_client, new_buffers}

-- the kinds of calls that an app may make
abbrev pub is_of_apps : Call → Bool
is_of_apps (call.StreamNew width height format buffers) = true
is_of_apps (call.StreamQueue width height format depth) = true
is_of_apps (call.StreamDestroy stream) = true
is_of_apps (call.Acquire stream) = true
is_of_apps (call.Post canvas) = true
is_of_apps (call.Discard canvas) = true
is_of_apps _ = false

-- a stream is the one that was looked for
abbrev pub is_found : KeptStream → Option KeptStream → Bool
is_found s None = false
is_found s (Some t) = s.number == t.number

-- such a call names this stream: by its handle, or by the canvas that it brings
abbrev pub names_stream : Call → State → KeptStream → Bool
names_stream (call.StreamDestroy stream) h s = s.handle == stream
names_stream (call.Acquire stream) h s = is_found s (stream_of stream h.streams)
names_stream (call.Post canvas) h s = s.number == canvas.stream
names_stream (call.Discard canvas) h s = s.number == canvas.stream
names_stream _ h s = false

-- what is on the screens is as it was: the composition, the display and the running frame
pub record SameScreens (h now : State) : Type 0 where
  pub core : now.core ≡ h.core
  pub display : now.display ≡ h.display
  pub frame : now.frame ≡ h.frame

-- the composition, the display, the running frame and every live stream that the call does not name are as they were
pub record LeavesTheRest (c : Call) (h now : State) : Type 0 where
  pub core : now.core ≡ h.core
  pub display : now.display ≡ h.display
  pub frame : now.frame ≡ h.frame
  pub streams : (n : ℕ) (s : KeptStream) → stream_at n h.streams ≡ Some s → (s.handle == 0) ≡ false → names_stream c h s ≡ false
      → stream_at n now.streams ≡ Some s

-- there is room for a new stream in both states or in neither, and the next handle is the same
abbrev pub RoomSame : Buffers → State → State → Type 0
RoomSame new h k = (has_no_room new h.streams ≡ has_no_room new k.streams) × (h.made ≡ k.made)

-- two states look the same to such a call: in the stream that it names; and for a new stream in the shared limits and in the next handle
abbrev pub LooksSame : Call → State → State → Type 0
LooksSame (call.StreamNew width height format buffers) h k = RoomSame (new_buffers false width height format buffers) h k
LooksSame (call.StreamQueue width height format depth) h k = RoomSame (new_buffers true width height format depth) h k
LooksSame (call.StreamDestroy stream) h k = stream_of stream h.streams ≡ stream_of stream k.streams
LooksSame (call.Acquire stream) h k = stream_of stream h.streams ≡ stream_of stream k.streams
LooksSame (call.Post canvas) h k = is_out_at_client canvas h ≡ is_out_at_client canvas k
LooksSame (call.Discard canvas) h k = is_out_at_client canvas h ≡ is_out_at_client canvas k
LooksSame _ h k = Unit {0}
