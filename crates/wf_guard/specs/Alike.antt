-- What an app sees of what is served: when two states, and two runs, look alike to it.
use Rattle.std.specs.Prelude.{◌≡◌, ℕ, Bool, false, true, ◌==◌, nat_le, List, [], ◌∷◌, ◌++◌, filter, length, Some, IsFalse, IsTrue}
use Rattle.std.specs.Prelude.{if◌then◌else◌}
use Rattle.wf_image.specs.Bitmap.{Bitmap}
use Rattle.wf_image.specs.declared.canvas.Canvas.{Canvas}
use Rattle.wf_stream.specs.Buffers.{Buffers}
use Rattle.wf_stream.specs.Streams.{KeptStream, stream_of}
use Rattle.wf_stream.specs.declared.TheConstants.{MOST_STREAMS}
use Rattle.wf_calls.specs.declared.request.Request.TheVariants as request
use Rattle.wf_host.specs.Held.{canvas_of}
use Rattle.wf_host.specs.declared.told.Told.{Told}
use Rattle.wf_model.specs.Streams.{is_out_at_client, new_buffers}
use Rattle.wf_guard.specs.Apps.{RoomSame}
use Rattle.wf_guard.specs.LiveStreams.{Turn, after_turn, after_turns}
use Rattle.wf_guard.specs.LiveStreams.Turn.{asks, frames}
use Rattle.wf_guard.specs.Policy.{owns}
use Rattle.wf_guard.specs.Requests.{named_stream}
use Rattle.wf_guard.specs.Serving.{Asked, Served, discard, draw, plain, post, served}
use Rattle.wf_guard.specs.declared.clients.TheConstants.{MANAGER}
use Rattle.wf_guard.specs.declared.owners.Owned.{Owned}

-- the live streams that a client made, as they are kept
abbrev pub made_of : ℕ → List Owned → List Owned
made_of client owned = filter (λ o. o.client == client) owned

-- two states look alike to a client: it made the same live streams; each of them has the same number and the same buffers; it holds the
-- same write buffer, which its stream takes back in both or in neither, whatever was drawn on it; and the same frame runs, or none
pub record LooksAlike (client : ℕ) (v w : Served) : Type 0 where
  pub owned : made_of client v.owned ≡ made_of client w.owned
  pub streams : (stream : ℕ) → IsTrue (owns client stream v.owned)
      → stream_of stream v.machine.streams ≡ stream_of stream w.machine.streams
  pub held : canvas_of client v.held ≡ canvas_of client w.held
  pub out : (canvas : Canvas) (image : Bitmap) → canvas_of client v.held ≡ Some canvas
      → is_out_at_client (record canvas { image = image }) v.machine ≡ is_out_at_client (record canvas { image = image }) w.machine
  pub frame : v.machine.frame ≡ w.machine.frame

-- there is room for a new stream in both states or in neither, also among the live ones, and it gets the same handle and the same number
pub record SharesSame (new : Buffers) (v w : Served) : Type 0 where
  pub room : RoomSame new v.machine w.machine
  pub number : v.machine.numbered ≡ w.machine.numbered
  pub live : nat_le MOST_STREAMS (length v.owned) ≡ nat_le MOST_STREAMS (length w.owned)

-- what all clients share is the same in both states, as far as this may need it
abbrev pub MeetsSame : Asked → Served → Served → Type 0
MeetsSame (plain (request.StreamNew width height format buffers)) v w = SharesSame (new_buffers false width height format buffers) v w
MeetsSame (plain (request.StreamQueue width height format depth)) v w = SharesSame (new_buffers true width height format depth) v w
MeetsSame (plain (request.Acquire stream)) v w = nat_le MOST_STREAMS (length v.held) ≡ nat_le MOST_STREAMS (length w.held)
MeetsSame _ v w = Unit {0}

-- what another client holds is of no stream that this one made, and of none whose write buffer this one holds
pub record HoldsApart (client other : ℕ) (v : Served) : Type 0 where
  pub streams : (canvas : Canvas) (stream : ℕ) (s : KeptStream) → canvas_of other v.held ≡ Some canvas
      → IsTrue (owns client stream v.owned) → stream_of stream v.machine.streams ≡ Some s → IsFalse (s.number == canvas.stream)
  pub held : (canvas own : Canvas) → canvas_of other v.held ≡ Some canvas → canvas_of client v.held ≡ Some own
      → IsFalse (own.stream == canvas.stream)

-- what another client asks for names no stream that this one made, be it by its handle or by the write buffer that comes with it
abbrev pub Spares : ℕ → ℕ → Asked → Served → Type 0
Spares client other (plain r) v = (stream : ℕ) → named_stream r ≡ Some stream → IsFalse (owns client stream v.owned)
Spares client other post v = HoldsApart client other v
Spares client other discard v = HoldsApart client other v
Spares client other (draw paint) v = Unit {0}

-- the same where the window manager asks; an app names no stream of another one, whatever it asks for
abbrev pub SparesAsManager : ℕ → ℕ → Asked → Served → Type 0
SparesAsManager client other x v = IsTrue (other == MANAGER) → Spares client other x v

-- a turn is not this client's
abbrev pub IsOthers : ℕ → Turn → Type 0
IsOthers client (asks other x memory_refused) = IsFalse (other == client)
IsOthers client (frames c) = Unit {0}

-- none of some turns is
abbrev pub AreOthers : ℕ → List Turn → Type 0
AreOthers client [] = Unit {0}
AreOthers client (r ∷ rs) = IsOthers client r × AreOthers client rs

-- two runs look alike to a client: it asks for the same in both, and meets the same of what all share; what the window manager asks for in
-- one of them alone names no stream of its own, and other apps may ask for anything; and what happens in both, as that a stream of its
-- own is destroyed or that a tick takes its image, leaves states that look alike to it
pub data RunsAlike (client : ℕ) : Served → Served → List Turn → List Turn → Type 0 where
  both_end : {v w : Served} → RunsAlike client v w [] []
  own : {v w : Served} {rs ts : List Turn} (x : Asked) (memory_refused : Bool) → MeetsSame x v w
      → RunsAlike client (served client x memory_refused v).0 (served client x memory_refused w).0 rs ts
      → RunsAlike client v w (asks client x memory_refused ∷ rs) (asks client x memory_refused ∷ ts)
  in_first : {v w : Served} {rs ts : List Turn} (other : ℕ) (x : Asked) (memory_refused : Bool) → IsFalse (other == client)
      → SparesAsManager client other x v → RunsAlike client (served other x memory_refused v).0 w rs ts
      → RunsAlike client v w (asks other x memory_refused ∷ rs) ts
  in_second : {v w : Served} {rs ts : List Turn} (other : ℕ) (x : Asked) (memory_refused : Bool) → IsFalse (other == client)
      → SparesAsManager client other x w → RunsAlike client v (served other x memory_refused w).0 rs ts
      → RunsAlike client v w rs (asks other x memory_refused ∷ ts)
  in_both : {v w : Served} {rs ts : List Turn} (first second : List Turn) → AreOthers client first → AreOthers client second
      → LooksAlike client (after_turns v first) (after_turns w second)
      → RunsAlike client (after_turns v first) (after_turns w second) rs ts → RunsAlike client v w (first ++ rs) (second ++ ts)

-- what a client was told in some turns, one after another
abbrev pub told_in : ℕ → List Turn → Served → List Told
told_in client [] v = []
told_in client (asks other x memory_refused ∷ turns) v =
    (if other == client then (served other x memory_refused v).1 ∷ [] else [])
    ++ told_in client turns (served other x memory_refused v).0
told_in client (frames c ∷ turns) v = told_in client turns (after_turn (frames c) v)
