-- What each frame of a film shows, and what each screen has: the picture of one scene, and of the images that a frame takes, at one
-- moment of the order.
use Rattle.std.specs.Prelude.{◌≡◌, ℕ, ◌+◌, ◌<◌, ◌≤◌, Bool, false, not, pos, List, ◌∷◌, ◌++◌, length, Option, Some, None, option_map}
use Rattle.std.specs.Prelude.{slice_get}
use Rattle.std.specs.Prelude.{Ok, IsSomeAnd}
use Rattle.wf_pixel.specs.declared.Format.TheVariants.{Rgba8Pre}
use Rattle.wf_image.specs.Bitmap.{Bitmap}
use Rattle.wf_stream.specs.Streams.{buffers_at, stream_at}
use Rattle.wf_calls.specs.declared.call.Call.TheVariants as call
use Rattle.wf_calls.specs.declared.call.Job.{Job}
use Rattle.wf_calls.specs.declared.call.JobKind.TheVariants as kind
use Rattle.wf_calls.specs.declared.order.Turn.{Turn}
use Rattle.wf_film.specs.Film.{Frame, frame_of}
use Rattle.wf_model.specs.Beginnings.{context_of}
use Rattle.wf_model.specs.Objects.{Context}
use Rattle.wf_model.specs.Display.{begun_display, port_scene}
use Rattle.wf_model.specs.Frames.{is_running, next_images, next_image_of, next_context, scene_streams}
use Rattle.wf_model.specs.Picture.{picture}
use Rattle.wf_model.specs.State.{State}
use Rattle.wf_script.specs.Script.{PlainScript}
use Rattle.wf_turn.specs.Play.{replay}
use Rattle.wf_turn.specs.declared.stage.Wanted.{Wanted}
use Rattle.wf_turn.specs.Program.{Program, next, plain, waiting}
use Rattle.wf_turn.specs.Turns.{Show, program_at}

-- one entry of the order, and the show that the entries before it leave, of which this holds
pub record At (script : PlainScript) (order : List Turn) (Holds : Show → Turn → Type 0) : Type 0 where
  pub earlier : List Turn
  pub entry : Turn
  pub later : List Turn
  pub cut : order ≡ earlier ++ entry ∷ later
  pub moment : Show
  pub reached : replay script earlier ≡ Some moment
  pub holds : Holds moment entry

-- the next call of the client of an entry is this one
pub record Asks (show : Show) (t : Turn) (w : Wanted) : Type 0 where
  pub program : Program
  pub own : program_at show t.client ≡ Some program
  pub next_is : next program ≡ Some w

-- the frame that a port shows in a state, begun by the turn of a place: the picture of its scene, once what waits at its pipelines
-- is current, with the images that a frame takes of the streams that it names
abbrev pub port_frame : State → ℕ → ℕ → ℕ → Option Frame
port_frame h port tick begin =
    option_map
    (λ scene. frame_of port tick begin (picture scene (next_images (scene_streams scene) h.streams) Rgba8Pre))
    (port_scene port (begun_display port h.display))

-- an entry answers the Begin of the frame's port, in the frame's tick and at the frame's place, with Ok and the port: the frame is
-- what the port shows at that moment
pub record Begins (f : Frame) (show : Show) (t : Turn) : Type 0 where
  pub asks : Asks show t (waiting (call.BeginPort (pos f.port)))
  pub tick : asks.program.tick ≡ f.tick
  pub place : show.turns ≡ f.begin
  pub code : t.code ≡ 0
  pub value : t.value ≡ f.port
  pub shows : port_frame show.state f.port f.tick f.begin ≡ Some f

-- one entry of the order answers the Begin of the frame
abbrev pub IsOfMoment : PlainScript → List Turn → Frame → Type 0
IsOfMoment script order f = At script order (Begins f)

-- the entry of the order at the frame's place answers with Ok and the frame's port
abbrev pub TellsPlace : List Turn → Frame → Type 0
TellsPlace order f = IsSomeAnd (slice_get order f.begin) (λ t. (t.code ≡ 0) × (t.value ≡ f.port))

-- what a context composes in a state: the picture of its committed scene, with the images that a frame takes of the streams that it
-- names, in the format of the stream that it draws into
abbrev pub context_image : State → Context → Option Bitmap
context_image h c =
    option_map
    (λ b. picture c.committed (next_images (scene_streams c.committed) h.streams) b.format)
    (buffers_at c.target h.streams)

-- the next call of the client of an entry begins a frame of this context: in a tick, of the active context that comes next;
-- or by a client's line, of a context that is not active
pub data AsksContext (show : Show) (t : Turn) (c : Context) : Type 0 where
  in_tick : (above : ℕ) → Asks show t (waiting (call.BeginNext above)) → next_context above show.state.core.contexts ≡ Some c
      → AsksContext show t c
  by_line : (d : ℕ) (handle : ℕ) (wait : Bool) → Asks show t (record { call = call.BeginContext d handle; wait = wait })
      → context_of d handle show.state ≡ Ok c → c.active ≡ false → AsksContext show t c

-- an entry answers the Begin of a context with Ok and the context's handle: the frame has this number, and the image is what the
-- context composes at that moment, into this stream
pub record Composes (stream number : ℕ) (image : Bitmap) (show : Show) (t : Turn) : Type 0 where
  pub context : Context
  pub asks : AsksContext show t context
  pub target : context.target ≡ stream
  pub numbered : show.state.begun + 1 ≡ number
  pub code : t.code ≡ 0
  pub value : t.value ≡ context.handle
  pub shows : context_image show.state context ≡ Some image

-- an entry answers the End of the frame of this number with Ok, a frame of a context that draws into this stream
pub record EndsInto (stream number : ℕ) (show : Show) (t : Turn) : Type 0 where
  pub job : Job
  pub handle : ℕ
  pub asks : Asks show t (plain (call.End job))
  pub drew : job.kind ≡ kind.Context handle stream
  pub numbered : job.number ≡ number
  pub code : t.code ≡ 0

-- the image is of the last frame of an order that ended into a stream: one entry answers the Begin of a context that composes it, a
-- later one the End of that frame, and no entry behind that answers the End of a frame into the stream
pub record IsOfLastFrame (script : PlainScript) (order : List Turn) (stream : ℕ) (image : Bitmap) : Type 0 where
  pub number : ℕ
  pub begun : At script order (Composes stream number image)
  pub ended : At script order (EndsInto stream number)
  pub later : length begun.earlier < length ended.earlier
  pub last : (m : ℕ) (other : At script order (EndsInto stream m)) → length other.earlier ≤ length ended.earlier

-- the image that a frame takes of a stream after an order, if there is one
abbrev pub image_after : ℕ → Option Show → Option Bitmap
image_after stream None = None
image_after stream (Some show) = next_image_of (stream_at stream show.state.streams)

-- an order is legal, and no frame runs behind it
abbrev pub is_free_after : Option Show → Bool
is_free_after None = false
is_free_after (Some show) = not (is_running show.state)

-- what a stream has behind an order that leaves no frame running: the image of the last frame that ended into it, or none where
-- none ended
abbrev pub HasLast : PlainScript → List Turn → ℕ → Option Bitmap → Type 0
HasLast script order stream None = (number : ℕ) → At script order (EndsInto stream number) → ⊥
HasLast script order stream (Some image) = IsOfLastFrame script order stream image

-- the frame is of a moment of the order, at which its port's screen has the image of the last frame that ended into it before
pub record ShowsLast (script : PlainScript) (order : List Turn) (f : Frame) : Type 0 where
  pub moment : IsOfMoment script order f
  pub screen : HasLast script moment.earlier f.port (next_image_of (stream_at f.port moment.moment.state.streams))
