-- What holds of the streams, of the ports and of the running frame beside one another.
use Rattle.std.specs.Prelude.{◌≡◌, ◌≢◌, ℕ, ◌+◌, ◌-◌, ◌<◌, ◌≤◌, Bool, false, ◌==◌, List, [], ◌∷◌, length, map, slice_get, find, Option, Some}
use Rattle.std.specs.Prelude.{None, IfSome, IsSomeAnd, IsTrue, if◌then◌else◌}
use Rattle.std.specs.List.{list_all, AllByRecursion}
use Rattle.wf_words.specs.Keyed.{nth}
use Rattle.wf_pixel.specs.declared.Format.{Format}
use Rattle.wf_pixel.specs.declared.Format.TheVariants.{Rgba8Pre}
use Rattle.wf_pixel.specs.declared.Size.{Size}
use Rattle.wf_pixel.specs.Choice.{has_sides, is_a8}
use Rattle.wf_image.specs.Bitmap.{Bitmap}
use Rattle.wf_stream.specs.Buffers.{Buffers, away}
use Rattle.wf_stream.specs.Streams.{KeptStream, buffers_at}
use Rattle.wf_scene.specs.declared.Scene.{Scene}
use Rattle.wf_calls.specs.declared.call.Job.{Job}
use Rattle.wf_calls.specs.declared.call.JobKind.{JobKind}
use Rattle.wf_calls.specs.declared.call.JobKind.TheVariants as kind
use Rattle.wf_model.specs.declared.Content.{Content}
use Rattle.wf_model.specs.State.{Running, mode_size}
use Rattle.wf_model.specs.Frames.{is_of_frame}
use Rattle.wf_model.specs.Fitting.{LayerFits}
use Rattle.wf_machine.specs.declared.frame.Frame.{Frame}
use Rattle.wf_machine.specs.declared.port.Port.{Port}
use Rattle.wf_machine.specs.Latching.{IsOutFrom}
use Rattle.wf_machine.specs.Ports.{HoldsBut, sizes_of}

-- what the running frame holds of the streams
abbrev pub contents_of : Option Running → List Content
contents_of None = []
contents_of (Some f) = f.contents

-- a Job has the number and the shape of the running frame
abbrev pub is_of_running : Job → Option Running → Bool
is_of_running job None = false
is_of_running job (Some f) = is_of_frame job f

abbrev pub content_at : ℕ → List Content → Option Content
content_at n contents = find (λ c. c.stream == n) contents

-- no stream stands twice
abbrev pub AreOnce : List Content → Type 0
AreOnce [] = Unit {0}
AreOnce (c ∷ contents) = (content_at c.stream contents ≡ None) × AreOnce contents

-- these streams were all numbered
abbrev pub AreNumbered : ℕ → List Content → Type 0
AreNumbered numbered [] = Unit {0}
AreNumbered numbered (c ∷ contents) = (c.stream ≤ numbered) × AreNumbered numbered contents

-- the read image is away exactly in the running frame, which knows its size and its format
abbrev pub IsRead : Buffers → Option Content → Type 0
IsRead b None = b.read ≢ away
IsRead b (Some c) = (b.read ≡ away) × (b.size ≡ c.size) × (b.format ≡ c.format)

-- what holds of a stream that is kept
pub record StreamFits (contents : List Content) (s : KeptStream) : Type 0 where
  pub sides : IsTrue (has_sides s.buffers.size)
  pub read : IsRead s.buffers (content_at s.number contents)

abbrev pub AllFit : List Content → List KeptStream → Type 0
AllFit contents [] = Unit {0}
AllFit contents (s ∷ streams) = StreamFits contents s × AllFit contents streams

-- the mode of a port whose image is away: that of its own frame, where that runs, and else none
abbrev pub away_of : Option Frame → ℕ → ℕ
away_of None port = 0
away_of (Some f) port = of_kind f.kind
  where
    of_kind : JobKind → ℕ
    of_kind (kind.Context handle target) = 0
    of_kind (kind.Port p) = if p == port then f.mode else 0

-- what holds of the images of a port, which is counted from 1
pub record PortFits (frame : Option Frame) (number : ℕ) (p : Port) : Type 0 where
  pub sides : IsTrue (list_all has_sides p.modes.items)
  pub images : HoldsBut (away_of frame number) p.modes.items p.images.items

abbrev pub PortsFit : Option Frame → ℕ → List Port → Type 0
PortsFit frame number [] = Unit {0}
PortsFit frame number (p ∷ ports) = PortFits frame number p × PortsFit frame (number + 1) ports

-- a frame of a port draws into the image of one of its modes
pub record IsOfMode (mode : ℕ) (size : Size) (modes : List Size) : Type 0 where
  pub some : 1 ≤ mode
  pub within : mode ≤ length modes
  pub size_is : size ≡ mode_size mode modes

-- the image of a mode of the port at a place is away in a frame
abbrev pub AwaitsImage : ℕ → ℕ → List Port → Type 0
AwaitsImage place mode ports =
    (frame : Frame) × (frame.kind ≡ kind.Port (place + 1)) × (frame.mode ≡ mode) × PortsFit (Some frame) 1 ports

-- a frame draws into the write buffer of a stream, which is out
abbrev pub IsOfTarget : Option Buffers → Size → Format → Type 0
IsOfTarget o size format = IsSomeAnd o (λ b. IsTrue b.out × (size ≡ b.size) × (format ≡ b.format))

-- the image of a frame of a kind is that of its port's mode, or of the target of its context, which is kept
abbrev pub KindFits : List (List Size) → ℕ → List KeptStream → Size → Format → JobKind → Type 0
KindFits modes mode streams size format (kind.Context handle target) = IsOfTarget (buffers_at target streams) size format
KindFits modes mode streams size format (kind.Port p) = IsSomeAnd (nth p modes) (IsOfMode mode size) × (format ≡ Rgba8Pre)

-- and so is that of the running frame
abbrev pub FrameFits : List (List Size) → List KeptStream → Frame → Type 0
FrameFits modes streams f = KindFits modes f.mode streams f.size f.format f.kind

-- what a frame composes: each layer fits the streams, and the target is a kept stream of pixels of the scene's size
pub record IsComposable (streams : List KeptStream) (target : ℕ) (scene : Scene) : Type 0 where
  pub target_is : IsSomeAnd (buffers_at target streams) (λ b. (b.size ≡ scene.size) × (is_a8 b.format ≡ false))
  pub layers : AllByRecursion (LayerFits streams) scene.layers.items

-- the image of a frame that ends can be handed on: to its target, of which it is the write buffer, or back to its port
abbrev pub IsDue : List KeptStream → List Port → ℕ → JobKind → Bitmap → Type 0
IsDue streams ports mode (kind.Context handle target) image =
    IsOutFrom streams (record { stream = target; image = image }) × PortsFit None 1 ports
IsDue streams ports mode (kind.Port p) image =
    (1 ≤ p) × (p - 1 < length ports) × AwaitsImage (p - 1) mode ports
    × IfSome (slice_get (map sizes_of ports) (p - 1)) (λ modes. IsOfMode mode image.size modes × (image.format ≡ Rgba8Pre))
