-- Frames that may begin: what each kind of frame draws into, and of which scenes.
use Rattle.std.specs.List.{AllByRecursion}
use Rattle.std.specs.Prelude.{◌≡◌, ℕ, ◌-◌, ◌<◌, ◌≤◌, false, List, length, map, slice_get, Option, Some, None, Ok, IfSome, IsSomeAnd}
use Rattle.wf_pixel.specs.Choice.{is_a8}
use Rattle.wf_pixel.specs.declared.Format.{Format}
use Rattle.wf_pixel.specs.declared.Format.TheVariants.{Rgba8Pre}
use Rattle.wf_words.specs.Keyed.{nth}
use Rattle.wf_image.specs.Bitmap.{Bitmap, blank}
use Rattle.wf_scene.specs.declared.Scene.{Scene}
use Rattle.wf_stream.specs.Buffers.{Buffers, is_blocked}
use Rattle.wf_stream.specs.Streams.{KeptStream, buffers_at}
use Rattle.wf_calls.specs.declared.call.JobKind.{JobKind}
use Rattle.wf_calls.specs.declared.call.JobKind.TheVariants as kind
use Rattle.wf_model.specs.Fitting.{LayerFits}
use Rattle.wf_model.specs.Frames.{Beginning, content_shape, target_ready}
use Rattle.wf_model.specs.Picture.{Images}
use Rattle.wf_model.specs.Kept.{modes_of}
use Rattle.wf_model.specs.State.{State, mode_size}
use Rattle.wf_machine.specs.declared.frame.Frame.{Frame}
use Rattle.wf_machine.specs.declared.port.Port.{Port}
use Rattle.wf_machine.specs.Fitting.{IsOfMode, PortsFit}
use Rattle.wf_machine.specs.Ports.{IsFrameImage, sizes_of}

-- the format of the image that a frame draws into: that of its context's target, or premultiplied for a port
abbrev pub format_for : JobKind → List KeptStream → Format
format_for (kind.Context handle target) streams = format_in (buffers_at target streams)
  where
    format_in : Option Buffers → Format
    format_in None = Rgba8Pre
    format_in (Some b) = b.format
format_for (kind.Port port) streams = Rgba8Pre

-- a frame of a kind that shows a scene
abbrev pub beginning_of : JobKind → Scene → ℕ → State → Beginning
beginning_of k scene value h =
    record { kind = k; display = h.display; scene = scene; format = format_for k h.streams; value = value }

-- a frame of a kind, which draws into a mode of its port, may begin: a context's where its target is ready and of the scene's
-- size, a port's where its mode has the scene's size
abbrev pub MayDraw : JobKind → ℕ → Scene → State → Type 0
MayDraw (kind.Context handle target) mode scene h =
    IsSomeAnd (buffers_at target h.streams) (λ b. (b.size ≡ scene.size) × (is_a8 b.format ≡ false)
    × (target_ready 0 target scene b h ≡ Ok tt))
MayDraw (kind.Port port) mode scene h = IsSomeAnd (nth port (modes_of h.display)) (IsOfMode mode scene.size)

-- and its scene fits the streams
pub record MayStart (k : JobKind) (mode : ℕ) (scene : Scene) (h : State) : Type 0 where
  pub draws : MayDraw k mode scene h
  pub layers : AllByRecursion (LayerFits h.streams) scene.layers.items

-- what the machine keeps of a frame: its number, its kind and mode, and the size and format of its image and of each of its contents
pub record IsKept (number : ℕ) (k : JobKind) (mode : ℕ) (image : Bitmap) (contents : Images) (f : Frame) : Type 0 where
  pub number_is : f.number ≡ number
  pub kind_is : f.kind ≡ k
  pub mode_is : f.mode ≡ mode
  pub size_is : f.size ≡ image.size
  pub format_is : f.format ≡ image.format
  pub contents_are : f.contents.items ≡ map content_shape contents

-- the image of a frame can be taken, while no image of a port is away: the write buffer of its context's target is at home,
-- and a buffer is free; or its port has the mode
abbrev pub IsReady : List KeptStream → List Port → ℕ → JobKind → Type 0
IsReady streams ports mode (kind.Context handle target) =
    PortsFit None 1 ports × IsSomeAnd (buffers_at target streams) (λ b. (b.out ≡ false) × (is_blocked b ≡ false))
IsReady streams ports mode (kind.Port port) =
    PortsFit None 1 ports × (1 ≤ port) × (port - 1 < length ports)
    × IsSomeAnd (slice_get (map sizes_of ports) (port - 1)) (λ modes. (1 ≤ mode) × (mode ≤ length modes))

-- the image that a frame takes: a cleared write buffer of its context's target, or its port's image of the mode
abbrev pub IsTargetOf : List KeptStream → List Port → ℕ → JobKind → Bitmap → Type 0
IsTargetOf streams ports mode (kind.Context handle target) image =
    IfSome (buffers_at target streams) (λ b. image ≡ blank b.size b.format)
IsTargetOf streams ports mode (kind.Port port) image =
    IfSome (slice_get (map sizes_of ports) (port - 1)) (λ modes. IsFrameImage (mode_size mode modes) (Some image))
