-- When the objects of the display and the store fit: the store has just their handles, and keeps the streams that they name.
use Rattle.std.specs.Prelude.{◌≡◌, ℕ, ◌+◌, ◌==◌, false, List, [], ◌∷◌, map, IsSomeAnd}
use Rattle.std.specs.List.{AllByRecursion}
use Rattle.wf_pixel.specs.Choice.{is_a8}
use Rattle.wf_pixel.specs.declared.Format.TheVariants.{Rgbx8}
use Rattle.wf_life.specs.declared.Kind.TheVariants as kind
use Rattle.wf_life.specs.Handles.{Live, IsRising}
use Rattle.wf_stream.specs.Buffers.{Buffers}
use Rattle.wf_stream.specs.Streams.{KeptStream, StoreView, buffers_at}
use Rattle.wf_scene.specs.declared.style.Style.{Style}
use Rattle.wf_scene.specs.Elements.{layer_in}
use Rattle.wf_model.specs.DisplayCommits.{bound_stream}
use Rattle.wf_model.specs.declared.display.DisplaySource.{DisplaySource}
use Rattle.wf_model.specs.declared.display.Pipeline.{Pipeline}
use Rattle.wf_model.specs.declared.display.Port.{Port}
use Rattle.wf_model.specs.State.{DisplayState, mode_size}
use Rattle.wf_model.specs.Fitting.{LayerFits}
use Rattle.wf_life.specs.Living.{live, of_kind}

-- a source's key is the number of its stream
abbrev pub source_live : DisplaySource → Live
source_live s = live kind.DisplaySource s.handle s.stream

-- the store's live handles rise, and those of sources of the display are just those of the live ones, under their keys
pub record HandlesFit (d : DisplayState) (store : StoreView) : Type 0 where
  pub rising : IsRising 0 store.others store.made
  pub sources : of_kind kind.DisplaySource store.others ≡ map source_live d.sources

-- streams, which are kept with the size and the format that they had when they were named

-- the screen of a port has the size of its first mode
abbrev pub IsScreen : Buffers → Port → Type 0
IsScreen b p = (b.size ≡ mode_size 1 p.modes.items) × (b.format ≡ Rgbx8)

-- the screens of ports that are counted from a number on are the streams of these numbers
abbrev pub ScreensFit : List KeptStream → ℕ → List Port → Type 0
ScreensFit streams n [] = Unit {0}
ScreensFit streams n (p ∷ ports) = IsSomeAnd (buffers_at n streams) (λ b. IsScreen b p) × ScreensFit streams (n + 1) ports

-- a source shows pixels
abbrev pub ShowsPixels : List KeptStream → DisplaySource → Type 0
ShowsPixels streams s = IsSomeAnd (buffers_at s.stream streams) (λ b. is_a8 b.format ≡ false)

-- a stream that is shown in a style is a layer that fits; the number 0 shows none
abbrev pub ShowsWell : List KeptStream → Style → ℕ → Type 0
ShowsWell streams style n = (n == 0) ≡ false → LayerFits streams (layer_in style n 0)

-- so is what a pipeline shows at the next frame
abbrev pub PipelineFits : List KeptStream → Pipeline → Type 0
PipelineFits streams x = ShowsWell streams x.committed (bound_stream x)

pub record StreamsFit (d : DisplayState) (streams : List KeptStream) : Type 0 where
  pub screens : ScreensFit streams 1 d.ports
  pub sources : AllByRecursion (ShowsPixels streams) d.sources
  pub pipelines : AllByRecursion (PipelineFits streams) d.pipelines

-- objects and store fit
pub record Fits (d : DisplayState) (store : StoreView) : Type 0 where
  pub handles : HandlesFit d store
  pub streams : StreamsFit d store.streams
