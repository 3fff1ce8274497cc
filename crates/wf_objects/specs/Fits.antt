-- When the objects of composition and the store fit: the store has just their handles, and keeps the streams that they name.
use Rattle.std.specs.Prelude.{◌≡◌, ℕ, Bool, true, false, not, ◌&&◌, ◌||◌, ◌==◌, List, map, filter}
use Rattle.std.specs.Prelude.{IsSomeAnd, IsTrue}
use Rattle.std.specs.List.{list_all, AllByRecursion}
use Rattle.wf_words.specs.Keyed.{is_in}
use Rattle.wf_pixel.specs.Choice.{is_a8}
use Rattle.wf_life.specs.declared.Kind.TheVariants as kind
use Rattle.wf_life.specs.Handles.{Live, IsRising, same_kind}
use Rattle.wf_stream.specs.Streams.{KeptStream, StoreView, buffers_at}
use Rattle.wf_scene.specs.Cached.{handles}
use Rattle.wf_model.specs.Objects.{Context, CoreState, Device, Source}
use Rattle.wf_life.specs.Living.{live, of_kind}
use Rattle.wf_model.specs.Fitting.{LayerFits}

-- handles

-- the keys under which the store has the objects: a context's is its device, an element's its context, and that of a
-- source or a mask the number of its stream; a device's tells nothing

abbrev pub device_live : Device → Live
device_live x = live kind.Device x.handle 0

abbrev pub context_live : Context → Live
context_live c = live kind.Context c.handle c.device

abbrev pub source_live : Source → Live
source_live s = live kind.Source s.handle s.stream

abbrev pub mask_live : Source → Live
mask_live m = live kind.Mask m.handle m.stream

abbrev pub element_live : ℕ → ℕ → Live
element_live owner handle = live kind.Element handle owner

-- those of a context's elements
abbrev pub elements_of : ℕ → List Live → List Live
elements_of owner others = filter (λ l. same_kind l.kind kind.Element && (l.key == owner)) others

-- the store has just a context's elements under it
abbrev pub HasElements : List Live → Context → Type 0
HasElements others c = elements_of c.handle others ≡ map (element_live c.handle) (handles c.cached.elements)

-- an element's handle is that of an element of some context
abbrev pub has_owner : List Context → Live → Bool
has_owner contexts l = not (same_kind l.kind kind.Element) || is_in l.key (map (λ c. c.handle) contexts)

-- the store's live handles rise, and of the kinds of composition there are just those of the live objects, under their keys
pub record HandlesFit (core : CoreState) (store : StoreView) : Type 0 where
  pub rising : IsRising 0 store.others store.made
  pub devices : of_kind kind.Device store.others ≡ map device_live core.devices
  pub contexts : of_kind kind.Context store.others ≡ map context_live core.contexts
  pub sources : of_kind kind.Source store.others ≡ map source_live core.sources
  pub masks : of_kind kind.Mask store.others ≡ map mask_live core.masks
  pub elements : AllByRecursion (HasElements store.others) core.contexts
  pub owned : IsTrue (list_all (has_owner core.contexts) store.others)

-- streams, which are kept with the size and the format that they had when they were named

-- a source shows pixels, and a mask alphas
abbrev pub Shows : Bool → List KeptStream → Source → Type 0
Shows mask streams s = IsSomeAnd (buffers_at s.stream streams) (λ b. is_a8 b.format ≡ mask)

-- a context draws into a stream of pixels of the size of its scenes, and its committed scene fits
pub record ContextFits (streams : List KeptStream) (c : Context) : Type 0 where
  pub target : IsSomeAnd (buffers_at c.target streams) (λ b. (b.size ≡ c.cached.size) × (is_a8 b.format ≡ false))
  pub size : c.committed.size ≡ c.cached.size
  pub layers : AllByRecursion (LayerFits streams) c.committed.layers.items

pub record StreamsFit (core : CoreState) (streams : List KeptStream) : Type 0 where
  pub sources : AllByRecursion (Shows false streams) core.sources
  pub masks : AllByRecursion (Shows true streams) core.masks
  pub contexts : AllByRecursion (ContextFits streams) core.contexts

-- objects and store fit
pub record Fits (core : CoreState) (store : StoreView) : Type 0 where
  pub handles : HandlesFit core store
  pub streams : StreamsFit core store.streams
