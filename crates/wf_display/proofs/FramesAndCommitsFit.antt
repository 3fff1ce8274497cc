-- What a frame's beginning and a commit leave holds and fits still.
use Rattle.std.proofs.Common.{◌≡◌, ◌∙◌, ◌≤◌, ℕ, suc, ◌+◌, Bool, true, false, not, cond, ◌==◌, List, [], ◌∷◌, length, map, Option, Some}
use Rattle.std.proofs.Common.{None}
use Rattle.std.proofs.Common.{refl, sym, ap, subst}
use Rattle.std.specs.Prelude.{IsSomeAnd, position, option_map, if◌then◌else◌}
use Rattle.std.specs.List.{AllByRecursion}
use Rattle.std.specs.Option.{option_map_or}
use Rattle.wf_words.specs.Each.{each_found, each_mapped}
use Rattle.wf_pixel.specs.Choice.{is_a8}
use Rattle.wf_stream.specs.Buffers.{Buffers}
use Rattle.wf_stream.specs.Streams.{KeptStream, StoreView, buffers_at}
use Rattle.wf_scene.specs.declared.look.Fault.{Fault}
use Rattle.wf_scene.specs.declared.style.Style.{Style}
use Rattle.wf_scene.specs.Layers.{holds_rect}
use Rattle.wf_calls.specs.declared.display.Transition.{Transition}
use Rattle.wf_calls.specs.declared.display.Transition.TheVariants.{Now, Vsync}
use Rattle.wf_model.specs.declared.display.DisplaySource.{DisplaySource}
use Rattle.wf_model.specs.declared.display.Extent.{Extent}
use Rattle.wf_model.specs.declared.display.Pipeline.{Pipeline}
use Rattle.wf_model.specs.declared.display.Port.{Port}
use Rattle.wf_model.specs.declared.display.Request.{Request}
use Rattle.wf_model.specs.Display.{begun_display, begun_pipeline}
use Rattle.wf_model.specs.DisplayCommits.{bound, bound_stream, broken_rule, committed, committed_pipeline, committed_port, fault_at}
use Rattle.wf_model.specs.DisplayCommits.{fault_from, fault_of, has_destination, has_source, is_inside, keeps_port, or_later}
use Rattle.wf_model.specs.DisplayCommits.{requested_stream, stream_of, takes_pipeline, takes_port, wanted_stream}
use Rattle.wf_model.specs.DisplaySides.{source_at}
use Rattle.wf_model.specs.Numbered.{each_from}
use Rattle.wf_model.specs.State.{DisplayState}
use Rattle.wf_display.specs.Display.{IsDisplay, IsPipeline, IsPort, IsStyle}
use Rattle.wf_display.specs.Fits.{Fits, IsScreen, PipelineFits, ScreensFit, ShowsPixels, ShowsWell}
use Rattle.wf_calls.specs.declared.TheConstants.{MOST_PIPELINES}

-- the beginning of a frame

-- a pipeline shows at the frame what it would have shown at the next one
begun_shows : (n : ℕ) (x : Pipeline) → bound_stream (begun_pipeline n x) ≡ bound_stream x
begun_shows n x = elim (x.committed_port == n)
    as (λ b. bound_stream (cond b (record x { current = bound_stream x; pending = None }) x) ≡ bound_stream x) [
      | true ↦ refl
      | false ↦
          refl
    ]

begun_committed : (n : ℕ) (x : Pipeline) → (begun_pipeline n x).committed ≡ x.committed
begun_committed n x = elim (x.committed_port == n)
    as (λ b. (cond b (record x { current = bound_stream x; pending = None }) x).committed ≡ x.committed) [ true ↦ refl | false ↦ refl ]

begun_cached : (n : ℕ) (x : Pipeline) → (begun_pipeline n x).cached ≡ x.cached
begun_cached n x = elim (x.committed_port == n)
    as (λ b. (cond b (record x { current = bound_stream x; pending = None }) x).cached ≡ x.cached) [ true ↦ refl | false ↦ refl ]

as_many_mapped : {A B : Type 0} (f : A → B) (xs : List A) → length (map f xs) ≡ length xs
as_many_mapped f [] = refl
as_many_mapped f (x ∷ xs) = ap suc (as_many_mapped f xs)

pub begun_holds : (n : ℕ) (d : DisplayState) → IsDisplay d → IsDisplay (begun_display n d)
begun_holds n d is =
    record {
      ports = is.ports;
      pipelines = each_mapped IsPipeline IsPipeline (begun_pipeline n) (λ x holds. record {
        cached = subst IsStyle (sym (begun_cached n x)) holds.cached;
        committed = subst IsStyle (sym (begun_committed n x)) holds.committed;
      }) d.pipelines is.pipelines;
      few_ports = is.few_ports;
      few_pipelines = subst (λ k. k ≤ MOST_PIPELINES) (sym (as_many_mapped (begun_pipeline n) d.pipelines)) is.few_pipelines;
    }

pub begun_fits : (n : ℕ) (d : DisplayState) (store : StoreView) → Fits d store → Fits (begun_display n d) store
begun_fits n d store fits =
    record {
      handles = record { rising = fits.handles.rising; sources = fits.handles.sources };
      streams = record {
        screens = fits.streams.screens;
        sources = fits.streams.sources;
        pipelines = each_mapped (PipelineFits store.streams) (PipelineFits store.streams) (begun_pipeline n)
            (λ x shows. subst (λ style. ShowsWell store.streams style (bound_stream (begun_pipeline n x))) (sym (begun_committed n x))
            (subst (λ m. ShowsWell store.streams x.committed m) (sym (begun_shows n x)) shows))
            d.pipelines fits.streams.pipelines;
      };
    }

-- commits

-- what is taken of a port, and of a pipeline
abbrev pub port_after : Extent → ℕ → Port → Port
port_after e p x = if takes_port e p then committed_port x else x

abbrev pub pipeline_after : Extent → List DisplaySource → ℕ → Pipeline → Pipeline
pipeline_after e sources l x = if takes_pipeline e l x then committed_pipeline sources x else x

-- what holds of each element, and of its number, holds of what a function gives
each_given : {A B : Type 0} (P : A → Type 0) (Q : B → Type 0) (f : ℕ → A → B) → ((n : ℕ) (x : A) → P x → Q (f n x)) → (n : ℕ) (xs : List A)
    → AllByRecursion P xs → AllByRecursion Q (each_from f n xs)
each_given P Q f from n [] all = tt
each_given P Q f from n (x ∷ xs) all = (from n x all.0, each_given P Q f from (n + 1) xs all.1)

pub as_many_given : {A B : Type 0} (f : ℕ → A → B) (n : ℕ) (xs : List A) → length (each_from f n xs) ≡ length xs
as_many_given f n [] = refl
as_many_given f n (x ∷ xs) = ap suc (as_many_given f (n + 1) xs)

port_holds : (e : Extent) (p : ℕ) (x : Port) → IsPort x → IsPort (port_after e p x)
port_holds e p x is = elim (takes_port e p) as (λ b. IsPort (cond b (committed_port x) x)) [
  | true ↦ record { sides = is.sides; cached = is.cached; committed = is.cached }
  | false ↦ is
]

bound_styles : (t : Transition) (n : ℕ) (x : Pipeline) → IsPipeline x → IsPipeline (bound t n x)
bound_styles Now n x is = record { cached = is.cached; committed = is.committed }
bound_styles Vsync n x is = record { cached = is.cached; committed = is.committed }

committed_holds : (sources : List DisplaySource) (x : Pipeline) → IsPipeline x → IsPipeline (committed_pipeline sources x)
committed_holds sources x is = of_request x.request refl
  where
    of_request : (o : Option Request) → x.request ≡ o → IsPipeline (committed_pipeline sources x)
    of_request None at = rw at (record { cached = is.cached; committed = is.cached })
    of_request (Some r) at = rw at (bound_styles r.transition (requested_stream r.source sources) _
        (record { cached = is.cached; committed = is.cached }))

pipeline_holds : (e : Extent) (sources : List DisplaySource) (l : ℕ) (x : Pipeline) → IsPipeline x
    → IsPipeline (pipeline_after e sources l x)
pipeline_holds e sources l x is = elim (takes_pipeline e l x)
    as (λ b. IsPipeline (cond b (committed_pipeline sources x) x)) [ true ↦ committed_holds sources x is | false ↦ is ]

pub committed_display : (e : Extent) (d : DisplayState) → IsDisplay d → IsDisplay (committed e d)
committed_display e d is =
    record {
      ports = each_given IsPort IsPort (port_after e) (port_holds e) 1 d.ports is.ports;
      pipelines = each_given IsPipeline IsPipeline (pipeline_after e d.sources) (pipeline_holds e d.sources) 1 d.pipelines is.pipelines;
      few_ports = subst (λ k. k ≤ 4) (sym (as_many_given (port_after e) 1 d.ports)) is.few_ports;
      few_pipelines = subst (λ k. k ≤ MOST_PIPELINES) (sym (as_many_given (pipeline_after e d.sources) 1 d.pipelines)) is.few_pipelines;
    }

-- screens do not change
screens_stay : (e : Extent) (streams : List KeptStream) (n k : ℕ) (ports : List Port) → ScreensFit streams n ports
    → ScreensFit streams n (each_from (port_after e) k ports)
screens_stay e streams n k [] fit = tt
screens_stay e streams n k (p ∷ ports) fit = (
  elim (takes_port e k) as (λ b. IsSomeAnd (buffers_at n streams) (λ s. IsScreen s (cond b (committed_port p) p))) [
    | true ↦ fit.0
    | false ↦ fit.0
  ],
  screens_stay e streams (n + 1) (k + 1) ports fit.1,
)

-- the four rules are kept where none is broken
none_broken : (a b c d : Bool) → option_map (λ i. i + 1) (position not (a ∷ b ∷ c ∷ d ∷ [])) ≡ None
    → (a ≡ true) × (b ≡ true) × (c ≡ true) × (d ≡ true)
none_broken true true true true none = (refl, refl, refl, refl)
none_broken true true true false none = absurd cc
none_broken true true false d none = absurd cc
none_broken true false c d none = absurd cc
none_broken false b c d none = absurd cc

none_first : (first later : Option Fault) → or_later first later ≡ None → (first ≡ None) × (later ≡ None)
none_first None later none = (refl, none)
none_first (Some f) later none = absurd cc

-- what is shown after a commit is what was wanted
shows_wanted : (sources : List DisplaySource) (x : Pipeline) → bound_stream (committed_pipeline sources x) ≡ wanted_stream x sources
shows_wanted sources x = of_request x.request refl
  where
    of_transition : (t : Transition) (n : ℕ) (y : Pipeline) → bound_stream (bound t n y) ≡ n
    of_transition Now n y = refl
    of_transition Vsync n y = refl

    of_request : (o : Option Request) → x.request ≡ o → bound_stream (committed_pipeline sources x) ≡ wanted_stream x sources
    of_request None at = rw at refl
    of_request (Some r) at = rw at (of_transition r.transition (requested_stream r.source sources) _)

shows_cached : (sources : List DisplaySource) (x : Pipeline) → (committed_pipeline sources x).committed ≡ x.cached
shows_cached sources x = of_request x.request refl
  where
    of_transition : (t : Transition) (n : ℕ) (y : Pipeline) → (bound t n y).committed ≡ y.committed
    of_transition Now n y = refl
    of_transition Vsync n y = refl

    of_request : (o : Option Request) → x.request ≡ o → (committed_pipeline sources x).committed ≡ x.cached
    of_request None at = rw at refl
    of_request (Some r) at = rw at (of_transition r.transition (requested_stream r.source sources) _)

-- what is wanted is a stream of pixels
wants_pixels : (streams : List KeptStream) (sources : List DisplaySource) (x : Pipeline) → AllByRecursion (ShowsPixels streams) sources
    → PipelineFits streams x → (wanted_stream x sources == 0) ≡ false
    → IsSomeAnd (buffers_at (wanted_stream x sources) streams) (λ b. is_a8 b.format ≡ false)
wants_pixels streams sources x all shows = of_request x.request refl
  where
    pixels : (o : Option Buffers) (style : Style) → IsSomeAnd o (λ b. (is_a8 b.format ≡ false) × (holds_rect b.size style.src ≡ true))
        → IsSomeAnd o (λ b. is_a8 b.format ≡ false)
    pixels None style is = absurd is
    pixels (Some b) style is = is.0

    of_source : (r : Request) (o : Option DisplaySource) → source_at r.source sources ≡ o → (stream_of o == 0) ≡ false
        → IsSomeAnd (buffers_at (stream_of o) streams) (λ b. is_a8 b.format ≡ false)
    of_source r None at some = absurd cc
    of_source r (Some s) at some = each_found (ShowsPixels streams) (λ (t : DisplaySource). t.handle == r.source) sources s all at

    of_request : (o : Option Request) → x.request ≡ o → (wanted_stream x sources == 0) ≡ false
        → IsSomeAnd (buffers_at (wanted_stream x sources) streams) (λ b. is_a8 b.format ≡ false)
    of_request None at = rw at (λ some. pixels (buffers_at (bound_stream x) streams) x.committed (shows some).source)
    of_request (Some r) at = rw at (of_source r (source_at r.source sources) refl)

-- a style that keeps the rules shows a stream of pixels well
shows_well : (streams : List KeptStream) (style : Style) (n : ℕ) → IsStyle style
    → ((n == 0) ≡ false → IsSomeAnd (buffers_at n streams) (λ b. is_a8 b.format ≡ false)) → is_inside n style streams ≡ true
    → has_destination n style ≡ true → ShowsWell streams style n
shows_well streams style n is pixels inside dest some =
    record {
      source = of_buffers (buffers_at n streams) refl (pixels some);
      dest = rw some at dest;
      place = is.placed;
      mask = λ masked. absurd (let no : true ≡ false = sym masked ∙ is.unmasked in cc);
      unmasked = λ _. refl;
    }
  where
    within : option_map_or (λ b. holds_rect b.size style.src) (buffers_at n streams) false ≡ true
    within = rw some at inside

    of_buffers : (o : Option Buffers) → buffers_at n streams ≡ o → IsSomeAnd o (λ b. is_a8 b.format ≡ false)
        → IsSomeAnd (buffers_at n streams) (λ b. (is_a8 b.format ≡ false) × (holds_rect b.size style.src ≡ true))
    of_buffers None at shown = absurd shown
    of_buffers (Some b) at shown = rw at (shown, rw at at within)

module _ (e : Extent) (streams : List KeptStream) (sources : List DisplaySource) (all : AllByRecursion (ShowsPixels streams) sources) where
  pipeline_fits : (l : ℕ) (x : Pipeline) → IsPipeline x → PipelineFits streams x → fault_at e streams sources l x ≡ None
      → PipelineFits streams (pipeline_after e sources l x)
  pipeline_fits l x is shows none = of_test (takes_pipeline e l x) refl
    where
      rules : takes_pipeline e l x ≡ true → broken_rule e streams sources x ≡ None
      rules taken = none_of (broken_rule e streams sources x) (rw taken at none)
        where
          none_of : (o : Option ℕ) → option_map (fault_of l) o ≡ None → o ≡ None
          none_of None at = refl
          none_of (Some rule) at = absurd cc

      taken_fits : takes_pipeline e l x ≡ true → PipelineFits streams (committed_pipeline sources x)
      taken_fits taken =
          let n = wanted_stream x sources in
          let kept = none_broken (has_source x sources) (is_inside n x.cached streams) (has_destination n x.cached) (keeps_port e x)
          (rules taken) in
          subst (λ style. ShowsWell streams style (bound_stream (committed_pipeline sources x))) (sym (shows_cached sources x))
          (subst (λ m. ShowsWell streams x.cached m) (sym (shows_wanted sources x))
          (shows_well streams x.cached n is.cached (wants_pixels streams sources x all shows) kept.1 kept.2))

      of_test : (b : Bool) → takes_pipeline e l x ≡ b → PipelineFits streams (pipeline_after e sources l x)
      of_test true taken = rw taken (taken_fits taken)
      of_test false left = rw left shows

  pipelines_fit : (l : ℕ) (xs : List Pipeline) → AllByRecursion IsPipeline xs → AllByRecursion (PipelineFits streams) xs
      → fault_from e streams sources l xs ≡ None → AllByRecursion (PipelineFits streams) (each_from (pipeline_after e sources) l xs)
  pipelines_fit l [] is fit none = tt
  pipelines_fit l (x ∷ xs) is fit none =
      let each = none_first (fault_at e streams sources l x) (fault_from e streams sources (l + 1) xs) none in
      (pipeline_fits l x is.0 fit.0 each.0, pipelines_fit (l + 1) xs is.1 fit.1 each.1)

-- a commit without a fault
pub committed_fits : (e : Extent) (d : DisplayState) (store : StoreView) → IsDisplay d → Fits d store
    → fault_from e store.streams d.sources 1 d.pipelines ≡ None → Fits (committed e d) store
committed_fits e d store is fits none =
    record {
      handles = record { rising = fits.handles.rising; sources = fits.handles.sources };
      streams = record {
        screens = screens_stay e store.streams 1 1 d.ports fits.streams.screens;
        sources = fits.streams.sources;
        pipelines = pipelines_fit e store.streams d.sources fits.streams.sources 1 d.pipelines is.pipelines fits.streams.pipelines none;
      };
    }
