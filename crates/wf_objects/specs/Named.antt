-- The objects of composition fit the store still where the streams that they name keep their shapes, as they do where names that
-- are counted beside them end or begin.
use Rattle.std.proofs.Common.{◌≡◌, ℕ, ◌<◌, ◌≤◌, Bool, true, false, ◌==◌, List, [], ◌∷◌, ◌++◌, map, flat_map, Option, Some}
use Rattle.std.proofs.Common.{None, is_some, option_map, refl, ap, ◌∙◌, arith}
use Rattle.std.proofs.lemmas.Bool.Decides.{nat_tests}
use Rattle.std.specs.List.{AllByRecursion}
use Rattle.wf_pixel.specs.Choice.{is_a8}
use Rattle.wf_stream.specs.Streams.{KeptStream, StoreView, buffers_at, count_of, stream_at}
use Rattle.wf_stream.specs.Names.{AreCounted, NamesFit, Recounts, has_count, still_at}
use Rattle.wf_model.specs.Objects.{Context, CoreState, Source}
use Rattle.wf_model.specs.Names.{context_names, core_names, layer_names}
use Rattle.wf_model.specs.Counting.{times_in}
use Rattle.wf_model.specs.Named.{KeepsNamed, in_back, in_behind, in_first, in_front, layers_kept, rising_higher, some_kept}
use Rattle.wf_objects.specs.Fits.{ContextFits, Fits, HandlesFit, Shows, StreamsFit}
use Rattle.wf_stream.specs.Renames.{Renames}

module _ (old new : List KeptStream) where
  sources_kept : (mask : Bool) (ss : List Source) → KeepsNamed (map (λ s. s.stream) ss) old new
      → AllByRecursion (Shows mask old) ss → AllByRecursion (Shows mask new) ss
  sources_kept mask [] keeps fit = tt
  sources_kept mask (s ∷ ss) keeps fit =
      let behind = map (λ t. t.stream) ss in (
        some_kept (λ b. is_a8 b.format ≡ mask) (λ b. is_a8 b.format ≡ mask) (buffers_at s.stream old) (buffers_at s.stream new)
            (keeps s.stream (in_first s.stream behind)) (λ b c size format is. ap is_a8 format ∙ is) fit.0,
        sources_kept mask ss (λ n within. keeps n (in_behind n s.stream behind within)) fit.1,
      )

  contexts_kept : (cs : List Context) → KeepsNamed (flat_map context_names cs) old new → AllByRecursion (ContextFits old) cs
      → AllByRecursion (ContextFits new) cs
  contexts_kept [] keeps fit = tt
  contexts_kept (c ∷ cs) keeps fit =
      let behind = flat_map context_names cs in
      let layers = flat_map layer_names c.committed.layers.items in (
        record {
          size = fit.0.size;
          target = some_kept _ _ (buffers_at c.target old) (buffers_at c.target new)
              (keeps c.target (in_front c.target (context_names c) behind (in_first c.target layers)))
              (λ b d size format is. (size ∙ is.0, ap is_a8 format ∙ is.1)) fit.0.target;
          layers = layers_kept old new c.committed.layers.items (λ n within. keeps n
              (in_front n (context_names c) behind (in_behind n c.target layers within))) fit.0.layers;
        },
        contexts_kept cs (λ n within. keeps n (in_back n (context_names c) behind within)) fit.1,
      )

  pub streams_kept : (core : CoreState) → KeepsNamed (core_names core) old new → StreamsFit core old → StreamsFit core new
  streams_kept core keeps fit =
      let sources = map (λ s. s.stream) core.sources in
      let masks = map (λ m. m.stream) core.masks in
      let contexts = flat_map context_names core.contexts in
      record {
        sources =
            sources_kept false core.sources (λ n within. keeps n (in_front n (sources ++ masks) contexts (in_front n sources masks within)))
            fit.sources;
        masks = sources_kept true core.masks (λ n within. keeps n (in_front n (sources ++ masks) contexts (in_back n sources masks within)))
            fit.masks;
        contexts = contexts_kept core.contexts (λ n within. keeps n (in_back n (sources ++ masks) contexts within)) fit.contexts;
      }

-- the store has the same handles, and as many were given or more
pub handles_kept : (core : CoreState) (store now : StoreView) → now.others ≡ store.others → store.made ≤ now.made → HandlesFit core store
    → HandlesFit core now
handles_kept core store now others more fit =
    record {
      rising = rw others (rising_higher 0 store.made now.made store.others more fit.rising);
      devices = rw others fit.devices;
      contexts = rw others fit.contexts;
      sources = rw others fit.sources;
      masks = rw others fit.masks;
      elements = rw others fit.elements;
      owned = rw others fit.owned;
    }

pub still_fits : (core : CoreState) (store now : StoreView) → now.others ≡ store.others → store.made ≤ now.made
    → KeepsNamed (core_names core) store.streams now.streams → Fits core store → Fits core now
still_fits core store now others more keeps fit =
    record {
      handles = handles_kept core store now others more fit.handles;
      streams = streams_kept store.streams now.streams core keeps fit.streams;
    }

-- the streams of names that are counted stay where others end or begin
pub named_stay : (u v : StoreView) (ended began names : List ℕ) → AreCounted u → Recounts ended began u v → count_of 0 v ≡ count_of 0 u
    → NamesFit names v → KeepsNamed names u.streams v.streams
named_stay u v ended began names counted change none fit n within b found =
    let same = still_at u v ended began counted change n (elim (n == 0) as (λ t. (n == 0) ≡ t → 0 < count_of n v) [
      | true ↦ λ is. at_zero (grind (arith, nat_tests, is))
      | false ↦ λ is. (
          let some : 0 < n = grind (arith, nat_tests, is) in
          let there = times_in n names within in
          let counts = fit.named n some in
          omega (arith, there, counts))
    ] refl) in
    (b, ap (option_map (λ s. s.buffers)) same ∙ found, refl, refl)
  where
    kept : (o : Option KeptStream) → option_map (λ s. s.buffers) o ≡ Some b → is_some o ≡ true
    kept None is = absurd cc
    kept (Some s) is = refl

    at_zero : n ≡ 0 → 0 < count_of n v
    at_zero is =
        let had : 0 < count_of n u = has_count n u counted (kept (stream_at n u.streams) found) in
        let same : count_of n v ≡ count_of n u = rw is none in
        omega (arith, had, same)

-- so the objects whose names are counted fit still
pub renamed_fits : (core : CoreState) (u v : StoreView) (ended began : List ℕ) → AreCounted u → Renames ended began u v
    → NamesFit (core_names core) v → Fits core u → Fits core v
renamed_fits core u v ended began counted change fit fits =
    let made : v.made ≡ u.made = ap (λ w. w.made) change.rest in
    still_fits core u v (ap (λ w. w.others) change.rest) (omega (arith, made))
    (named_stay u v ended began (core_names core) counted change.names change.none fit) fits
