-- The objects of the display fit the store still where the streams that they name keep their shapes; and named streams keep them.
use Rattle.std.proofs.Common.{◌≡◌, ◌∙◌, ℕ, ◌+◌, ◌<◌, ◌≤◌, true, false, ◌==◌, List, [], ◌∷◌, ◌++◌, length, map}
use Rattle.std.proofs.Common.{Option, Some, None, IsSome, option_map, flat_map, refl, ap, subst, arith}
use Rattle.std.proofs.lemmas.Bool.Decides.{nat_tests}
use Rattle.std.specs.List.{AllByRecursion, range_with_len}
use Rattle.std.specs.Prelude.{option_to_list, unwrap_or}
use Rattle.wf_words.specs.Keyed.{is_in}
use Rattle.wf_words.specs.Once.{by_number}
use Rattle.wf_pixel.specs.Choice.{is_a8}
use Rattle.wf_stream.specs.Buffers.{Buffers}
use Rattle.wf_stream.specs.Counts.{times}
use Rattle.wf_stream.specs.Names.{AreCounted, NamesFit, Recounts, but_names, has_count, same_counts, still_at, still_named}
use Rattle.wf_stream.specs.Streams.{IsNumbered, KeptStream, StoreView, buffers_at, count_of, stream_at}
use Rattle.wf_scene.specs.Elements.{layer_in}
use Rattle.wf_model.specs.declared.display.DisplaySource.{DisplaySource}
use Rattle.wf_model.specs.declared.display.Pipeline.{Pipeline}
use Rattle.wf_model.specs.declared.display.Port.{Port}
use Rattle.wf_model.specs.DisplayCommits.{bound_stream}
use Rattle.wf_model.specs.Counting.{times_in}
use Rattle.wf_model.specs.Named.{KeepsNamed, SeenSame, in_back, in_behind, in_first, in_front, layer_kept, rising_higher, some_kept}
use Rattle.wf_model.specs.Names.{display_names, pipeline_names}
use Rattle.wf_model.specs.State.{DisplayState}
use Rattle.wf_display.specs.Fits.{Fits, IsScreen, PipelineFits, ScreensFit, ShowsPixels}

-- the streams of these names are kept
abbrev pub AreKept : List ℕ → StoreView → Type 0
AreKept names v = (n : ℕ) → 0 < n → 0 < times n names → IsSome (stream_at n v.streams)

-- no name began and none ended
pub unchanged : (ns : List ℕ) (v : StoreView) → Recounts ns ns v v
unchanged ns v = same_counts ns ns v (λ n some. refl)

-- what a pipeline shows at the next frame is one of its names
bound_named : (o : Option ℕ) (current : ℕ) → is_in (unwrap_or o current) (current ∷ option_to_list o) ≡ true
bound_named None current = in_first current []
bound_named (Some s) current = in_behind s current (s ∷ []) (in_first s [])

module _ (old new : List KeptStream) (zero_kept : SeenSame (buffers_at 0 old) (buffers_at 0 new)) where
  screens_kept : (n : ℕ) (ps : List Port) → KeepsNamed (range_with_len n (length ps)) old new → ScreensFit old n ps → ScreensFit new n ps
  screens_kept n [] keeps fit = tt
  screens_kept n (p ∷ ps) keeps fit =
      let behind = range_with_len (n + 1) (length ps) in (
        some_kept (λ b. IsScreen b p) (λ b. IsScreen b p) (buffers_at n old) (buffers_at n new) (keeps n (in_first n behind))
            (λ b c size format is. (size ∙ is.0, format ∙ is.1)) fit.0,
        screens_kept (n + 1) ps (λ k within. keeps k (in_behind k n behind within)) fit.1,
      )

  shown_kept : (ss : List DisplaySource) → KeepsNamed (map (λ s. s.stream) ss) old new → AllByRecursion (ShowsPixels old) ss
      → AllByRecursion (ShowsPixels new) ss
  shown_kept [] keeps fit = tt
  shown_kept (s ∷ ss) keeps fit =
      let behind = map (λ t. t.stream) ss in (
        some_kept (λ b. is_a8 b.format ≡ false) (λ b. is_a8 b.format ≡ false) (buffers_at s.stream old) (buffers_at s.stream new)
            (keeps s.stream (in_first s.stream behind)) (λ b c size format is. ap is_a8 format ∙ is) fit.0,
        shown_kept ss (λ n within. keeps n (in_behind n s.stream behind within)) fit.1,
      )

  pipeline_kept : (x : Pipeline) → KeepsNamed (pipeline_names x) old new → PipelineFits old x → PipelineFits new x
  pipeline_kept x keeps fit some = layer_kept old new (layer_in x.committed (bound_stream x) 0) named (fit some)
    where
      named : (n : ℕ) → is_in n (bound_stream x ∷ 0 ∷ []) ≡ true → SeenSame (buffers_at n old) (buffers_at n new)
      named n within =
          by_number (SeenSame (buffers_at n old) (buffers_at n new)) (bound_stream x) n
          (λ here same. keeps n (subst (λ k. is_in k (pipeline_names x) ≡ true) same (bound_named x.pending x.current)))
          (λ apart. by_number (SeenSame (buffers_at n old) (buffers_at n new)) 0 n
          (λ here same. subst (λ k. SeenSame (buffers_at k old) (buffers_at k new)) same zero_kept)
          (λ other. absurd (let no : false ≡ true = rw (apart, other) at within in cc)))

  pipelines_kept : (xs : List Pipeline) → KeepsNamed (flat_map pipeline_names xs) old new → AllByRecursion (PipelineFits old) xs
      → AllByRecursion (PipelineFits new) xs
  pipelines_kept [] keeps fit = tt
  pipelines_kept (x ∷ xs) keeps fit =
      let behind = flat_map pipeline_names xs in (
        pipeline_kept x (λ n within. keeps n (in_front n (pipeline_names x) behind within)) fit.0,
        pipelines_kept xs (λ n within. keeps n (in_back n (pipeline_names x) behind within)) fit.1,
      )

-- objects and store fit still where the named streams keep their shapes
pub still_shown : (d : DisplayState) (store now : StoreView) → now.others ≡ store.others → store.made ≤ now.made
    → SeenSame (buffers_at 0 store.streams) (buffers_at 0 now.streams) → KeepsNamed (display_names d) store.streams now.streams
    → Fits d store → Fits d now
still_shown d store now others more zero_kept keeps fit =
    let screens = range_with_len 1 (length d.ports) in
    let sources = map (λ s. s.stream) d.sources in
    let pipelines = flat_map pipeline_names d.pipelines in
    record {
      handles = record {
        rising = rw others (rising_higher 0 store.made now.made store.others more fit.handles.rising);
        sources = rw others fit.handles.sources;
      };
      streams = record {
        screens = screens_kept store.streams now.streams zero_kept 1 d.ports
            (λ n within. keeps n (in_front n (screens ++ sources) pipelines (in_front n screens sources within))) fit.streams.screens;
        sources = shown_kept store.streams now.streams zero_kept d.sources
            (λ n within. keeps n (in_front n (screens ++ sources) pipelines (in_back n screens sources within))) fit.streams.sources;
        pipelines = pipelines_kept store.streams now.streams zero_kept d.pipelines
            (λ n within. keeps n (in_back n (screens ++ sources) pipelines within)) fit.streams.pipelines;
      };
    }

-- no stream has the number 0, so nothing is seen of it
pub zero_unseen : (low high : ℕ) (old new : List KeptStream) → IsNumbered low old high → SeenSame (buffers_at 0 old) (buffers_at 0 new)
zero_unseen low high [] new rising b found = absurd cc
zero_unseen low high (s ∷ ss) new rising b found =
    let apart : (s.number == 0) ≡ false = grind (arith, nat_tests, rising.0) in
    zero_unseen s.number high ss new rising.1 b (rw apart at found)

module _ (u v : StoreView) (ended began : List ℕ) (counted : AreCounted u) (changed : Recounts ended began u v)
    (zero_same : count_of 0 v ≡ count_of 0 u) where
  counted_same : (n : ℕ) → 0 < count_of n v → SeenSame (buffers_at n u.streams) (buffers_at n v.streams)
  counted_same n some b found =
      (b, ap (option_map (λ s. s.buffers)) (still_at u v ended began counted changed n some) ∙ found, refl, refl)

  -- where names of other numbers change, the number 0 stands for what it did
  zero_kept : SeenSame (buffers_at 0 u.streams) (buffers_at 0 v.streams)
  zero_kept b found = of_stream (stream_at 0 u.streams) refl found
    where
      of_stream : (o : Option KeptStream) → stream_at 0 u.streams ≡ o → option_map (λ s. s.buffers) o ≡ Some b
          → (c : Buffers) × (buffers_at 0 v.streams ≡ Some c) × (c.size ≡ b.size) × (c.format ≡ b.format)
      of_stream None is at = absurd cc
      of_stream (Some s) is at =
          let some = has_count 0 u counted (rw is refl) in
          counted_same 0 (omega (arith, some, zero_same)) b found

  -- the streams that names stand for after a change keep their shapes
  pub named_same : (names : List ℕ) → NamesFit names v → KeepsNamed names u.streams v.streams
  named_same names fit n within =
      by_number (SeenSame (buffers_at n u.streams) (buffers_at n v.streams)) 0 n
      (λ here same. subst (λ k. SeenSame (buffers_at k u.streams) (buffers_at k v.streams)) same zero_kept)
      (λ apart. (
      let some : 0 < n = grind (arith, nat_tests, apart) in
      let named = fit.named n some in
      counted_same n (omega (arith, named, times_in n names within))))

  -- and objects fit still whose names are then counted
  pub named_fits : (d : DisplayState) (names : List ℕ) → NamesFit names u → but_names v ≡ but_names u
      → ((n : ℕ) → 0 < n → times n (display_names d) + times n ended ≤ times n names + times n began) → Fits d u → Fits d v
  named_fits d names fit rest less fits =
      let made = ap (λ w. w.made) rest in
      still_shown d u v (ap (λ w. w.others) rest) (omega (arith, made)) zero_kept
      (named_same (display_names d) (still_named u v ended began counted changed names (display_names d) less fit)) fits
