-- Sources that are made and destroyed: what is found of their streams, and what is left fits.
use Rattle.std.proofs.Common.{◌≡◌, ◌∙◌, ℕ, ◌+◌, ◌<◌, Bool, true, false, not, ◌==◌, List, [], ◌∷◌, ◌++◌, filter, map}
use Rattle.std.proofs.Common.{Option, Some, None, is_some, Ok, Err, option_map, refl, sym, ap, subst, arith}
use Rattle.std.specs.Prelude.{ℤ, IsSomeAnd}
use Rattle.wf_words.specs.Each.{each_filtered, each_more}
use Rattle.wf_words.specs.Filtered.{count_left, more_left, more_passed}
use Rattle.wf_words.specs.Found.{any_found}
use Rattle.wf_words.specs.Refusals.{◌>>=◌}
use Rattle.wf_words.specs.Rising.{Rises, rises_filter, rises_map}
use Rattle.wf_words.specs.Whole.{count_of}
use Rattle.wf_pixel.specs.Choice.{is_a8}
use Rattle.wf_life.specs.declared.Kind.{Kind}
use Rattle.wf_life.specs.declared.Kind.TheVariants as kind
use Rattle.wf_life.specs.Handles.{Live, is_full, is_live, live_count, rises_live, rising_more, rising_without, same_kind, without}
use Rattle.wf_life.specs.Living.{IsUnder, count_stays, left_out, live, lives, object_under, taken_out}
use Rattle.wf_stream.specs.Buffers.{Buffers}
use Rattle.wf_stream.specs.Counts.{counted, times}
use Rattle.wf_stream.specs.Names.{IsReleasable, NamesFit, Recounts, but_names, releasable}
use Rattle.wf_stream.specs.Streams.{IsNumbered, KeptStream, StoreView, buffers_at, number_of, stream_of, with_other}
use Rattle.wf_calls.specs.declared.code.Code.TheVariants as code
use Rattle.wf_calls.specs.declared.reply.Refusal.{Refusal}
use Rattle.wf_calls.specs.Replies.{refusal}
use Rattle.wf_model.specs.declared.display.DisplaySource.{DisplaySource}
use Rattle.wf_model.specs.Composition.{by_handle}
use Rattle.wf_model.specs.DisplaySides.{on_display, pipeline, source_at}
use Rattle.wf_model.specs.Names.{display_names}
use Rattle.wf_model.specs.Outcome.{refuse, refused_handle}
use Rattle.wf_model.specs.Pipelines.{all_sources, display_source, display_source_destroy, pixel_stream, without_source}
use Rattle.wf_model.specs.State.{DisplayState}
use Rattle.wf_display.specs.Does.{Does}
use Rattle.wf_display.specs.Fits.{Fits, ShowsPixels, source_live}
use Rattle.wf_display.specs.Named.{named_fits}
use Rattle.wf_display.specs.Sides.{display_side_of}
use Rattle.wf_display.proofs.NameCounts.{in_parts, source_less, source_more, source_named}
use Rattle.wf_display.proofs.PipelineNames.{told_as}
use Rattle.wf_display.proofs.AttributesSet.{counted_does, same_fits}

-- the stream of a live handle, by its number
module _ (handle n high : ℕ) (streams : List KeptStream) (rising : IsNumbered 0 streams high) (is : Some n ≡ number_of handle streams) where
  numbered : (s : KeptStream) × (stream_of handle streams ≡ Some s) × (s.number ≡ n) × (buffers_at n streams ≡ Some s.buffers)
  numbered = of_stream (stream_of handle streams) refl is
    where
      of_stream : (o : Option KeptStream) → stream_of handle streams ≡ o → Some n ≡ option_map (λ s. s.number) o
          → (s : KeptStream) × (stream_of handle streams ≡ Some s) × (s.number ≡ n) × (buffers_at n streams ≡ Some s.buffers)
      of_stream None at same = absurd cc
      of_stream (Some s) at same =
          let here : s.number ≡ n = cc in
          (s, at, here, ap (option_map (λ (t : KeptStream). t.buffers)) (by_handle handle n high streams rising is ∙ at))

  -- it is kept
  pub is_kept : buffers_at n streams ≡ None → ⊥
  is_kept none = let no : None ≡ Some _ = sym none ∙ numbered.3 in cc

  -- with a format that is for masks, or not
  pub found_format : (b : Buffers) (masks : Bool) → Some b ≡ buffers_at n streams → is_a8 b.format ≡ masks
      → pixel_stream handle streams ≡ (refuse code.NotSupported masks >>= (λ _. Ok n))
  found_format b masks at format =
      let here : Some b ≡ Some numbered.0.buffers = at ∙ numbered.3 in
      let same : b ≡ numbered.0.buffers = cc in
      let a8 : is_a8 numbered.0.buffers.format ≡ masks = ap (λ c. is_a8 c.format) (sym same) ∙ format in
      rw (numbered.1, a8) (ap (λ m. refuse code.NotSupported masks >>= (λ _. Ok m)) numbered.2)

-- the test of a new handle passes
passes_handle : (made : ℕ) → Ok tt ≡ refused_handle made false → is_full made ≡ false
passes_handle made given = of_test (is_full made) given
  where
    of_test : (b : Bool) → Ok tt ≡ (refuse code.Limit b >>= (λ _. refuse code.OutOfMemory false)) → b ≡ false
    of_test true given = absurd cc
    of_test false given = refl

-- and a refusal is that of the call
pub refuses_handle : {A : Type 0} (made : ℕ) (refused : Bool) (r : Refusal) (x : A) → Err r ≡ refused_handle made refused
    → (refuse code.Limit (is_full made) >>= (λ _. refuse code.OutOfMemory refused >>= (λ _. Ok x))) ≡ Err r
refuses_handle made refused r x given = of_test (is_full made) refused given
  where
    of_test : (b c : Bool) → Err r ≡ (refuse code.Limit b >>= (λ _. refuse code.OutOfMemory c))
        → (refuse code.Limit b >>= (λ _. refuse code.OutOfMemory c >>= (λ _. Ok x))) ≡ Err r
    of_test true c given = (let same : r ≡ refusal code.Limit = cc in ap Err (sym same))
    of_test false true given = (let same : r ≡ refusal code.OutOfMemory = cc in ap Err (sym same))
    of_test false false given = absurd cc

-- a source is made for a pipeline that was found, of a stream of pixels
module _ (d : DisplayState) (store : StoreView) (fits : Fits d store) (l : ℤ) (handle n : ℕ)
    (pipeline_found : (x : _) × (pipeline l d ≡ Ok x)) (stream : pixel_stream handle store.streams ≡ Ok n)
    (pixels : IsSomeAnd (buffers_at n store.streams) (λ b. is_a8 b.format ≡ false))
    (room : all_sources (display_side_of d store) ≡ false) (given : Ok tt ≡ refused_handle store.made false) where
  abbrev pub new : DisplaySource
  new = record { handle = store.made + 1; pipeline = count_of l; stream = n }

  abbrev pub left : DisplayState
  left = record d { sources = d.sources ++ new ∷ [] }

  abbrev pub now : StoreView
  now = with_other kind.DisplaySource n store

  -- the other kinds are counted as before
  others_counted : (k : Kind) → same_kind kind.DisplaySource k ≡ false → live_count k now.others ≡ live_count k store.others
  others_counted k other = count_left (λ x. same_kind x.kind k) store.others (live kind.DisplaySource (store.made + 1) n) other

  source_fits : Fits left now
  source_fits =
      record {
        handles = record {
          rising = rising_more 0 store.made store.others kind.DisplaySource n fits.handles.rising;
          sources = more_passed (λ x. same_kind x.kind kind.DisplaySource) store.others (live kind.DisplaySource (store.made + 1) n) refl
              ∙ ap (λ xs. xs ++ live kind.DisplaySource (store.made + 1) n ∷ []) fits.handles.sources
              ∙ sym (map_more d.sources);
        };
        streams = record {
          screens = fits.streams.screens;
          sources = each_more (ShowsPixels store.streams) d.sources new fits.streams.sources pixels;
          pipelines = fits.streams.pipelines;
        };
      }
    where
      map_more : (xs : List DisplaySource) → map source_live (xs ++ new ∷ []) ≡ map source_live xs ++ source_live new ∷ []
      map_more [] = refl
      map_more (x ∷ xs) = ap (λ ys. source_live x ∷ ys) (map_more xs)

  -- its stream has one name more
  source_names_are : (m : ℕ) → times m (display_names d) + times m (n ∷ []) ≡ times m (display_names left)
  source_names_are m =
      let old = in_parts m d in
      let more = in_parts m left in
      let one = source_more m d.sources new in
      omega (arith, old, more, one)

  pub source_does : (named : StoreView) → but_names named ≡ but_names now → named.streams ≡ store.streams
      → Recounts [] (n ∷ []) now named → Does (display_source l handle) d left store named (Ok (store.made + 1))
  source_does named rest streams changed =
      counted_does (display_source l handle) d left store named (store.made + 1) now.others (store.made + 1)
      (rw (pipeline_found.1, stream, room, passes_handle store.made given)
      (ap (λ count. Ok (
        record { made = store.made + 1; streams = store.streams; display = left; composition_sources = count },
        store.made + 1,
      )) (sym (ap (λ k. k + live_count kind.Mask now.others) (others_counted kind.Source refl)
      ∙ ap (λ k. live_count kind.Source store.others + k) (others_counted kind.Mask refl)))))
      (more_left (λ x. not (same_kind x.kind kind.DisplaySource)) store.others (live kind.DisplaySource (store.made + 1) n) refl)
      rest
      (told_as store named (store.made + 1) now.others [] (n ∷ []) (display_names d) (display_names left) changed
      (λ m some. (let are = source_names_are m in omega (arith, are))))
      (same_fits left now named rest streams source_fits)

-- a source that lives is destroyed
module _ (d : DisplayState) (store : StoreView) (fits : Fits d store) (h : ℕ) (some : is_some (source_at h d.sources) ≡ true) where
  under : IsUnder h kind.DisplaySource store.others
  under = object_under kind.DisplaySource source_live h store.made d.sources store.others fits.handles.rising fits.handles.sources
      (any_found (λ s. s.handle == h) d.sources ∙ some)

  pub source_lives : is_live h store.others ≡ true
  source_lives = lives h kind.DisplaySource store.others under

  stays : (q : Live → Bool) → ((x : Live) → x.kind ≡ kind.DisplaySource → q x ≡ false)
      → filter q (without h store.others) ≡ filter q store.others
  stays q fails = left_out q h 0 store.others under.object (rises_live 0 store.made store.others fits.handles.rising) under.found
      (fails under.object under.kind_is)

  counts : (k : Kind) → same_kind kind.DisplaySource k ≡ false → live_count k (without h store.others) ≡ live_count k store.others
  counts k other = count_stays (λ x. same_kind x.kind k) h 0 store.others under.object
      (rises_live 0 store.made store.others fits.handles.rising) under.found (ap (λ i. same_kind i k) under.kind_is ∙ other)

  abbrev pub dead : StoreView
  dead = record store { others = without h store.others }

  dead_fits : Fits (without_source h d) dead
  dead_fits =
      record {
        handles = record {
          rising = rising_without h 0 store.made store.others fits.handles.rising;
          sources = taken_out (λ x. same_kind x.kind kind.DisplaySource) source_live h d.sources store.others fits.handles.sources;
        };
        streams = record {
          screens = fits.streams.screens;
          sources = each_filtered (ShowsPixels store.streams) (λ s. not (s.handle == h)) d.sources fits.streams.sources;
          pipelines = fits.streams.pipelines;
        };
      }

  -- the handles of the sources rise
  sources_rise : Rises (λ s. s.handle) 0 d.sources
  sources_rise =
      rises_map (λ (l : Live). l.handle) source_live 0 d.sources
      (subst (λ ls. Rises (λ (l : Live). l.handle) 0 ls) fits.handles.sources
      (rises_filter (λ (l : Live). l.handle) (λ l. same_kind l.kind kind.DisplaySource) 0 store.others
      (rises_live 0 store.made store.others fits.handles.rising)))

  module _ (s : DisplaySource) (found : source_at h d.sources ≡ Some s) (named : NamesFit (display_names d) store) where
    -- its stream has one name fewer
    names_left : (n : ℕ) → times n (display_names (without_source h d)) + times n (s.stream ∷ []) ≡ times n (display_names d)
    names_left n =
        let old = in_parts n d in
        let left = in_parts n (without_source h d) in
        let less = source_less n h 0 d.sources s sources_rise found in
        omega (arith, old, left, less)

    -- the names are counted when the handle is dead
    dead_named : NamesFit (display_names d) dead
    dead_named = record { counted = named.counted; named = named.named }

    -- so the name of the stream can end
    pub stream_released : 0 < s.stream → IsReleasable s.stream dead
    stream_released some =
        let there = source_named h d.sources s found in
        let whole = in_parts s.stream d in
        releasable s.stream (display_names d) dead dead_named some (omega (arith, there, whole))

    pub destroy_does : (now : StoreView) → counted 0 now.counts ≡ counted 0 store.counts → but_names now ≡ but_names dead
        → Recounts (s.stream ∷ []) [] dead now
        → Does (λ _. on_display (display_source_destroy h)) d (without_source h d) store now (Ok 0)
    destroy_does now zero_same rest changed =
        counted_does (λ _. on_display (display_source_destroy h)) d (without_source h d) store now store.made (without h store.others) 0
        (rw found
        (ap (λ count. Ok (
          record { made = store.made; streams = store.streams; display = without_source h d; composition_sources = count },
          0,
        )) (sym (ap (λ k. k + live_count kind.Mask dead.others) (counts kind.Source refl)
        ∙ ap (λ k. live_count kind.Source store.others + k) (counts kind.Mask refl)))))
        (stays (λ x. not (same_kind x.kind kind.DisplaySource)) (λ x is. ap (λ i. not (same_kind i kind.DisplaySource)) is))
        rest
        (told_as store now store.made dead.others (s.stream ∷ []) [] (display_names d) (display_names (without_source h d)) changed
        (λ n some. (let left = names_left n in omega (arith, left))))
        (named_fits dead now (s.stream ∷ []) [] dead_named.counted changed zero_same (without_source h d) (display_names d) dead_named rest
        (λ n some. (let left = names_left n in omega (arith, left))) dead_fits)
