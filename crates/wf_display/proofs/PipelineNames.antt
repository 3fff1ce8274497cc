-- Names of pipelines that begin and end, one pipeline after another, and what the store counts meanwhile.
use Rattle.std.proofs.Common.{◌≡◌, ◌∙◌, ℕ, zero, suc, ◌+◌, ◌*◌, ◌<◌, ◌≤◌, List, [], ◌∷◌, ◌++◌, get_or, length, set, slice_get}
use Rattle.std.proofs.Common.{Some, refl, ap, subst, cond, arith}
use Rattle.std.proofs.lemmas.Bool.{eq-eqb}
use Rattle.std.specs.List.{range_with_len}
use Rattle.wf_life.specs.Handles.{Live}
use Rattle.wf_stream.specs.Counts.{times}
use Rattle.wf_stream.specs.Names.{AreCounted, HasRoom, IsReleasable, NamesFit, Recounts, but_names, named_kept, releasable, same_counts}
use Rattle.wf_stream.specs.Names.{still_named, then_recounts, times_append, times_one}
use Rattle.wf_stream.specs.Renames.{fewer_fit}
use Rattle.wf_stream.specs.Streams.{StoreView, count_of}
use Rattle.wf_model.specs.declared.display.Pipeline.{Pipeline}
use Rattle.wf_model.specs.Names.{display_names, pipeline_names}
use Rattle.wf_model.specs.State.{DisplayState}
use Rattle.wf_display.specs.Fits.{Fits}
use Rattle.wf_display.specs.Named.{AreKept, named_fits}
use Rattle.wf_display.proofs.NameCounts.{in_parts, one_name, pipeline_changed, pipeline_of_all, pipelines_names, source_names, two_names}
use Rattle.wf_calls.specs.declared.TheConstants.{MOST_PIPELINES}

-- the same change told by other lists of names, from a store with other handles
pub told_as : (u v : StoreView) (made : ℕ) (others : List Live) (first firsts ended began : List ℕ)
    → Recounts first firsts (record u { made = made; others = others }) v
    → ((n : ℕ) → 0 < n → times n ended + times n firsts ≡ times n first + times n began) → Recounts ended began u v
told_as u v made others first firsts ended began changed same =
    record {
      counts = λ n some. (
          let counts = changed.counts n some in
          let names = same n some in
          omega (arith, counts, names));
      none = changed.none;
      left = changed.left;
    }

-- the two names of a pipeline

pub both_begin : (c s : ℕ) (u v w : StoreView) → AreCounted u → Recounts [] (c ∷ []) u v → Recounts [] (s ∷ []) v w
    → Recounts [] (c ∷ s ∷ []) u w
both_begin c s u v w counted one other =
    then_recounts u v w [] [] [] (c ∷ s ∷ []) (c ∷ []) (s ∷ []) counted one other
    (λ n some. (let whole = times_append n (c ∷ []) (s ∷ []) in omega (arith, whole)))

pub both_end : (c s : ℕ) (u v w : StoreView) → AreCounted u → Recounts (c ∷ []) [] u v → Recounts (s ∷ []) [] v w
    → Recounts (c ∷ s ∷ []) [] u w
both_end c s u v w counted one other =
    then_recounts u v w (c ∷ []) (s ∷ []) (c ∷ s ∷ []) [] [] [] counted one other
    (λ n some. (let whole = times_append n (c ∷ []) (s ∷ []) in omega (arith, whole)))

-- there is room for the second name behind the first
pub second_fits : (c s : ℕ) (u v : StoreView) → ((n : ℕ) → count_of n u < 4000000000) → Recounts [] (c ∷ []) u v
    → count_of 0 v ≡ count_of 0 u → count_of s v < 4294967295
second_fits c zero u v room changed zero_same = (let few = room 0 in omega (arith, few, zero_same))
second_fits c (suc s) u v room changed zero_same =
    let few = room (suc s) in
    let counts = changed.counts (suc s) (omega arith) in
    let one = one_name (suc s) c in
    omega (arith, few, counts, one)

-- the second name can end behind the first
pub second_ends : (c s : ℕ) (u v : StoreView) → NamesFit (c ∷ s ∷ []) u → Recounts (c ∷ []) [] u v → 0 < s → IsReleasable s v
second_ends c s u v fit changed some =
    releasable s (s ∷ []) v
    (still_named u v (c ∷ []) [] fit.counted changed (c ∷ s ∷ []) (s ∷ [])
    (λ n positive. (let whole = times_append n (c ∷ []) (s ∷ []) in omega (arith, whole))) fit)
    some here
  where
    here : 0 < times s (s ∷ [])
    here = (let one : times s (s ∷ []) ≡ 1 = times_one s s ∙ ap (λ b. cond b 1 0) (eq-eqb s s refl) in omega (arith, one))

-- what is named stays so where other names begin
pub begun_fit : (u v : StoreView) (old new : List ℕ) → NamesFit old u → Recounts [] new u v → NamesFit old v
begun_fit u v old new fit changed = still_named u v [] new fit.counted changed old old (λ n some. omega arith) fit

-- names that began before others ended
pub replaced : (u v w : StoreView) (old new : List ℕ) → AreCounted u → Recounts [] new u v → Recounts old [] v w → Recounts old new u w
replaced u v w old new counted one other =
    then_recounts u v w [] old old new new [] counted one other (λ n some. omega arith)

-- pipelines, one after another

-- what is read within a list stands there
stands : {A : Type 0} (xs : List A) (i : ℕ) (d : A) → i < length xs → slice_get xs i ≡ Some (get_or xs i d)
stands [] i d less = absurd (omega (arith, less))
stands (x ∷ xs) zero d less = refl
stands (x ∷ xs) (suc i) d less = stands xs i d (omega (arith, less))

-- so many pipelines changed at most, and the store counts the names of all
pub record Renamed (count : ℕ) (old new : List Pipeline) (u v : StoreView) : Type 0 where
  pub names : Recounts (pipelines_names old) (pipelines_names new) u v
  pub rest : but_names v ≡ but_names u
  pub zero_same : count_of 0 v ≡ count_of 0 u
  pub room : (n : ℕ) → count_of n v ≤ count_of n u + 2 * count

pub none_renamed : (xs : List Pipeline) (u : StoreView) → Renamed 0 xs xs u u
none_renamed xs u =
    record {
      names = same_counts (pipelines_names xs) (pipelines_names xs) u (λ n some. refl);
      rest = refl;
      zero_same = refl;
      room = λ n. omega arith;
    }

module _ (count : ℕ) (xs ys : List Pipeline) (u v : StoreView) (so_far : Renamed count xs ys u v) where
  pub enough_room : HasRoom u → count ≤ MOST_PIPELINES → (n : ℕ) → count_of n v < 4000000000
  enough_room room few n = (let more = so_far.room n in omega (arith, room n, more, few))

  module _ (names : List ℕ) (fit : NamesFit (names ++ pipelines_names xs) u) where
    -- these names, and those of the pipelines so far, are counted
    fit_so_far : NamesFit (names ++ pipelines_names ys) v
    fit_so_far =
        still_named u v (pipelines_names xs) (pipelines_names ys) fit.counted so_far.names (names ++ pipelines_names xs)
        (names ++ pipelines_names ys)
        (λ n some. (
        let old = times_append n names (pipelines_names xs) in
        let new = times_append n names (pipelines_names ys) in
        omega (arith, old, new))) fit

    -- a pipeline becomes what a function gives of it and its number
    module _ (place : ℕ) (d y : Pipeline) (f : ℕ → Pipeline → Pipeline) (less : place < length ys)
        (is : y ≡ f (place + 1) (get_or ys place d)) where
      abbrev x : Pipeline
      x = get_or ys place d

      at : slice_get ys place ≡ Some x
      at = stands ys place d less

      pub old_fit : NamesFit (pipeline_names x) v
      old_fit = fewer_fit (names ++ pipelines_names ys) (pipeline_names x) v v refl refl
          (λ n some. (
          let of_all = pipeline_of_all n ys place x at in
          let whole = times_append n names (pipelines_names ys) in
          omega (arith, of_all, whole))) fit_so_far

      -- where it then names what was named, that is kept
      pub new_kept : ((k n : ℕ) (z : Pipeline) → 0 < n → 0 < times n (pipeline_names (f k z))
          → 0 < times n names + times n (pipeline_names z)) → AreKept (pipeline_names y) v
      new_kept shows n some there =
          let named = shows (place + 1) n x some (subst (λ z. 0 < times n (pipeline_names z)) is there) in
          let of_all = pipeline_of_all n ys place x at in
          let whole = times_append n names (pipelines_names ys) in
          named_kept n (names ++ pipelines_names ys) v fit_so_far some (omega (arith, named, of_all, whole))

      pub one_renamed : (w : StoreView) → Recounts (pipeline_names x) (pipeline_names y) v w → but_names w ≡ but_names v
          → count_of 0 w ≡ count_of 0 v → Renamed (count + 1) xs (set ys place y) u w
      one_renamed w changed rest zero_same =
          record {
            names = then_recounts u v w (pipelines_names xs) (pipeline_names x) (pipelines_names xs) (pipelines_names (set ys place y))
                (pipelines_names ys) (pipeline_names y) fit.counted so_far.names changed
                (λ n some. (let one = pipeline_changed n ys place x y at in omega (arith, one)));
            rest = rest ∙ so_far.rest;
            zero_same = zero_same ∙ so_far.zero_same;
            room = more;
          }
        where
          more : (n : ℕ) → count_of n w ≤ count_of n u + 2 * (count + 1)
          more zero = (let was = so_far.room 0 in omega (arith, was, zero_same))
          more (suc n) =
              let was = so_far.room (suc n) in
              let counts = changed.counts (suc n) (omega arith) in
              let two = two_names (suc n) y in
              omega (arith, was, counts, two)

-- what the names of all pipelines are to the names of the objects

module _ (d : DisplayState) (u : StoreView) (fit : NamesFit (display_names d) u) where
  pub shown_fit : NamesFit (source_names d.sources ++ pipelines_names d.pipelines) u
  shown_fit = fewer_fit (display_names d) (source_names d.sources ++ pipelines_names d.pipelines) u u refl refl
      (λ n some. (
      let all = in_parts n d in
      let both = times_append n (source_names d.sources) (pipelines_names d.pipelines) in
      omega (arith, all, both))) fit

  pub pipelines_fit : NamesFit (pipelines_names d.pipelines) u
  pipelines_fit = fewer_fit (display_names d) (pipelines_names d.pipelines) u u refl refl
      (λ n some. (let all = in_parts n d in omega (arith, all))) fit

  -- where the ports and the sources name the same, the names that ended and began are those of the pipelines
  module _ (left : DisplayState) (v : StoreView) (ports : length left.ports ≡ length d.ports) (sources : left.sources ≡ d.sources)
      (changed : Recounts (pipelines_names d.pipelines) (pipelines_names left.pipelines) u v) where
    pub objects_renamed : Recounts (display_names d) (display_names left) u v
    objects_renamed = told_as u v u.made u.others (pipelines_names d.pipelines) (pipelines_names left.pipelines) (display_names d)
        (display_names left) changed
        (λ n some. (
        let old = in_parts n d in
        let new = in_parts n left in
        let screens = ap (λ k. times n (range_with_len 1 k)) ports in
        let shown = ap (λ ss. times n (source_names ss)) sources in
        omega (arith, old, new, screens, shown)))

    -- and what fits, fits behind them
    pub renamed_fits : count_of 0 v ≡ count_of 0 u → but_names v ≡ but_names u → Fits left u → Fits left v
    renamed_fits zero_same rest fits =
        named_fits u v (display_names d) (display_names left) fit.counted objects_renamed zero_same left (display_names d) fit rest
        (λ n some. omega arith) fits
