-- How often a number stands among the names of the display, and how a change of the objects changes that.
use Rattle.std.proofs.Common.{◌≡◌, ◌∙◌, ℕ, zero, suc, ◌+◌, ◌*◌, ◌<◌, ◌≤◌, true, false, not, cond, ◌==◌, List, [], ◌∷◌, ◌++◌, length, map}
use Rattle.std.proofs.Common.{Option, Some, None, filter, flat_map, set, slice_get, refl, sym, ap, subst, arith}
use Rattle.std.proofs.lemmas.Bool.{eq-eqb, eqb-true}
use Rattle.std.proofs.lemmas.List.{length-append, length-map}
use Rattle.std.proofs.lemmas.List.FromFn.{length-range_with_len}
use Rattle.std.specs.List.{range_with_len}
use Rattle.std.specs.Prelude.{option_to_list, unwrap_or}
use Rattle.wf_words.specs.Rising.{Rises, all_stay}
use Rattle.wf_stream.specs.Counts.{times}
use Rattle.wf_stream.specs.Names.{times_append, times_one, times_zero}
use Rattle.wf_calls.specs.declared.display.Transition.{Transition}
use Rattle.wf_calls.specs.declared.display.Transition.TheVariants.{Now, Vsync}
use Rattle.wf_model.specs.declared.display.DisplaySource.{DisplaySource}
use Rattle.wf_model.specs.declared.display.Extent.{Extent}
use Rattle.wf_model.specs.declared.display.Pipeline.{Pipeline}
use Rattle.wf_model.specs.declared.display.Request.{Request}
use Rattle.wf_model.specs.Display.{begun_pipeline}
use Rattle.wf_model.specs.DisplayCommits.{bound, bound_stream, committed_pipeline, requested_stream, stream_of, takes_pipeline}
use Rattle.wf_model.specs.DisplaySides.{source_at}
use Rattle.wf_model.specs.Names.{display_names, pipeline_names}
use Rattle.wf_model.specs.State.{DisplayState}
use Rattle.wf_display.proofs.FramesAndCommitsFit.{pipeline_after}
use Rattle.wf_calls.specs.declared.TheConstants.{MOST_PIPELINES}
use Rattle.wf_model.specs.declared.TheConstants.{MOST_DISPLAY_NAMES, MOST_SOURCES}

abbrev pub source_names : List DisplaySource → List ℕ
source_names sources = map (λ s. s.stream) sources

abbrev pub pipelines_names : List Pipeline → List ℕ
pipelines_names xs = flat_map pipeline_names xs

-- the names are those of the screens, of the sources and of the pipelines
pub in_parts : (n : ℕ) (d : DisplayState) → times n (display_names d)
    ≡ times n (range_with_len 1 (length d.ports)) + times n (source_names d.sources) + times n (pipelines_names d.pipelines)
in_parts n d =
    let screens = range_with_len 1 (length d.ports) in
    times_append n (screens ++ source_names d.sources) (pipelines_names d.pipelines)
    ∙ ap (λ k. k + times n (pipelines_names d.pipelines)) (times_append n screens (source_names d.sources))

-- one source more
pub source_more : (n : ℕ) (sources : List DisplaySource) (s : DisplaySource)
    → times n (source_names (sources ++ s ∷ [])) ≡ times n (source_names sources) + times n (s.stream ∷ [])
source_more n sources s = ap (times n) (more sources) ∙ times_append n (source_names sources) (s.stream ∷ [])
  where
    more : (ss : List DisplaySource) → source_names (ss ++ s ∷ []) ≡ source_names ss ++ s.stream ∷ []
    more [] = refl
    more (t ∷ ss) = ap (λ ns. t.stream ∷ ns) (more ss)

-- the source of a handle left out
pub source_less : (n h low : ℕ) (sources : List DisplaySource) (s : DisplaySource) → Rises (λ t. t.handle) low sources
    → source_at h sources ≡ Some s
    → times n (source_names (filter (λ t. not (t.handle == h)) sources)) + times n (s.stream ∷ []) ≡ times n (source_names sources)
source_less n h low [] s rises found = absurd cc
source_less n h low (t ∷ ss) s rises found =
    elim (t.handle == h) as (λ b. (t.handle == h) ≡ b → cond b (Some t) (source_at h ss) ≡ Some s
    → times n (source_names (cond (not b) (t ∷ filter (λ x. not (x.handle == h)) ss) (filter (λ x. not (x.handle == h)) ss)))
    + times n (s.stream ∷ []) ≡ times n (t.stream ∷ source_names ss)) [
      | true ↦ λ is at. here is at
      | false ↦ λ is at. (
          let later = source_less n h t.handle ss s rises.1 at in
          let left = filter (λ x. not (x.handle == h)) ss in
          let one = times_append n (t.stream ∷ []) (source_names left) in
          let other = times_append n (t.stream ∷ []) (source_names ss) in
          omega (arith, later, one, other))
    ] refl found
  where
    here : (t.handle == h) ≡ true → Some t ≡ Some s
        → times n (source_names (filter (λ x. not (x.handle == h)) ss)) + times n (s.stream ∷ []) ≡ times n (t.stream ∷ source_names ss)
    here is at =
        let same : t ≡ s = cc in
        let number : t.handle ≡ h = eqb-true t.handle h is in
        let stay : filter (λ x. not (x.handle == h)) ss ≡ ss = all_stay (λ x. x.handle) h t.handle ss rises.1 (omega (arith, number)) in
        let left = ap (λ xs. times n (source_names xs)) stay in
        let whole = times_append n (t.stream ∷ []) (source_names ss) in
        let first : times n (s.stream ∷ []) ≡ times n (t.stream ∷ []) = ap (λ (x : DisplaySource). times n (x.stream ∷ [])) (sym same) in
        omega (arith, left, whole, first)

-- a source that is found stands among the names
pub source_named : (h : ℕ) (sources : List DisplaySource) (s : DisplaySource) → source_at h sources ≡ Some s
    → 0 < times s.stream (source_names sources)
source_named h [] s found = absurd cc
source_named h (t ∷ ss) s found =
    let whole = times_append s.stream (t.stream ∷ []) (source_names ss) in
    elim (t.handle == h) as (λ b. cond b (Some t) (source_at h ss) ≡ Some s → 0 < times s.stream (t.stream ∷ source_names ss)) [
      | true ↦ λ at. (
          let same : t ≡ s = cc in
          let first : times s.stream (t.stream ∷ []) ≡ 1 = times_one s.stream t.stream
          ∙ ap (λ b. cond b 1 0) (eq-eqb t.stream s.stream (ap (λ x. x.stream) same)) in
          omega (arith, whole, first))
      | false ↦ λ at. (let later = source_named h ss s at in omega (arith, whole, later))
    ] found

-- another pipeline at a place
pub pipeline_changed : (n : ℕ) (xs : List Pipeline) (place : ℕ) (x y : Pipeline) → slice_get xs place ≡ Some x
    → times n (pipelines_names (set xs place y)) + times n (pipeline_names x) ≡ times n (pipelines_names xs) + times n (pipeline_names y)
pipeline_changed n [] place x y at = absurd cc
pipeline_changed n (z ∷ xs) zero x y at =
    let same : z ≡ x = cc in
    let first = ap (λ w. times n (pipeline_names w)) same in
    let old = times_append n (pipeline_names z) (pipelines_names xs) in
    let new = times_append n (pipeline_names y) (pipelines_names xs) in
    omega (arith, first, old, new)
pipeline_changed n (z ∷ xs) (suc place) x y at =
    let later = pipeline_changed n xs place x y at in
    let old = times_append n (pipeline_names z) (pipelines_names xs) in
    let new = times_append n (pipeline_names z) (pipelines_names (set xs place y)) in
    omega (arith, later, old, new)

-- a pipeline has no more names than all have
pub pipeline_of_all : (n : ℕ) (xs : List Pipeline) (place : ℕ) (x : Pipeline) → slice_get xs place ≡ Some x
    → times n (pipeline_names x) ≤ times n (pipelines_names xs)
pipeline_of_all n [] place x at = absurd cc
pipeline_of_all n (z ∷ xs) zero x at =
    let same : z ≡ x = cc in
    let first = ap (λ w. times n (pipeline_names w)) same in
    let whole = times_append n (pipeline_names z) (pipelines_names xs) in
    omega (arith, first, whole)
pipeline_of_all n (z ∷ xs) (suc place) x at =
    let later = pipeline_of_all n xs place x at in
    let whole = times_append n (pipeline_names z) (pipelines_names xs) in
    omega (arith, later, whole)

-- a number stands at most once in a list of one
pub one_name : (n k : ℕ) → times n (k ∷ []) ≤ 1
one_name n k =
    let one = times_one n k in
    elim (k == n) as (λ b. times n (k ∷ []) ≡ cond b 1 0 → times n (k ∷ []) ≤ 1) [
      | true ↦ λ is. omega (arith, is)
      | false ↦ λ is. omega (arith, is)
    ] one

-- a pipeline names at most two streams
pub two_names : (n : ℕ) (x : Pipeline) → times n (pipeline_names x) ≤ 2
two_names n x = of_pending x.pending
  where
    of_pending : (o : Option ℕ) → times n (x.current ∷ option_to_list o) ≤ 2
    of_pending None = (let first = one_name n x.current in omega (arith, first))
    of_pending (Some s) =
        let whole = times_append n (x.current ∷ []) (s ∷ []) in
        omega (arith, whole, one_name n x.current, one_name n s)

-- all of them name at most two each
pub twice_as_many : (xs : List Pipeline) → length (pipelines_names xs) ≤ 2 * length xs
twice_as_many [] = omega arith
twice_as_many (x ∷ xs) =
    let later = twice_as_many xs in
    let whole = length-append (pipeline_names x) (pipelines_names xs) in
    omega (arith, later, whole, of_pending x.pending)
  where
    of_pending : (o : Option ℕ) → length (x.current ∷ option_to_list o) ≤ 2
    of_pending None = omega arith
    of_pending (Some s) = omega arith

-- a pipeline that was committed names what it did, or a source's stream
pub committed_names : (e : Extent) (sources : List DisplaySource) (l n : ℕ) (x : Pipeline) → 0 < n
    → 0 < times n (pipeline_names (pipeline_after e sources l x)) → 0 < times n (source_names sources) + times n (pipeline_names x)
committed_names e sources l n x some =
    elim (takes_pipeline e l x) as (λ b. 0 < times n (pipeline_names (cond b (committed_pipeline sources x) x))
    → 0 < times n (source_names sources) + times n (pipeline_names x)) [
      | true ↦ of_request x.request refl
      | false ↦ λ there. omega (arith, there)
    ]
  where
    -- the stream of the requested source is that of one of the sources, or 0
    requested : (h : ℕ) → 0 < times n (requested_stream h sources ∷ []) → 0 < times n (source_names sources)
    requested h = of_source (source_at h sources) refl
      where
        of_source : (o : Option DisplaySource) → source_at h sources ≡ o → 0 < times n (stream_of o ∷ [])
            → 0 < times n (source_names sources)
        of_source None at there = absurd (let none = times_zero n some in omega (arith, none, there))
        of_source (Some s) at there =
            let one = times_one n s.stream in
            let named = source_named h sources s at in
            elim (s.stream == n) as (λ b. (s.stream == n) ≡ b → 0 < times n (source_names sources)) [
              | true ↦ λ is. (
                  let same : s.stream ≡ n = eqb-true s.stream n is in subst (λ k. 0 < times k (source_names sources)) same named)
              | false ↦ λ is. absurd (
                  let none : times n (s.stream ∷ []) ≡ 0 = one ∙ ap (λ b. cond b 1 0) is in omega (arith, none, there))
            ] refl

    of_transition : (t : Transition) (h : ℕ) (y : Pipeline) → y.current ≡ x.current
        → 0 < times n (pipeline_names (bound t (requested_stream h sources) y))
        → 0 < times n (source_names sources) + times n (pipeline_names x)
    of_transition Now h y same there = (let named = requested h there in omega (arith, named))
    of_transition Vsync h y same there =
        let first = times_append n (x.current ∷ []) (option_to_list x.pending) in
        let current = ap (λ k. times n (k ∷ [])) same in
        let both = times_append n (y.current ∷ []) (requested_stream h sources ∷ []) in
        by_current (times n (x.current ∷ [])) refl first (omega (arith, current, both, there))
      where
        by_current : (k : ℕ) → times n (x.current ∷ []) ≡ k
            → times n (pipeline_names x) ≡ times n (x.current ∷ []) + times n (option_to_list x.pending)
            → 0 < times n (x.current ∷ []) + times n (requested_stream h sources ∷ [])
            → 0 < times n (source_names sources) + times n (pipeline_names x)
        by_current zero is first some = (let named = requested h (omega (arith, is, some)) in omega (arith, named))
        by_current (suc k) is first some = omega (arith, is, first)

    of_request : (o : Option Request) → x.request ≡ o → 0 < times n (pipeline_names (committed_pipeline sources x))
        → 0 < times n (source_names sources) + times n (pipeline_names x)
    of_request None at = rw at (λ there. omega (arith, there))
    of_request (Some r) at = rw at (of_transition r.transition r.source _ refl)

-- a pipeline names at a frame what it did
pub begun_names : (p n : ℕ) (x : Pipeline) → 0 < times n (pipeline_names (begun_pipeline p x)) → 0 < times n (pipeline_names x)
begun_names p n x =
    elim (x.committed_port == p) as (λ b. 0 < times n (pipeline_names (cond b (record x { current = bound_stream x; pending = None }) x))
    → 0 < times n (pipeline_names x)) [ true ↦ of_pending x.pending | false ↦ λ there. there ]
  where
    of_pending : (o : Option ℕ) → 0 < times n (unwrap_or o x.current ∷ []) → 0 < times n (x.current ∷ option_to_list o)
    of_pending None there = there
    of_pending (Some s) there = (let both = times_append n (x.current ∷ []) (s ∷ []) in omega (arith, both, there))

-- how many names there are
pub names_in_all : (d : DisplayState) → length d.ports ≤ 4 → length d.sources ≤ MOST_SOURCES → length d.pipelines ≤ MOST_PIPELINES
    → length (display_names d) ≤ MOST_DISPLAY_NAMES
names_in_all d ports sources pipelines =
    let screens = range_with_len 1 (length d.ports) in
    let all = length-append (screens ++ source_names d.sources) (pipelines_names d.pipelines) in
    let first = length-append screens (source_names d.sources) in
    let screens_are = length-range_with_len 1 (length d.ports) in
    let sources_are = length-map d.sources (λ (s : DisplaySource). s.stream) in
    let pipelines_are = twice_as_many d.pipelines in
    omega (arith, all, first, screens_are, sources_are, pipelines_are, ports, sources, pipelines)
