-- How often a number stands among the names of the objects, and how a change of the objects changes that.
use Rattle.std.proofs.Common.{◌≡◌, ℕ, zero, suc, ◌+◌, ◌*◌, ◌≤◌, Bool, true, false, cond, not, ◌==◌, List, [], ◌∷◌, ◌++◌, map, filter}
use Rattle.std.proofs.Common.{find, flat_map, length, set, slice_get, Some, refl, sym, ap, ◌∙◌, arith}
use Rattle.std.proofs.Common.{length-append}
use Rattle.std.proofs.lemmas.List.{length-map}
use Rattle.std.specs.List.{AllByRecursion}
use Rattle.std.specs.Prelude.{sum_by}
use Rattle.std.proofs.lemmas.Bool.{eqb-true}
use Rattle.std.proofs.lemmas.List.Sums.{sum_by-append, sum_by-cons}
use Rattle.wf_words.specs.Keyed.{change}
use Rattle.wf_words.specs.Rising.{Rises, all_stay}
use Rattle.wf_stream.specs.Counts.{times}
use Rattle.wf_stream.specs.Names.{times_append, times_cons, times_one}
use Rattle.wf_scene.specs.declared.Layer.{Layer}
use Rattle.wf_scene.specs.declared.Scene.{Scene}
use Rattle.wf_model.specs.Objects.{Context, CoreState, Source}
use Rattle.wf_model.specs.Composition.{change_context}
use Rattle.wf_model.specs.Core.{with_committed, without_source}
use Rattle.wf_model.specs.Names.{context_names, core_names, layer_names}
use Rattle.wf_objects.specs.Inside.{HasFewLayers}
use Rattle.wf_objects.specs.Links.{links, with_links}
use Rattle.wf_objects.specs.Losses.{but_context}
use Rattle.wf_model.specs.declared.TheConstants.{MOST_CONTEXTS, MOST_CORE_NAMES, MOST_SOURCES}
use Rattle.wf_scene.specs.declared.TheConstants.{MOST_INSERTED}

-- sums over lists of which one element changed

-- one that leaves by its number
sum_left : {A : Type 0} (f : A → ℕ) (key : A → ℕ) (h low : ℕ) (xs : List A) (x : A) → Rises key low xs
    → find (λ y. key y == h) xs ≡ Some x → sum_by f (filter (λ y. not (key y == h)) xs) + f x ≡ sum_by f xs
sum_left f key h low [] x rises found = absurd cc
sum_left f key h low (y ∷ ys) x rises found =
    let later = sum_left f key h (key y) ys x rises.1 in
    let whole = sum_by-cons f y ys in
    elim (key y == h) as (λ b. (key y == h) ≡ b → cond b (Some y) (find (λ z. key z == h) ys) ≡ Some x
    → sum_by f (cond (not b) (y ∷ filter (λ z. not (key z == h)) ys) (filter (λ z. not (key z == h)) ys)) + f x
    ≡ sum_by f (y ∷ ys)) [
      | true ↦ λ is at. (
          let same : y ≡ x = cc in
          let number = eqb-true (key y) h is in
          let rest : sum_by f (filter (λ z. not (key z == h)) ys) ≡ sum_by f ys =
          ap (sum_by f) (all_stay key h (key y) ys rises.1 (omega (arith, number))) in
          let here : f x ≡ f y = ap f (sym same) in
          omega (arith, rest, here, whole))
      | false ↦ λ is at. (
          let left = sum_by-cons f y (filter (λ z. not (key z == h)) ys) in
          let less = later at in
          omega (arith, whole, left, less))
    ] refl found

-- one that is replaced
sum_set : {A : Type 0} (f : A → ℕ) (xs : List A) (i : ℕ) (x y : A) → slice_get xs i ≡ Some x
    → sum_by f (set xs i y) + f x ≡ sum_by f xs + f y
sum_set f [] i x y at = absurd cc
sum_set f (z ∷ xs) zero x y at =
    let same : z ≡ x = cc in
    let here : f z ≡ f x = ap f same in
    let old = sum_by-cons f z xs in
    let new = sum_by-cons f y xs in
    omega (arith, here, old, new)
sum_set f (z ∷ xs) (suc i) x y at =
    let later = sum_set f xs i x y at in
    let old = sum_by-cons f z xs in
    let new = sum_by-cons f z (set xs i y) in
    omega (arith, later, old, new)

-- one is no more than all
sum_in : {A : Type 0} (f : A → ℕ) (xs : List A) (i : ℕ) (x : A) → slice_get xs i ≡ Some x → f x ≤ sum_by f xs
sum_in f [] i x at = absurd cc
sum_in f (z ∷ xs) zero x at =
    let same : z ≡ x = cc in
    let here : f z ≡ f x = ap f same in
    let whole = sum_by-cons f z xs in
    omega (arith, here, whole)
sum_in f (z ∷ xs) (suc i) x at =
    let later = sum_in f xs i x at in
    let whole = sum_by-cons f z xs in
    omega (arith, later, whole)

-- names as sums

pub times_flat : {A : Type 0} (n : ℕ) (f : A → List ℕ) (xs : List A) → times n (flat_map f xs) ≡ sum_by (λ x. times n (f x)) xs
times_flat n f [] = refl
times_flat n f (x ∷ xs) =
    let both = times_append n (f x) (flat_map f xs) in
    let later = times_flat n f xs in
    let whole = sum_by-cons (λ y. times n (f y)) x xs in
    omega (arith, both, later, whole)

times_each : {A : Type 0} (n : ℕ) (g : A → ℕ) (xs : List A) → times n (map g xs) ≡ sum_by (λ x. times n (g x ∷ [])) xs
times_each n g [] = refl
times_each n g (x ∷ xs) =
    let both = times_cons n (g x) (map g xs) in
    let one = times_one n (g x) in
    let later = times_each n g xs in
    let whole = sum_by-cons (λ y. times n (g y ∷ [])) x xs in
    omega (arith, both, one, later, whole)

-- how often links name a stream, and contexts

abbrev link_times : ℕ → List Source → ℕ
link_times n ss = sum_by (λ s. times n (s.stream ∷ [])) ss

abbrev context_times : ℕ → List Context → ℕ
context_times n cs = sum_by (λ c. times n (context_names c)) cs

core_times : (n : ℕ) (core : CoreState)
    → times n (core_names core) ≡ link_times n core.sources + link_times n core.masks + context_times n core.contexts
core_times n core =
    let sources = map (λ s. s.stream) core.sources in
    let masks = map (λ m. m.stream) core.masks in
    let contexts = flat_map context_names core.contexts in
    let all = times_append n (sources ++ masks) contexts in
    let both = times_append n sources masks in
    let a = times_each n (λ s. s.stream) core.sources in
    let b = times_each n (λ m. m.stream) core.masks in
    let c = times_flat n context_names core.contexts in
    omega (arith, all, both, a, b, c)

module _ (n : ℕ) (core : CoreState) where
  -- a link more

  pub link_more : (mask : Bool) (s : Source) → times n (core_names (with_links mask (links mask core ++ s ∷ []) core))
      ≡ times n (core_names core) + times n (s.stream ∷ [])
  link_more false s =
      let old = core_times n core in
      let new = core_times n (record core { sources = core.sources ++ s ∷ [] }) in
      let more = sum_by-append (λ x. times n (x.stream ∷ [])) core.sources (s ∷ []) in
      let one = sum_by-cons (λ x. times n (x.stream ∷ [])) s [] in
      omega (arith, old, new, more, one)
  link_more true s =
      let old = core_times n core in
      let new = core_times n (record core { masks = core.masks ++ s ∷ [] }) in
      let more = sum_by-append (λ x. times n (x.stream ∷ [])) core.masks (s ∷ []) in
      let one = sum_by-cons (λ x. times n (x.stream ∷ [])) s [] in
      omega (arith, old, new, more, one)

  -- a link less

  pub link_less : (mask : Bool) (h : ℕ) (s : Source) → Rises (λ x. x.handle) 0 (links mask core)
      → find (λ x. x.handle == h) (links mask core) ≡ Some s
      → times n (core_names (with_links mask (without_source h (links mask core)) core)) + times n (s.stream ∷ [])
      ≡ times n (core_names core)
  link_less false h s rises found =
      let old = core_times n core in
      let new = core_times n (record core { sources = without_source h core.sources }) in
      let less = sum_left (λ x. times n (x.stream ∷ [])) (λ x. x.handle) h 0 core.sources s rises found in
      omega (arith, old, new, less)
  link_less true h s rises found =
      let old = core_times n core in
      let new = core_times n (record core { masks = without_source h core.masks }) in
      let less = sum_left (λ x. times n (x.stream ∷ [])) (λ x. x.handle) h 0 core.masks s rises found in
      omega (arith, old, new, less)

  -- a context more, and a context less

  pub context_more : (c : Context) → times n (core_names (record core { contexts = core.contexts ++ c ∷ [] }))
      ≡ times n (core_names core) + times n (context_names c)
  context_more c =
      let old = core_times n core in
      let new = core_times n (record core { contexts = core.contexts ++ c ∷ [] }) in
      let more = sum_by-append (λ x. times n (context_names x)) core.contexts (c ∷ []) in
      let one = sum_by-cons (λ x. times n (context_names x)) c [] in
      omega (arith, old, new, more, one)

  pub context_less : (h : ℕ) (c : Context) → Rises (λ x. x.handle) 0 core.contexts → find (λ x. x.handle == h) core.contexts ≡ Some c
      → times n (core_names (but_context h core)) + times n (context_names c) ≡ times n (core_names core)
  context_less h c rises found =
      let old = core_times n core in
      let new = core_times n (but_context h core) in
      let less = sum_left (λ x. times n (context_names x)) (λ x. x.handle) h 0 core.contexts c rises found in
      omega (arith, old, new, less)

  -- another committed scene of the context at a place
  pub committed_times : (place : ℕ) (c : Context) (scene : Scene) → slice_get core.contexts place ≡ Some c
      → times n (core_names (record core { contexts = set core.contexts place (with_committed scene c) }))
      + times n (flat_map layer_names c.committed.layers.items)
      ≡ times n (core_names core) + times n (flat_map layer_names scene.layers.items)
  committed_times place c scene at =
      let x = with_committed scene c in
      let old = core_times n core in
      let new = core_times n (record core { contexts = set core.contexts place x }) in
      let changed = sum_set (λ y. times n (context_names y)) core.contexts place c x at in
      let before = times_cons n c.target (flat_map layer_names c.committed.layers.items) in
      let behind = times_cons n c.target (flat_map layer_names scene.layers.items) in
      omega (arith, old, new, changed, before, behind)

  -- the layers of a committed scene are among the names
  pub committed_in : (place : ℕ) (c : Context) → slice_get core.contexts place ≡ Some c
      → times n (flat_map layer_names c.committed.layers.items) ≤ times n (core_names core)
  committed_in place c at =
      let all = core_times n core in
      let here = sum_in (λ y. times n (context_names y)) core.contexts place c at in
      let names = times_cons n c.target (flat_map layer_names c.committed.layers.items) in
      omega (arith, all, here, names)

-- a change of a context that names what it named changes no name
pub changed_names : (h : ℕ) (f : Context → Context) (core : CoreState) → ((c : Context) → context_names (f c) ≡ context_names c)
    → core_names (change_context h f core) ≡ core_names core
changed_names h f core same =
    ap (λ ns. map (λ s. s.stream) core.sources ++ map (λ m. m.stream) core.masks ++ ns) (names_of core.contexts)
  where
    names_of : (cs : List Context) → flat_map context_names (change (λ c. c.handle) h f cs) ≡ flat_map context_names cs
    names_of [] = refl
    names_of (c ∷ cs) =
        elim (c.handle == h) as (λ b. context_names (cond b (f c) c) ++ flat_map context_names (change (λ y. y.handle) h f cs)
        ≡ context_names c ++ flat_map context_names cs) [
          | true ↦ ap (λ ns. ns ++ flat_map context_names (change (λ y. y.handle) h f cs)) (same c)
              ∙ ap (λ ns. context_names c ++ ns) (names_of cs)
          | false ↦ ap (λ ns. context_names c ++ ns) (names_of cs)
        ]

-- how many names there are

pub layer_count : (ls : List Layer) → length (flat_map layer_names ls) ≡ length ls + length ls
layer_count [] = refl
layer_count (l ∷ ls) =
    let later = layer_count ls in
    let both = length-append (layer_names l) (flat_map layer_names ls) in
    omega (arith, later, both)

context_count : (cs : List Context) → AllByRecursion HasFewLayers cs
    → length (flat_map context_names cs) ≤ length cs * (1 + 2 * MOST_INSERTED)
context_count [] few = omega arith
context_count (c ∷ cs) few =
    let later = context_count cs few.1 in
    let both = length-append (context_names c) (flat_map context_names cs) in
    let layers = layer_count c.committed.layers.items in
    let here = few.0 in
    omega (arith, later, both, layers, here)

pub few : (core : CoreState) → length core.sources ≤ MOST_SOURCES → length core.masks ≤ MOST_SOURCES → length core.contexts ≤ MOST_CONTEXTS
    → AllByRecursion HasFewLayers core.contexts → length (core_names core) ≤ MOST_CORE_NAMES
few core sources masks contexts layers =
    let names = length-append (map (λ s. s.stream) core.sources ++ map (λ m. m.stream) core.masks) (flat_map context_names core.contexts) in
    let linked = length-append (map (λ s. s.stream) core.sources) (map (λ m. m.stream) core.masks) in
    let a : length (map (λ s. s.stream) core.sources) ≡ length core.sources = length-map core.sources (λ s. s.stream) in
    let b : length (map (λ m. m.stream) core.masks) ≡ length core.masks = length-map core.masks (λ m. m.stream) in
    let c = context_count core.contexts layers in
    omega (arith, names, linked, a, b, c, sources, masks, contexts)
