-- A context or a device that loses what is its, one object after another.
use Rattle.std.proofs.Common.{◌≡◌, ℕ, ◌<◌, Bool, true, false, cond, not, ◌==◌, ◌&&◌, ◌||◌, List, [], ◌∷◌, ◌+◌, length, filter, find}
use Rattle.std.proofs.Common.{option_map, Option, Some, None, is_some, refl, sym, ap, ◌∙◌, map, set, slice_get, IfSome, arith, length-set}
use Rattle.std.specs.List.{list_any}
use Rattle.wf_stream.specs.Streams.{StoreView}
use Rattle.wf_model.specs.Objects.{Context, CoreState, Source}
use Rattle.wf_model.specs.Composition.{change_context, is_of_device, with_cached}
use Rattle.wf_model.specs.Core.{without_source, without_those_of, without_context}
use Rattle.wf_life.specs.declared.Kind.TheVariants as kind
use Rattle.wf_life.specs.Handles.{key_of}
use Rattle.wf_life.specs.Living.{keyed}
use Rattle.wf_objects.specs.Fits.{Fits, HandlesFit, HasElements, element_live, elements_of, mask_live}
use Rattle.wf_objects.specs.Links.{link_kind, link_live, links, with_links}
use Rattle.wf_objects.proofs.ChangesStillFit.{links_live}
use Rattle.wf_objects.specs.Losses.{but_context, but_contexts_of, but_links}
use Rattle.wf_words.specs.Filtered.{none_out, shorter, all_kept, any_left, filter_twice}
use Rattle.wf_words.specs.Rising.{Rises, found_above, left_of}
use Rattle.wf_words.specs.Found.{any_by, any_found, none_at, passes, some_at}
use Rattle.wf_words.specs.Keyed.{change_left}
use Rattle.wf_words.specs.Places.{get_set, within}
use Rattle.wf_words.specs.Each.{each_at}
use Rattle.wf_objects.proofs.Lookups.{rises_kind, rises_contexts}
use Rattle.std.proofs.lemmas.Bool.{and_from, and_parts, eq-eqb, eqb-true, false_from_ne_true}
use Rattle.std.proofs.lemmas.Bool.Decides.{nat_tests}
use Rattle.wf_scene.specs.declared.element.Element.{Element}
use Rattle.wf_scene.specs.Cached as cached
use Rattle.wf_scene.specs.Cached.{handle_of, handles}
use Rattle.wf_objects.proofs.ObjectsGoneStillFit.{and_false, and_true, link_under}
use Rattle.wf_objects.proofs.Members.{any_out}
use Rattle.wf_objects.proofs.Scenes.{placed_is}

pub rises_links : (core : CoreState) (store : StoreView) → HandlesFit core store → (mask : Bool)
    → Rises (λ s. s.handle) 0 (links mask core)
rises_links core store fits mask = rises_kind (link_kind mask) (link_live mask) (links mask core) store.others store.made fits.rising
    (links_live core store fits mask)

-- a link that has a handle, and the number of its stream, under which the store has it
pub record Linked (core : CoreState) (store : StoreView) (h : ℕ) (mask : Bool) : Type 0 where
  pub source : Source
  pub found : find (λ s. s.handle == h) (links mask core) ≡ Some source
  pub key : key_of h (link_kind mask) store.others ≡ Some source.stream

pub linked_at : (core : CoreState) (store : StoreView) → Fits core store → (h : ℕ) (mask : Bool)
    → list_any (λ s. s.handle == h) (links mask core) ≡ true → Linked core store h mask
linked_at core store fits h mask live =
    let s = some_at (λ x. x.handle == h) (links mask core) live in
    record {
      source = s.0;
      found = s.1;
      key = keyed (link_kind mask) (link_live mask) h (links mask core) store.others (links_live core store fits.handles mask)
          ∙ ap (option_map (λ x. x.stream)) s.1;
    }

-- no link of one kind has the handle of one of the other kind

module _ (core : CoreState) (store : StoreView) (fits : Fits core store) (h : ℕ) where
  pub apart : (mask : Bool) → list_any (λ s. s.handle == h) (links mask core) ≡ true
      → list_any (λ s. s.handle == h) (links (not mask) core) ≡ false
  apart mask live =
      false_from_ne_true (list_any (λ s. s.handle == h) (links (not mask) core)) (λ there.
      (let here = link_under core store fits h mask live in
      let other = link_under core store fits h (not mask) there in
      let same : here.object ≡ other.object = let both = sym here.found ∙ other.found in cc in
      differ mask (sym here.kind_is ∙ ap (λ l. l.kind) same ∙ other.kind_is)))
    where
      differ : (b : Bool) → link_kind b ≡ link_kind (not b) → ⊥
      differ false is = absurd cc
      differ true is = absurd cc

  -- whether a handle is a mask's is told by the store
  pub kind_alone : (mask : Bool) → mask ≡ is_some (key_of h kind.Mask store.others)
      → list_any (λ s. s.handle == h) (links (not mask) core) ≡ false
  kind_alone = by_kind
    where
      some_key : (o : Option Source) → is_some o ≡ is_some (option_map (λ s. s.stream) o)
      some_key None = refl
      some_key (Some s) = refl

      masks_live : list_any (λ s. s.handle == h) core.masks ≡ is_some (key_of h kind.Mask store.others)
      masks_live =
          any_found (λ s. s.handle == h) core.masks ∙ some_key (find (λ s. s.handle == h) core.masks)
          ∙ sym (ap is_some (keyed kind.Mask mask_live h core.masks store.others fits.handles.masks))

      by_kind : (b : Bool) → b ≡ is_some (key_of h kind.Mask store.others) → list_any (λ s. s.handle == h) (links (not b) core) ≡ false
      by_kind false is = masks_live ∙ sym is
      by_kind true is = apart true (masks_live ∙ sym is)

-- a link of one kind with a handle that is one of a context
pub record IsLinkOf (c h : ℕ) (sources : List Source) : Type 0 where
  pub source : Source
  pub found : find (λ s. s.handle == h) sources ≡ Some source
  pub owned : (source.context == c) ≡ true

pub link_of : (core : CoreState) (store : StoreView) → HandlesFit core store → (mask : Bool) (c h : ℕ)
    → list_any (λ s. (s.handle == h) && (s.context == c)) (links mask core) ≡ true → IsLinkOf c h (links mask core)
link_of core store fits mask c h there =
    let s = some_at (λ x. (x.handle == h) && (x.context == c)) (links mask core) there in
    let parts = and_parts (s.0.handle == h) (s.0.context == c)
    (passes (λ x. (x.handle == h) && (x.context == c)) (links mask core) s.0 s.1) in
    record {
      source = s.0;
      found = ap (λ n. find (λ x. x.handle == n) (links mask core)) (sym (eqb-true s.0.handle h parts.0))
          ∙ (found_above (λ x. x.handle) (λ x. (x.handle == h) && (x.context == c)) 0 (links mask core) s.0
          (rises_links core store fits mask) s.1).1;
      owned = parts.1;
    }

-- it leaves

pub link_leaves : (c h : ℕ) (xs : List Source) → Rises (λ s. s.handle) 0 xs → IsLinkOf c h xs
    → without_those_of c (without_source h xs) ≡ without_those_of c xs
link_leaves c h xs rises x = left_of (λ s. s.handle) (λ s. not (s.context == c)) h 0 xs x.source rises x.found (ap not x.owned)

pub one_link_fewer : (mask : Bool) (c : ℕ) (left : List Source) (core : CoreState)
    → without_those_of c left ≡ without_those_of c (links mask core) → but_links c (with_links mask left core) ≡ but_links c core
one_link_fewer false c left core is = ap (λ ss. record core { sources = ss; masks = without_those_of c core.masks }) is
one_link_fewer true c left core is = ap (λ ss. record core { sources = without_those_of c core.sources; masks = ss }) is

-- how many sources and masks there are
abbrev pub link_count : CoreState → ℕ
link_count core = length core.sources + length core.masks

pub fewer_links : (mask : Bool) (c h : ℕ) (core : CoreState) → IsLinkOf c h (links mask core)
    → link_count (with_links mask (without_source h (links mask core)) core) < link_count core
fewer_links false c h core x = (let less = shorter (λ s. s.handle == h) core.sources x.source x.found in omega (arith, less))
fewer_links true c h core x = (let less = shorter (λ s. s.handle == h) core.masks x.source x.found in omega (arith, less))

-- a context without sources and masks

pub no_links : (c : ℕ) (core : CoreState) → ((mask : Bool) → list_any (λ s. s.context == c) (links mask core) ≡ false)
    → but_links c core ≡ core
no_links c core none =
    let of : List Source → List Source → CoreState = λ ss ms. record core { sources = ss; masks = ms } in
    ap (λ ss. of ss (without_those_of c core.masks))
    (none_out (λ s. s.context == c) core.sources (none_at (λ s. s.context == c) core.sources (none false)))
    ∙ ap (of core.sources) (none_out (λ s. s.context == c) core.masks (none_at (λ s. s.context == c) core.masks (none true)))

pub unlinked : (c : ℕ) (core : CoreState) (mask : Bool) → list_any (λ s. s.context == c) (links mask (but_links c core)) ≡ false
unlinked c core false = any_out (λ s. s.context == c) (λ s. s.context == c) (λ s out. out) core.sources
unlinked c core true = any_out (λ s. s.context == c) (λ s. s.context == c) (λ s out. out) core.masks

-- they stay while the context changes
pub links_stay : (h : ℕ) (new old : CoreState) → but_context h new ≡ but_context h old → (mask : Bool)
    → links mask new ≡ links mask old
links_stay h new old is false = ap (λ k. k.sources) is
links_stay h new old is true = ap (λ k. k.masks) is

-- elements

-- how many elements the context at a place has
abbrev pub element_count : Option Context → ℕ
element_count None = 0
element_count (Some c) = length c.cached.elements

-- the first element is one of them, and is found by its handle
pub element_first : (e : ℕ) (es : List Element) → Some e ≡ option_map handle_of (slice_get es 0) → (x : Element)
    × (find (λ y. y.handle == e) es ≡ Some x)
element_first e [] is = absurd cc
element_first e (x ∷ es) is = (let same : e ≡ x.handle = cc in let here : (x.handle == e) ≡ true = eq-eqb x.handle e (sym same) in
    (x, ap (λ b. cond b (Some x) (find (λ y. y.handle == e) es)) here))

pub element_none : (es : List Element) → None ≡ option_map handle_of (slice_get es 0) → es ≡ []
element_none [] is = refl
element_none (x ∷ es) is = absurd cc

-- a context at a place that has a handle
pub record Stands (h place : ℕ) (contexts : List Context) : Type 0 where
  pub context : Context
  pub at : slice_get contexts place ≡ Some context
  pub handle_is : context.handle ≡ h
  pub within : place < length contexts

pub stands : (h place : ℕ) (contexts : List Context) → place < length contexts → IfSome (slice_get contexts place) (λ c. c.handle ≡ h)
    → Stands h place contexts
stands h place contexts less is = (let x = within contexts place less in
    record { context = x.0; at = x.1; handle_is = rw x.1 at is; within = less })

-- an element of the context at a place leaves
module _ (core : CoreState) (store : StoreView) (fits : Fits core store) (h place : ℕ) (c : Context)
    (at : slice_get core.contexts place ≡ Some c) (handle : c.handle ≡ h) (e : ℕ) (left : CoreState)
    (is : left ≡ change_context c.handle (with_cached (cached.forget e c.cached)) core) where
  abbrev fewer_in : Context
  fewer_in = with_cached (cached.forget e c.cached) c

  left_is : left ≡ record core { contexts = set core.contexts place fewer_in }
  left_is = is ∙ placed_is core store fits place c at (with_cached (cached.forget e c.cached))

  pub still_at : slice_get left.contexts place ≡ Some fewer_in
  still_at = ap (λ k. slice_get k.contexts place) left_is ∙ get_set core.contexts place c fewer_in at

  pub still_stands : place < length core.contexts → Stands h place left.contexts
  still_stands less =
      record {
        context = fewer_in;
        at = still_at;
        handle_is = handle;
        within = rw (left_is, length-set core.contexts place fewer_in) less;
      }

  pub others_stay : but_context h left ≡ but_context h core
  others_stay =
      ap (but_context h) is ∙ ap (λ n. but_context n (change_context c.handle (with_cached (cached.forget e c.cached)) core)) (sym handle)
      ∙ ap (λ cs. record core { contexts = cs })
      (change_left (λ y. y.handle) c.handle (with_cached (cached.forget e c.cached)) (λ y. refl) core.contexts)
      ∙ ap (λ n. but_context n core) handle

  pub fewer_elements : Some e ≡ option_map handle_of (slice_get c.cached.elements 0)
      → element_count (slice_get left.contexts place) < element_count (slice_get core.contexts place)
  fewer_elements first = (let x = element_first e c.cached.elements first in
      rw (still_at, at) (shorter (λ y. y.handle == e) c.cached.elements x.0 x.1))

-- the context at a place has no elements left
pub emptied : (core : CoreState) (store : StoreView) (fits : Fits core store) (h place : ℕ) (c : Context)
    → slice_get core.contexts place ≡ Some c → c.handle ≡ h → c.cached.elements ≡ [] → elements_of h store.others ≡ []
emptied core store fits h place c at handle none =
    ap (λ n. elements_of n store.others) (sym handle) ∙ each_at (HasElements store.others) core.contexts place c fits.handles.elements at
    ∙ ap (λ es. map (element_live c.handle) (handles es)) none

-- contexts of a device

-- a context with a handle that is one of a device
pub record IsOf (d h : ℕ) (contexts : List Context) : Type 0 where
  pub context : Context
  pub found : find (λ x. x.handle == context.handle) contexts ≡ Some context
  pub owned : (context.device == d) ≡ true
  pub handle_is : context.handle ≡ h

pub one_of : (core : CoreState) (store : StoreView) → Fits core store → (d h : ℕ)
    → list_any (λ c. (c.handle == h) && (c.device == d)) core.contexts ≡ true → IsOf d h core.contexts
one_of core store fits d h there =
    let c = some_at (λ x. (x.handle == h) && (x.device == d)) core.contexts there in
    let parts = and_parts (c.0.handle == h) (c.0.device == d) (passes (λ x. (x.handle == h) && (x.device == d)) core.contexts c.0 c.1) in
    record {
      context = c.0;
      found = (found_above (λ x. x.handle) (λ x. (x.handle == h) && (x.device == d)) 0 core.contexts c.0
          (rises_contexts core store fits.handles) c.1).1;
      owned = parts.1;
      handle_is = eqb-true c.0.handle h parts.0;
    }

-- a context of a device leaves with all that is its
module _ (core : CoreState) (store : StoreView) (fits : Fits core store) (d : ℕ) (c : Context)
    (found : find (λ x. x.handle == c.handle) core.contexts ≡ Some c) (owned : (c.device == d) ≡ true) where
  rises : Rises (λ x. x.handle) 0 core.contexts
  rises = rises_contexts core store fits.handles

  -- a source or a mask that is not the context's has the owner that it had
  pub still_owned : (n : ℕ) → (not (is_of_device d (without_context c.handle core) n) && not (n == c.handle)) ≡ not (is_of_device d core n)
  still_owned n = by_test (n == c.handle) refl
    where
      other : (n == c.handle) ≡ false → (x : Context) → (x.handle == c.handle) ≡ true → ((x.handle == n) && (x.device == d)) ≡ false
      other differs x same =
          let apart : (x.handle == n) ≡ false = grind (arith, nat_tests, differs, same) in
          ap (λ b. b && (x.device == d)) apart

      by_test : (b : Bool) → (n == c.handle) ≡ b → (not (is_of_device d (without_context c.handle core) n) && not b)
          ≡ not (is_of_device d core n)
      by_test true equal =
          let here : ((c.handle == n) && (c.device == d)) ≡ true =
          and_from (c.handle == n) (c.device == d) (eq-eqb c.handle n (sym (eqb-true n c.handle equal)))
          owned in
          and_false (not (is_of_device d (without_context c.handle core) n))
          ∙ sym (ap not (any_by (λ x. x.handle == c.handle) (λ x. (x.handle == n) && (x.device == d)) core.contexts c
          found here))
      by_test false differs =
          and_true (not (is_of_device d (without_context c.handle core) n))
          ∙ ap not (any_left (λ x. (x.handle == n) && (x.device == d)) (λ x. x.handle == c.handle) (other differs)
          core.contexts)

  pub one_context_fewer : but_contexts_of d (without_context c.handle core) ≡ but_contexts_of d core
  one_context_fewer =
      let of : List Context → List Source → List Source → CoreState =
      λ cs ss ms. record { devices = core.devices; contexts = cs; sources = ss; masks = ms } in
      let gone : List Source
      → List Source = λ ss. filter (λ s. not (is_of_device d (without_context c.handle core) s.context))
      (without_those_of c.handle ss) in
      let kept : List Source → List Source = λ ss. filter (λ s. not (is_of_device d core s.context)) ss in
      let same : (ss : List Source) → gone ss ≡ kept ss =
      λ ss. filter_twice (λ s. not (is_of_device d (without_context c.handle core) s.context))
      (λ s. not (s.context == c.handle)) (λ s. not (is_of_device d core s.context)) (λ s. still_owned s.context)
      ss in
      ap (λ cs. of cs (gone core.sources) (gone core.masks))
      (left_of (λ x. x.handle) (λ x. not (x.device == d)) c.handle 0 core.contexts c rises found (ap not owned))
      ∙ ap (λ ss. of (filter (λ x. not (x.device == d)) core.contexts) ss (gone core.masks)) (same core.sources)
      ∙ ap (of (filter (λ x. not (x.device == d)) core.contexts) (kept core.sources)) (same core.masks)

  pub contexts_fewer : length (filter (λ x. not (x.handle == c.handle)) core.contexts) < length core.contexts
  contexts_fewer = shorter (λ x. x.handle == c.handle) core.contexts c found

-- a device without contexts has no sources or masks
pub no_contexts : (d : ℕ) (core : CoreState) → find (λ x. x.device == d) core.contexts ≡ None → but_contexts_of d core ≡ core
no_contexts d core none =
    let of : List Context → List Source → List Source → CoreState =
    λ cs ss ms. record { devices = core.devices; contexts = cs; sources = ss; masks = ms } in
    let kept : List Source → List Source = λ ss. filter (λ s. not (is_of_device d core s.context)) ss in
    let all : (ss : List Source)
    → kept ss ≡ ss = λ ss. all_kept (λ s. not (is_of_device d core s.context))
    (λ s. ap not (unowned s.context core.contexts none)) ss in
    ap (λ cs. of cs (kept core.sources) (kept core.masks)) (none_out (λ x. x.device == d) core.contexts none)
    ∙ ap (λ ss. of core.contexts ss (kept core.masks)) (all core.sources)
    ∙ ap (of core.contexts core.sources) (all core.masks)
  where
    unowned : (n : ℕ) (cs : List Context) → find (λ x. x.device == d) cs ≡ None
        → list_any (λ x. (x.handle == n) && (x.device == d)) cs ≡ false
    unowned n [] empty = refl
    unowned n (x ∷ cs) empty = by_device (x.device == d) empty (unowned n cs)
      where
        by_device : (b : Bool) → cond b (Some x) (find (λ y. y.device == d) cs) ≡ None
            → (find (λ y. y.device == d) cs ≡ None → list_any (λ y. (y.handle == n) && (y.device == d)) cs ≡ false)
            → (((x.handle == n) && b) || list_any (λ y. (y.handle == n) && (y.device == d)) cs) ≡ false
        by_device true at later = absurd cc
        by_device false at later = ap (λ b. b || list_any (λ y. (y.handle == n) && (y.device == d)) cs)
            (and_false (x.handle == n)) ∙ later at
