-- An object that leaves with its handle: what is left fits.
use Rattle.std.proofs.Common.{◌≡◌, ◌≢◌, ℕ, Bool, true, false, not, ◌==◌, ◌&&◌, ◌||◌, List, map, filter, find, set, slice_get, option_map}
use Rattle.std.proofs.Common.{Option, Some, None, refl, sym, ap, subst, ◌∙◌, [], ◌∷◌, cond, arith}
use Rattle.std.specs.List.{list_any, list_all, AllByRecursion}
use Rattle.std.proofs.lemmas.Bool.{and_parts, eqb-true, ne_eqb, and_from}
use Rattle.wf_words.specs.Keyed.{is_in}
use Rattle.wf_life.specs.declared.Kind.{Kind}
use Rattle.wf_life.specs.declared.Kind.TheVariants as kind
use Rattle.wf_life.specs.Handles.{Live, same_kind, without, rising_without, rises_live}
use Rattle.wf_stream.specs.Streams.{StoreView}
use Rattle.wf_scene.specs.Cached as cached
use Rattle.wf_scene.specs.Cached.{handle_of, handles, has_element}
use Rattle.wf_model.specs.Objects.{Context, CoreState}
use Rattle.wf_model.specs.Core.{without_source}
use Rattle.wf_objects.specs.Fits.{ContextFits, Fits, HandlesFit, HasElements, Shows, context_live, element_live, has_owner}
use Rattle.wf_life.specs.Living.{of_kind}
use Rattle.wf_objects.specs.Fits.{device_live, elements_of}
use Rattle.wf_objects.specs.Links.{link_kind, link_live, links, with_links}
use Rattle.wf_objects.proofs.ChangesStillFit.{Housed, KindChanged, contexts_fit, devices_fit, links_fit, links_live, links_show}
use Rattle.wf_objects.specs.Losses.{Loses, but_context}
use Rattle.wf_objects.specs.Sides.{is_of_composition}
use Rattle.wf_words.specs.Filtered.{all_filtered, filter_mapped, any_left}
use Rattle.wf_life.specs.Living.{count_stays, left_out, taken_out}
use Rattle.wf_words.specs.Each.{each_filtered, each_at, each_other, each_set}
use Rattle.wf_words.specs.Found.{any_mapped}
use Rattle.wf_words.specs.Places.{map_set}
use Rattle.wf_objects.proofs.Lookups.{has_by_key, is_named, rises_contexts}
use Rattle.wf_words.specs.Rising.{each_replaced}
use Rattle.std.proofs.lemmas.Bool.Decides.{nat_tests}
use Rattle.wf_life.specs.Living.{IsUnder, object_under, under}

pub and_false : (b : Bool) → (b && false) ≡ false
and_false true = refl
and_false false = refl

pub and_true : (b : Bool) → (b && true) ≡ b
and_true true = refl
and_true false = refl

-- a link is no element
no_element : (mask : Bool) → same_kind (link_kind mask) kind.Element ≡ false
no_element false = refl
no_element true = refl

-- without the object of a handle
abbrev pub dead : ℕ → StoreView → StoreView
dead h store = record store { others = without h store.others }

module _ (core : CoreState) (store : StoreView) (fits : HandlesFit core store) (h : ℕ) (k : Kind) (u : IsUnder h k store.others) where
  -- a test that no object of the kind passes keeps what it kept
  stays : (q : Live → Bool) → ((l : Live) → l.kind ≡ k → q l ≡ false) → filter q (without h store.others) ≡ filter q store.others
  stays q fails = left_out q h 0 store.others u.object (rises_live 0 store.made store.others fits.rising) u.found (fails u.object u.kind_is)

  other_kind : (j : Kind) → same_kind k j ≡ false → of_kind j (without h store.others) ≡ of_kind j store.others
  other_kind j other = stays (λ l. same_kind l.kind j) (λ l is. ap (λ i. same_kind i j) is ∙ other)

  elements_stay : same_kind k kind.Element ≡ false → AllByRecursion (HasElements (without h store.others)) core.contexts
  elements_stay other =
      each_other (HasElements store.others) (HasElements (without h store.others))
      (λ c has. stays (λ l. same_kind l.kind kind.Element && (l.key == c.handle))
      (λ l is. ap (λ i. same_kind i kind.Element && (l.key == c.handle)) is ∙ ap (λ b. b && (l.key == c.handle)) other) ∙ has)
      core.contexts fits.elements

  owned_stay : list_all (has_owner core.contexts) (without h store.others) ≡ true
  owned_stay = all_filtered (has_owner core.contexts) (λ l. not (l.handle == h)) store.others fits.owned

  pub loses : is_of_composition k ≡ true → same_kind k kind.DisplaySource ≡ false → Loses store (dead h store)
  loses ours other =
      record {
        rest = refl;
        others = stays (λ l. not (is_of_composition l.kind)) (λ l is. ap (λ i. not (is_of_composition i)) is
            ∙ ap not ours);
        display = count_stays (λ l. same_kind l.kind kind.DisplaySource) h 0 store.others u.object
            (rises_live 0 store.made store.others fits.rising) u.found (ap (λ i. same_kind i kind.DisplaySource) u.kind_is
            ∙ other);
      }

-- losses one after another
pub then_lost : (a b c : StoreView) → Loses a b → Loses b c → Loses a c
then_lost a b c first second = record {
  rest = second.rest ∙ first.rest;
  others = second.others ∙ first.others;
  display = second.display ∙ first.display;
}

module _ (core : CoreState) (store : StoreView) (fits : Fits core store) (h : ℕ) where
  -- a handle of a kind that dies
  died : (k : Kind) → IsUnder h k store.others → KindChanged k store store.made (without h store.others)
  died k u = record {
    rising = rising_without h 0 store.made store.others fits.handles.rising;
    other = other_kind core store fits.handles h k u;
  }

  -- one that is of no element
  still_housed : (k : Kind) (u : IsUnder h k store.others) → same_kind k kind.Element ≡ false
      → Housed core.contexts (without h store.others)
  still_housed k u other = record {
    elements = elements_stay core store fits.handles h k u other;
    owned = owned_stay core store fits.handles h k u;
  }

  pub link_under : (mask : Bool) → list_any (λ s. s.handle == h) (links mask core) ≡ true → IsUnder h (link_kind mask) store.others
  link_under mask any = object_under (link_kind mask) (link_live mask) h store.made (links mask core) store.others fits.handles.rising
      (links_live core store fits.handles mask) any

  pub link_dropped : (mask : Bool) → IsUnder h (link_kind mask) store.others
      → Fits (with_links mask (without_source h (links mask core)) core) (dead h store)
  link_dropped mask u =
      links_fit core store fits store.made (without h store.others) mask (without_source h (links mask core)) (died (link_kind mask) u)
      (taken_out (λ l. same_kind l.kind (link_kind mask)) (link_live mask) h (links mask core) store.others
      (links_live core store fits.handles mask))
      (still_housed (link_kind mask) u (no_element mask))
      (each_filtered (Shows mask store.streams) (λ s. not (s.handle == h)) (links mask core)
      (links_show core store.streams fits.streams mask))

  pub link_loses : (mask : Bool) → IsUnder h (link_kind mask) store.others → Loses store (dead h store)
  link_loses false u = loses core store fits.handles h kind.Source u refl refl
  link_loses true u = loses core store fits.handles h kind.Mask u refl refl

-- an element of the context at a place
module _ (core : CoreState) (store : StoreView) (fits : Fits core store) (h place : ℕ) (c : Context)
    (at : slice_get core.contexts place ≡ Some c) where
  abbrev pub InContext : Type 0
  InContext = (u : IsUnder h kind.Element store.others) × (u.object.key ≡ c.handle)

  pub element_under : has_element h c.cached ≡ true → InContext
  element_under has = of_found (find (λ x. (x.handle == h) && same_kind x.kind kind.Element) store.others) refl
      (sym (has_by_key core store fits.handles h c (each_at (HasElements store.others) core.contexts place c fits.handles.elements at))
      ∙ has)
    where
      of_found : (o : Option Live) → find (λ x. (x.handle == h) && same_kind x.kind kind.Element) store.others ≡ o
          → is_named (option_map (λ l. l.key) o) c.handle ≡ true → InContext
      of_found None there is = absurd cc
      of_found (Some l) there is = (under h kind.Element store.made store.others l fits.handles.rising there, eqb-true l.key c.handle is)

  pub element_dropped : InContext
      → Fits (record core { contexts = set core.contexts place (record c { cached = cached.forget h c.cached }) }) (dead h store)
  element_dropped under_is =
      let u = under_is.0 in
      let left : Context = record c { cached = cached.forget h c.cached } in
      let rises = rises_live 0 store.made store.others fits.handles.rising in
      let has = each_at (HasElements store.others) core.contexts place c fits.handles.elements at in
      let fit = each_at (ContextFits store.streams) core.contexts place c fits.streams.contexts at in
      let named : map (λ y. y.handle) (set core.contexts place left) ≡ map (λ y. y.handle) core.contexts =
      map_set (λ y. y.handle) core.contexts place c left at refl in
      contexts_fit kind.Element refl refl refl core store fits store.made (without h store.others) (set core.contexts place left)
      (died core store fits h kind.Element u)
      (other_kind core store fits.handles h kind.Element u kind.Context refl ∙ fits.handles.contexts
      ∙ sym (map_set context_live core.contexts place c left at refl))
      (record {
        elements =
            each_replaced (λ y. y.handle) (HasElements store.others) (HasElements (without h store.others)) 0
            core.contexts place c left (rises_contexts core store fits.handles) at
            (λ z other held. left_out (λ l. same_kind l.kind kind.Element && (l.key == z.handle)) h 0 store.others u.object
            rises u.found (elsewhere u.object z under_is.1 (λ equal. other (sym equal))) ∙ held) fits.handles.elements
            (taken_out (λ l. same_kind l.kind kind.Element && (l.key == c.handle)) (element_live c.handle) h
            (handles c.cached.elements) store.others has
            ∙ ap (map (element_live c.handle)) (filter_mapped (λ n. not (n == h)) handle_of c.cached.elements));
        owned =
            subst (λ hs. list_all (λ l. not (same_kind l.kind kind.Element) || is_in l.key hs)
            (without h store.others) ≡ true) (sym named)
            (owned_stay core store fits.handles h kind.Element u);
      })
      (each_set (ContextFits store.streams) core.contexts place left fits.streams.contexts
      (record { target = fit.target; size = fit.size; layers = fit.layers }))
    where
      elsewhere : (l : Live) (z : Context) → l.key ≡ c.handle → c.handle ≢ z.handle
          → (same_kind l.kind kind.Element && (l.key == z.handle)) ≡ false
      elsewhere l z key other = ap (λ n. same_kind l.kind kind.Element && (n == z.handle)) key
          ∙ ap (λ b. same_kind l.kind kind.Element && b) (ne_eqb c.handle z.handle other) ∙ and_false (same_kind l.kind kind.Element)

-- an element of another context keeps its owner
module _ (h : ℕ) where
  -- a context with another handle stays
  named_still : (n : ℕ) (cs : List Context) → (h == n) ≡ false
      → is_in n (map (λ c. c.handle) (filter (λ c. not (c.handle == h)) cs)) ≡ is_in n (map (λ c. c.handle) cs)
  named_still n cs other =
      any_mapped (λ m. m == n) (λ c. c.handle) (filter (λ c. not (c.handle == h)) cs)
      ∙ any_left (λ c. c.handle == n) (λ c. c.handle == h) (λ c is. ap (λ m. m == n) (eqb-true c.handle h is)
      ∙ other) cs
      ∙ sym (any_mapped (λ m. m == n) (λ c. c.handle) cs)

  owned_still : (cs : List Context) (others : List Live) → list_all (has_owner cs) others ≡ true → elements_of h others ≡ []
      → list_all (has_owner (filter (λ c. not (c.handle == h)) cs)) others ≡ true
  owned_still cs [] all none = refl
  owned_still cs (l ∷ others) all none = by_tests (owned_still cs others parts.1) (same_kind l.kind kind.Element) (l.key == h) refl refl
      parts.0 none
    where
      parts : (has_owner cs l ≡ true) × (list_all (has_owner cs) others ≡ true)
      parts = and_parts (has_owner cs l) (list_all (has_owner cs) others) all

      turned : (m n : ℕ) → (m == n) ≡ false → (n == m) ≡ false
      turned m n is = grind (arith, nat_tests, is)

      by_tests : (elements_of h others ≡ [] → list_all (has_owner (filter (λ c. not (c.handle == h)) cs)) others ≡ true) → (a b : Bool)
          → same_kind l.kind kind.Element ≡ a → (l.key == h) ≡ b
          → (not (same_kind l.kind kind.Element) || is_in l.key (map (λ c. c.handle) cs)) ≡ true
          → cond (a && b) (l ∷ elements_of h others) (elements_of h others) ≡ []
          → ((not (same_kind l.kind kind.Element) || is_in l.key (map (λ c. c.handle) (filter (λ c. not (c.handle == h)) cs)))
          && list_all (has_owner (filter (λ c. not (c.handle == h)) cs)) others) ≡ true
      by_tests later false b is at owner empty = rw is (later empty)
      by_tests later true true is at owner empty = absurd cc
      by_tests later true false is at owner empty = rw (named_still l.key cs (turned l.key h at))
          (and_from (not (same_kind l.kind kind.Element) || is_in l.key (map (λ c. c.handle) cs)) _ owner (later empty))

module _ (core : CoreState) (store : StoreView) (fits : Fits core store) (h : ℕ) where
  pub context_under : list_any (λ c. c.handle == h) core.contexts ≡ true → IsUnder h kind.Context store.others
  context_under any = object_under kind.Context context_live h store.made core.contexts store.others fits.handles.rising
      fits.handles.contexts any

  -- a context without elements
  pub context_dropped : IsUnder h kind.Context store.others → elements_of h store.others ≡ [] → Fits (but_context h core) (dead h store)
  context_dropped u none =
      contexts_fit kind.Context refl refl refl core store fits store.made (without h store.others) (but_context h core).contexts
      (died core store fits h kind.Context u)
      (taken_out (λ l. same_kind l.kind kind.Context) context_live h core.contexts store.others fits.handles.contexts)
      (record {
        elements = each_filtered (HasElements (without h store.others)) (λ c. not (c.handle == h)) core.contexts
            (elements_stay core store fits.handles h kind.Context u refl);
        owned = all_filtered (has_owner (but_context h core).contexts) (λ l. not (l.handle == h)) store.others
            (owned_still h core.contexts store.others fits.handles.owned none);
      })
      (each_filtered (ContextFits store.streams) (λ c. not (c.handle == h)) core.contexts fits.streams.contexts)

  pub device_under : list_any (λ x. x.handle == h) core.devices ≡ true → IsUnder h kind.Device store.others
  device_under any = object_under kind.Device device_live h store.made core.devices store.others fits.handles.rising fits.handles.devices
      any

  pub device_dropped : IsUnder h kind.Device store.others
      → Fits (record core { devices = filter (λ x. not (x.handle == h)) core.devices }) (dead h store)
  device_dropped u =
      devices_fit core store fits store.made (without h store.others) (filter (λ x. not (x.handle == h)) core.devices)
      (died core store fits h kind.Device u)
      (taken_out (λ l. same_kind l.kind kind.Device) device_live h core.devices store.others fits.handles.devices)
      (still_housed core store fits h kind.Device u refl)
