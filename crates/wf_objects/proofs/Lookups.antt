-- What the store's table tells of an object that a call names.
use Rattle.std.proofs.Common.{◌≡◌, ◌≢◌, eq-eqb, ne_eqb, ℕ, Bool, true, false, cond, ◌==◌, ◌&&◌, List, [], ◌∷◌, map, find, slice_get}
use Rattle.std.proofs.Common.{option_map, option_and_then, position, Option, Some, None, Ok, Err, is_some, refl, sym, ap, subst, ◌∙◌, arith}
use Rattle.std.specs.List.{list_any, AllByRecursion}
use Rattle.std.proofs.lemmas.Bool.Decides.{nat_tests}
use Rattle.wf_words.specs.Keyed.{at_key}
use Rattle.wf_life.specs.declared.Kind.{Kind}
use Rattle.wf_life.specs.declared.Kind.TheVariants as kind
use Rattle.wf_life.specs.Handles.{Live, IsRising, key_of, same_kind, rises_live}
use Rattle.wf_stream.specs.Streams.{StoreView}
use Rattle.wf_scene.specs.Cached.{has_element, handles, handle_of}
use Rattle.wf_calls.specs.declared.code.Code.TheVariants as code
use Rattle.wf_model.specs.Objects.{Context, CoreState, Device}
use Rattle.wf_calls.specs.Replies.{refusal}
use Rattle.wf_model.specs.Outcome.{found}
use Rattle.wf_objects.specs.Sides.{core_side_of}
use Rattle.wf_model.specs.Outcome.{without_value}
use Rattle.wf_objects.specs.Fits.{HandlesFit, HasElements, elements_of, device_live, context_live, element_live}
use Rattle.wf_life.specs.Living.{keyed, of_kind}
use Rattle.wf_objects.specs.Owners.{live_device, of_device, of_element}
use Rattle.wf_words.specs.Found.{find_filtered, any_found, any_mapped, get_position}
use Rattle.wf_words.specs.Rising.{Rises, rises_filter, rises_map, find_tested}

-- the handles of the objects of a kind rise
pub rises_kind : {A : Type 0} (k : Kind) (g : A → Live) (xs : List A) (others : List Live) (made : ℕ) → IsRising 0 others made
    → of_kind k others ≡ map g xs → Rises (λ x. (g x).handle) 0 xs
rises_kind k g xs others made rising is =
    rises_map (λ l. l.handle) g 0 xs (subst (λ ls. Rises (λ l. l.handle) 0 ls) is
    (rises_filter (λ l. l.handle) (λ l. same_kind l.kind k) 0 others (rises_live 0 made others rising)))

-- by the key of a context, which is its device: the context, where it is of this one
abbrev pub by_owner : {A : Type 0} → Option ℕ → ℕ → Option A → Option A
by_owner None d o = None
by_owner (Some owner) d o = cond (owner == d) o None

-- by the key of an element, which is its context
abbrev pub is_named : Option ℕ → ℕ → Bool
is_named None handle = false
is_named (Some owner) handle = owner == handle

module _ (core : CoreState) (store : StoreView) (fits : HandlesFit core store) where
  pub rises_contexts : Rises (λ c. c.handle) 0 core.contexts
  rises_contexts = rises_kind kind.Context context_live core.contexts store.others store.made fits.rising fits.contexts

  -- the context of a device, by the table
  pub of_device_is : (d handle : ℕ) → of_device d handle core.contexts
      ≡ by_owner (key_of handle kind.Context store.others) d (at_key (λ c. c.handle) handle core.contexts)
  of_device_is d handle =
      find_tested (λ c. c.handle) (λ c. c.device == d) 0 handle core.contexts rises_contexts
      ∙ of_context (at_key (λ c. c.handle) handle core.contexts)
      ∙ ap (λ o. by_owner o d (at_key (λ c. c.handle) handle core.contexts))
      (sym (keyed kind.Context context_live handle core.contexts store.others fits.contexts))
    where
      of_context : (o : Option Context) → option_and_then (λ c. cond (c.device == d) (Some c) None) o
          ≡ by_owner (option_map (λ c. c.device) o) d o
      of_context None = refl
      of_context (Some c) = refl

  -- the place of a context is that of its handle, where the table names its device

  abbrev by_handle : ℕ → Option Context
  by_handle h = at_key (λ c. c.handle) h core.contexts

  pub placed : (d h owner : ℕ) (place : Option ℕ) → key_of h kind.Context store.others ≡ Some owner → owner ≡ d
      → place ≡ position (λ c. c.handle == h) core.contexts
      → option_and_then (slice_get core.contexts) place ≡ of_device d h core.contexts
  placed d h owner place key same at =
      ap (option_and_then (slice_get core.contexts)) at ∙ get_position (λ c. c.handle == h) core.contexts
      ∙ sym (of_device_is d h ∙ ap (λ o. by_owner o d (by_handle h)) key
      ∙ ap (λ b. cond b (by_handle h) None) (eq-eqb owner d same))

  pub not_placed : (d h owner : ℕ) → key_of h kind.Context store.others ≡ Some owner → owner ≢ d → None ≡ of_device d h core.contexts
  not_placed d h owner key other = sym (of_device_is d h ∙ ap (λ o. by_owner o d (by_handle h)) key
      ∙ ap (λ b. cond b (by_handle h) None) (ne_eqb owner d other))

  pub none_placed : (d h : ℕ) → key_of h kind.Context store.others ≡ None → None ≡ of_device d h core.contexts
  none_placed d h key = sym (of_device_is d h ∙ ap (λ o. by_owner o d (by_handle h)) key)

  -- no live device
  no_device : (d : ℕ) → key_of d kind.Device store.others ≡ None → at_key (λ x. x.handle) d core.devices ≡ None
  no_device d none = of_found (at_key (λ x. x.handle) d core.devices)
      (sym (keyed kind.Device device_live d core.devices store.others fits.devices) ∙ none)
    where
      of_found : (o : Option Device) → option_map {U = ℕ} (λ x. 0) o ≡ None → o ≡ None
      of_found None is = refl
      of_found (Some x) is = absurd cc

  -- a live device
  a_device : (d key : ℕ) → key_of d kind.Device store.others ≡ Some key → (x : Device)
      × (at_key (λ x. x.handle) d core.devices ≡ Some x)
  a_device d key some = of_found (at_key (λ x. x.handle) d core.devices) refl
      (sym (keyed kind.Device device_live d core.devices store.others fits.devices) ∙ some)
    where
      of_found : (o : Option Device) → at_key (λ x. x.handle) d core.devices ≡ o
          → option_map {U = ℕ} (λ x. 0) o ≡ Some key → (x : Device) × (at_key (λ x. x.handle) d core.devices ≡ Some x)
      of_found None at is = absurd cc
      of_found (Some x) at is = (x, at)

  -- an element lives in the context that its key names
  pub has_by_key : (e : ℕ) (c : Context) → HasElements store.others c
      → has_element e c.cached ≡ is_named (key_of e kind.Element store.others) c.handle
  has_by_key e c has =
      sym (any_mapped (λ n. n == e) handle_of c.cached.elements)
      ∙ sym (any_mapped (λ l. l.handle == e) (element_live c.handle) (handles c.cached.elements))
      ∙ ap (list_any (λ l. l.handle == e)) (sym has)
      ∙ any_found (λ l. l.handle == e) (elements_of c.handle store.others)
      ∙ ap is_some
      (sym (find_filtered (λ l. l.handle == e) (λ l. same_kind l.kind kind.Element && (l.key == c.handle))
      store.others) ∙ find_tested (λ l. l.handle) (λ l. same_kind l.kind kind.Element && (l.key == c.handle)) 0 e
      store.others (rises_live 0 store.made store.others fits.rising))
      ∙ of_live (find (λ l. l.handle == e) store.others)
      ∙ ap (λ o. is_named (option_map (λ l. l.key) o) c.handle)
      (sym (find_tested (λ l. l.handle) (λ l. same_kind l.kind kind.Element) 0 e store.others
      (rises_live 0 store.made store.others fits.rising)))
    where
      of_live : (o : Option Live)
          → is_some (option_and_then (λ l. cond (same_kind l.kind kind.Element && (l.key == c.handle)) (Some l) None) o)
          ≡ is_named
          (option_map (λ l. l.key) (option_and_then (λ l. cond (same_kind l.kind kind.Element) (Some l) None) o)) c.handle
      of_live None = refl
      of_live (Some l) =
          elim (same_kind l.kind kind.Element) as (λ b. is_some (cond (b && (l.key == c.handle)) (Some l) None)
          ≡ is_named (option_map (λ k. k.key) (cond b (Some l) None)) c.handle) [
            | true ↦ elim (l.key == c.handle) as (λ b. is_some (cond (true && b) (Some l) None) ≡ b) [ true ↦ refl | false ↦ refl ]
            | false ↦ refl
          ]

  -- the contexts in which an element lives, by the table
  pub owner_is : (d e : ℕ) → of_element d e core.contexts
      ≡ option_and_then (λ owner. of_device d owner core.contexts) (key_of e kind.Element store.others)
  owner_is d e = of_contexts core.contexts fits.elements (key_of e kind.Element store.others) refl
    where
      swapped : (b : Bool) (m n : ℕ) → (b && (m == n)) ≡ ((n == m) && b)
      swapped true m n = grind (arith, nat_tests)
      swapped false m n = elim (n == m) as (λ b. false ≡ (b && false)) [ true ↦ refl | false ↦ refl ]

      of_contexts : (cs : List Context) → AllByRecursion (HasElements store.others) cs → (o : Option ℕ)
          → key_of e kind.Element store.others ≡ o → of_element d e cs ≡ option_and_then (λ owner. of_device d owner cs) o
      of_contexts [] all None is = refl
      of_contexts [] all (Some owner) is = refl
      of_contexts (c ∷ cs) all None is =
          let has : has_element e c.cached ≡ false = has_by_key e c all.0 ∙ ap (λ o. is_named o c.handle) is in
          rw has (elim (c.device == d) as (λ b. cond (b && false) (Some c)
          (find (λ x. (x.device == d) && has_element e x.cached) cs) ≡ None) [
            | true ↦ of_contexts cs all.1 None is
            | false ↦
                of_contexts cs all.1 None is
          ])
      of_contexts (c ∷ cs) all (Some owner) is =
          let has : has_element e c.cached ≡ (owner == c.handle) = has_by_key e c all.0 ∙ ap (λ o. is_named o c.handle) is in
          rw (has, swapped (c.device == d) owner c.handle, of_contexts cs all.1 (Some owner) is) refl

  -- a device lives just where the store has its handle

  pub dead_device : (d : ℕ) → key_of d kind.Device store.others ≡ None
      → live_device d (core_side_of core store) ≡ Err (refusal code.BadDevice)
  dead_device d none = rw (no_device d none) refl

  pub some_device : (d key : ℕ) → key_of d kind.Device store.others ≡ Some key → live_device d (core_side_of core store) ≡ Ok tt
  some_device d key some = let x = a_device d key some in rw x.1 refl

-- a live device is one of the devices
pub device_lives : (d : ℕ) (core : CoreState) (store : StoreView) → live_device d (core_side_of core store) ≡ Ok tt
    → list_any (λ x. x.handle == d) core.devices ≡ true
device_lives d core store lives =
    any_found (λ x. x.handle == d) core.devices ∙ of_found (at_key (λ x. x.handle) d core.devices) lives
  where
    of_found : (o : Option Device) → without_value (found code.BadDevice o) ≡ Ok (tt {0}) → is_some o ≡ true
    of_found None is = absurd cc
    of_found (Some x) is = refl
