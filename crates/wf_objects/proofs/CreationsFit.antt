-- A creation: it is refused, or a new object fits with the handle that was made for it.
use Rattle.std.proofs.Common.{◌≡◌, ℕ, zero, suc, ◌+◌, ◌≤◌, Bool, true, false, cond, not, ◌==◌, ◌&&◌, ◌||◌, List, [], ◌∷◌, ◌++◌, map, set}
use Rattle.std.proofs.Common.{length, slice_get, Some, None, option_map, Ok, refl, sym, ap, subst, ◌∙◌, arith}
use Rattle.std.specs.List.{list_all, AllByRecursion}
use Rattle.std.proofs.lemmas.Bool.{and_parts, eqb-true, eq-eqb, ne_eqb}
use Rattle.std.proofs.lemmas.Bool.Decides.{nat_tests}
use Rattle.std.proofs.lemmas.List.{map-append}
use Rattle.wf_words.specs.Keyed.{is_in}
use Rattle.wf_life.specs.declared.Kind.{Kind}
use Rattle.wf_life.specs.declared.Kind.TheVariants as kind
use Rattle.wf_life.specs.Handles.{Live, IsRising, same_kind, rising_more, live_count}
use Rattle.wf_stream.specs.Counts.{times}
use Rattle.wf_stream.specs.Streams.{StoreView, with_other}
use Rattle.wf_stream.specs.Names.{Recounts, but_names}
use Rattle.wf_model.specs.Names.{core_names}
use Rattle.wf_scene.specs.Cached as cached
use Rattle.wf_scene.specs.Cached.{handle_of, handles}
use Rattle.wf_scene.specs.Elements.{new_element}
use Rattle.wf_model.specs.Objects.{Context, CoreState, Device, Source}
use Rattle.wf_model.specs.Outcome.{Outcome}
use Rattle.wf_model.specs.Composition.{CoreSide, change_context, created, with_cached}
use Rattle.wf_model.specs.Core.{room}
use Rattle.wf_words.specs.Refusals.{◌>>=◌}
use Rattle.std.specs.Prelude.{nat_le}
use Rattle.wf_objects.specs.Does.{Does, element_made, in_place}
use Rattle.wf_objects.proofs.Scenes.{placed_is}
use Rattle.wf_objects.specs.Links.{link_kind, link_live, links, with_links}
use Rattle.wf_objects.specs.Sides.{beside, is_of_composition, core_side_of}
use Rattle.wf_stream.specs.Renames.{names_stay}
use Rattle.wf_objects.proofs.NameCounts.{changed_names}
use Rattle.wf_model.specs.Outcome.{refused_handle}
use Rattle.wf_objects.proofs.ChangesStillFit.{Housed, KindChanged, contexts_fit, devices_fit, links_fit, links_live, links_show}
use Rattle.wf_objects.specs.Fits.{ContextFits, Fits, HasElements, Shows, context_live, device_live, element_live, elements_of, has_owner}
use Rattle.wf_life.specs.Living.{live, of_kind}
use Rattle.wf_words.specs.Each.{each_at, each_more, each_other, each_set}
use Rattle.wf_words.specs.Places.{map_set}
use Rattle.wf_objects.proofs.Lookups.{has_by_key, is_named, rises_contexts}
use Rattle.wf_words.specs.Rising.{Rises, each_replaced, none_over}
use Rattle.wf_words.specs.Filtered.{count_left, more_left, all_more, more_passed, all_other}
use Rattle.wf_scene.specs.declared.TheConstants.{MOST_ELEMENTS}

last_under : (low high : ℕ) (ls : List Live) → IsRising low ls high → low ≤ high
last_under low high [] rising = rising
last_under low high (l ∷ ls) rising = omega (arith, rising.0, last_under l.handle high ls rising.1)

-- a link is of composition, and not of the display
pub link_is_ours : (mask : Bool) → (same_kind (link_kind mask) kind.DisplaySource ≡ false) × (is_of_composition (link_kind mask) ≡ true)
link_is_ours false = (refl, refl)
link_is_ours true = (refl, refl)

module _ (core : CoreState) (store : StoreView) (fits : Fits core store) where
  -- a creation, by its limit and what it leaves of the objects
  module _ (plain : Bool → CoreSide → Outcome CoreSide) (at_limit : Bool) (grown : CoreState)
      (is : (m : Bool) → plain m (core_side_of core store)
      ≡ (room at_limit m (core_side_of core store) >>= (λ _. Ok (created grown (core_side_of core store))))) where
    pub creates : (k : Kind) (key : ℕ) → same_kind k kind.DisplaySource ≡ false → is_of_composition k ≡ true → at_limit ≡ false
        → Ok tt ≡ refused_handle store.made false → (now : StoreView) → but_names now ≡ but_names (with_other k key store)
        → Recounts (core_names core) (core_names grown) store now → Fits grown now
        → Does plain core grown store now (Ok (store.made + 1))
    creates k key other ours below given now rest names fit =
        let new = live k (store.made + 1) key in
        let after : Unit {0} → Outcome CoreSide = λ _. Ok (created grown (core_side_of core store)) in
        let done : ℕ → ℕ → Outcome CoreSide = λ made count. (let left : CoreSide
        × ℕ = (record { made = made; streams = store.streams; core = grown; display_sources = count }, store.made + 1) in
        Ok left) in
        let seen : StoreView → Outcome CoreSide = λ v. done v.made (live_count kind.DisplaySource v.others) in
        record {
          case = is false ∙ ap (λ b. room b false (core_side_of core store) >>= after) below
              ∙ ap (λ x. x >>= after) (sym given)
              ∙ ap (done (store.made + 1)) (sym (count_left (λ l. same_kind l.kind kind.DisplaySource) store.others new other))
              ∙ ap seen (sym rest);
          refused = tt;
          untouched = tt;
          kept = record {
            numbered = ap (λ v. v.numbered) rest;
            others = ap (λ v. beside v.others) rest ∙ more_left (λ l. not (is_of_composition l.kind)) store.others new (ap not ours);
          };
          names = names;
          fits = fit;
        }

  -- the handle that comes next
  abbrev next : ℕ
  next = store.made + 1

  -- another handle of a kind
  made_more : (k : Kind) (key : ℕ) → KindChanged k store next (with_other k key store).others
  made_more k key =
      record {
        rising = rising_more 0 store.made store.others k key fits.handles.rising;
        other = λ j other. more_left (λ x. same_kind x.kind j) store.others (live k next key) other;
      }

  -- one that is of no element
  still_housed : (k : Kind) (key : ℕ) → same_kind k kind.Element ≡ false → Housed core.contexts (with_other k key store).others
  still_housed k key other =
      record {
        elements =
            each_other (HasElements store.others) (HasElements (with_other k key store).others)
            (λ c has. more_left (λ x. same_kind x.kind kind.Element && (x.key == c.handle)) store.others (live k next key)
            (rw other refl) ∙ has) core.contexts fits.handles.elements;
        owned = all_more (has_owner core.contexts) store.others (live k next key) fits.handles.owned (rw other refl);
      }

  -- one more object of a kind
  of_kind_more : {A : Type 0} (k : Kind) (key : ℕ) (g : A → Live) (x : A) (xs : List A) → same_kind k k ≡ true
      → of_kind k store.others ≡ map g xs → g x ≡ live k next key → of_kind k (with_other k key store).others ≡ map g (xs ++ x ∷ [])
  of_kind_more k key g x xs same have is =
      more_passed (λ l. same_kind l.kind k) store.others (live k next key) same
      ∙ ap (λ ls. ls ++ live k next key ∷ []) have ∙ ap (λ l. map g xs ++ l ∷ []) (sym is)
      ∙ sym (map-append g xs (x ∷ []))

  pub device_fits : Fits (record core { devices = core.devices ++ record { handle = next; register = None } ∷ [] })
      (with_other kind.Device 0 store)
  device_fits =
      let new : Device = record { handle = next; register = None } in
      devices_fit core store fits next (with_other kind.Device 0 store).others (core.devices ++ new ∷ []) (made_more kind.Device 0)
      (of_kind_more kind.Device 0 device_live new core.devices refl fits.handles.devices refl) (still_housed kind.Device 0 refl)

  pub link_fits : (mask : Bool) (s : Source) → s.handle ≡ next → Shows mask store.streams s
      → Fits (with_links mask (links mask core ++ s ∷ []) core) (with_other (link_kind mask) s.stream store)
  link_fits mask s handle shows =
      links_fit core store fits next (with_other (link_kind mask) s.stream store).others mask (links mask core ++ s ∷ [])
      (made_more (link_kind mask) s.stream)
      (of_kind_more (link_kind mask) s.stream (link_live mask) s (links mask core) (same mask) (links_live core store fits.handles mask)
      (ap (λ n. live (link_kind mask) n s.stream) handle))
      (still_housed (link_kind mask) s.stream (no_element mask))
      (each_more (Shows mask store.streams) (links mask core) s (links_show core store.streams fits.streams mask) shows)
    where
      same : (b : Bool) → same_kind (link_kind b) (link_kind b) ≡ true
      same false = refl
      same true = refl

      no_element : (b : Bool) → same_kind (link_kind b) kind.Element ≡ false
      no_element false = refl
      no_element true = refl

  -- the next handle is that of no element
  pub fresh : (c : Context) → HasElements store.others c → cached.has_element next c.cached ≡ false
  fresh c has =
      has_by_key core store fits.handles next c has
      ∙ ap (λ o. is_named o c.handle) (ap (option_map (λ l. l.key))
      (none_over (λ l. l.handle) (λ l. same_kind l.kind kind.Element) 0 store.made next store.others
      fits.handles.rising (omega arith)))

  -- another element in the context at a place
  pub element_fits : (place : ℕ) (c : Context) → slice_get core.contexts place ≡ Some c
      → Fits (record core { contexts = set core.contexts place (record c { cached = cached.add next c.cached }) })
      (with_other kind.Element c.handle store)
  element_fits place c at =
      let grown : Context = record c { cached = cached.add next c.cached } in
      let others = (with_other kind.Element c.handle store).others in
      let new : Live = live kind.Element next c.handle in
      let has = each_at (HasElements store.others) core.contexts place c fits.handles.elements at in
      let more = map-append handle_of c.cached.elements (new_element next ∷ []) in
      let fit = each_at (ContextFits store.streams) core.contexts place c fits.streams.contexts at in
      let named : map (λ y. y.handle) (set core.contexts place grown) ≡ map (λ y. y.handle) core.contexts =
      map_set (λ y. y.handle) core.contexts place c grown at refl in
      contexts_fit kind.Element refl refl refl core store fits next others (set core.contexts place grown)
      (made_more kind.Element c.handle)
      (more_left (λ l. same_kind l.kind kind.Context) store.others new refl ∙ fits.handles.contexts
      ∙ sym (map_set context_live core.contexts place c grown at refl))
      (record {
        elements =
            each_replaced (λ y. y.handle) (HasElements store.others) (HasElements others) 0 core.contexts place c grown
            (rises_contexts core store fits.handles) at
            (λ z other held. more_left (λ l. same_kind l.kind kind.Element && (l.key == z.handle)) store.others new
            (ne_eqb c.handle z.handle (λ same. other (sym same))) ∙ held) fits.handles.elements
            (more_passed (λ l. same_kind l.kind kind.Element && (l.key == c.handle)) store.others new
            (eq-eqb c.handle c.handle refl)
            ∙ ap (λ ls. ls ++ new ∷ []) has ∙ sym (ap (map (element_live c.handle)) more
            ∙ map-append (element_live c.handle) (handles c.cached.elements) (next ∷ [])));
        owned =
            subst (λ hs. list_all (λ l. not (same_kind l.kind kind.Element) || is_in l.key hs) others ≡ true)
            (sym named)
            (all_more (has_owner core.contexts) store.others new fits.handles.owned (stands core.contexts place at));
      })
      (each_set (ContextFits store.streams) core.contexts place grown fits.streams.contexts
      (record { target = fit.target; size = fit.size; layers = fit.layers }))
    where
      stands : (cs : List Context) (i : ℕ) → slice_get cs i ≡ Some c → is_in c.handle (map (λ y. y.handle) cs) ≡ true
      stands [] i here = absurd cc
      stands (y ∷ cs) zero here = (let same : y ≡ c = cc in rw (eq-eqb y.handle c.handle (ap (λ z. z.handle) same)) refl)
      stands (y ∷ cs) (suc i) here = (let later = stands cs i here in
          elim (y.handle == c.handle) as (λ b. (b || is_in c.handle (map (λ z. z.handle) cs))
          ≡ true) [ true ↦ refl | false ↦ later ])

  pub element_creates : (place : ℕ) (c : Context) (at : slice_get core.contexts place ≡ Some c)
      → nat_le MOST_ELEMENTS (length c.cached.elements) ≡ false → Ok tt ≡ refused_handle store.made false
      → Does (in_place place element_made) core
      (record core { contexts = set core.contexts place (record c { cached = cached.add next c.cached }) }) store
      (with_other kind.Element c.handle store) (Ok next)
  element_creates place c at below given =
      let grown = change_context c.handle (with_cached (cached.add next c.cached)) core in
      let is = placed_is core store fits place c at (with_cached (cached.add next c.cached)) in
      let now = with_other kind.Element c.handle store in
      let names = changed_names c.handle (with_cached (cached.add next c.cached)) core (λ y. refl) in
      subst (λ k. Does (in_place place element_made) core k store now (Ok next)) is
      (creates (in_place place element_made) (nat_le MOST_ELEMENTS (length c.cached.elements)) grown (λ m. rw at refl) kind.Element
      c.handle refl refl below given now refl
      (names_stay (core_names core) (core_names grown) store now refl refl (λ n some. ap (times n) (sym names)))
      (subst (λ k. Fits k now) (sym is) (element_fits place c at)))

  -- the contexts have handles that were given
  abbrev IsUnder : List Context → Type 0
  IsUnder = AllByRecursion (λ y. y.handle ≤ store.made)

  all_under : IsUnder core.contexts
  all_under =
      of_live core.contexts (subst (λ ls. AllByRecursion (λ l. l.handle ≤ store.made) ls) fits.handles.contexts
      (of_filter store.others (under_made 0 store.made store.others fits.handles.rising)))
    where
      under_made : (low high : ℕ) (ls : List Live) → IsRising low ls high → AllByRecursion (λ l. l.handle ≤ high) ls
      under_made low high [] rising = tt
      under_made low high (l ∷ ls) rising = (last_under l.handle high ls rising.1, under_made l.handle high ls rising.1)

      of_filter : (ls : List Live) → AllByRecursion (λ l. l.handle ≤ store.made) ls
          → AllByRecursion (λ l. l.handle ≤ store.made) (of_kind kind.Context ls)
      of_filter [] all = tt
      of_filter (l ∷ ls) all =
          let later = of_filter ls all.1 in
          elim (same_kind l.kind kind.Context) as (λ b. AllByRecursion (λ x. x.handle ≤ store.made)
          (cond b (l ∷ of_kind kind.Context ls) (of_kind kind.Context ls))) [ true ↦ (all.0, later) | false ↦ later ]

      of_live : (cs : List Context) → AllByRecursion (λ l. l.handle ≤ store.made) (map context_live cs) → IsUnder cs
      of_live [] all = tt
      of_live (c ∷ cs) all = (all.0, of_live cs all.1)

  -- no element has the next handle for its owner
  unowned : (others : List Live) → list_all (has_owner core.contexts) others ≡ true → elements_of next others ≡ []
  unowned [] owned = refl
  unowned (l ∷ others) owned = by_kind (unowned others parts.1) (same_kind l.kind kind.Element) (l.key == next) refl refl parts.0
    where
      parts : (has_owner core.contexts l ≡ true) × (list_all (has_owner core.contexts) others ≡ true)
      parts = and_parts (has_owner core.contexts l) (list_all (has_owner core.contexts) others) owned

      absent : (cs : List Context) (low : ℕ) → Rises (λ y. y.handle) low cs → IsUnder cs
          → is_in next (map (λ y. y.handle) cs) ≡ false
      absent [] low up under = refl
      absent (y ∷ cs) low up under =
          let other : (y.handle == next) ≡ false = grind (arith, nat_tests, under.0) in
          rw other (absent cs y.handle up.1 under.1)

      by_kind : elements_of next others ≡ [] → (a b : Bool) → same_kind l.kind kind.Element ≡ a → (l.key == next) ≡ b
          → has_owner core.contexts l ≡ true
          → cond (a && b) (l ∷ elements_of next others) (elements_of next others) ≡ []
      by_kind later false b is at owner = later
      by_kind later true false is at owner = later
      by_kind later true true is at owner =
          let key : l.key ≡ next = eqb-true l.key next at in
          let none : is_in l.key (map (λ y. y.handle) core.contexts) ≡ false =
          ap (λ n. is_in n (map (λ y. y.handle) core.contexts)) key
          ∙ absent core.contexts 0 (rises_contexts core store fits.handles) all_under in
          let both : (not true || is_in l.key (map (λ y. y.handle) core.contexts)) ≡ true =
          ap (λ b. not b || is_in l.key (map (λ y. y.handle) core.contexts)) (sym is) ∙ owner in
          let no = sym none ∙ both in absurd cc

  -- another context, without elements
  pub context_fits : (c : Context) → c.handle ≡ next → c.cached.elements ≡ [] → ContextFits store.streams c
      → Fits (record core { contexts = core.contexts ++ c ∷ [] }) (with_other kind.Context c.device store)
  context_fits c handle none fit =
      let others = (with_other kind.Context c.device store).others in
      let housed = still_housed kind.Context c.device refl in
      let here : elements_of c.handle others ≡ [] =
      ap (λ n. elements_of n others) handle
      ∙ more_left (λ l. same_kind l.kind kind.Element && (l.key == next)) store.others (live kind.Context next c.device) refl
      ∙ unowned store.others fits.handles.owned in
      let handles_none : map (element_live c.handle) (handles c.cached.elements) ≡ [] =
      ap (λ es. map (element_live c.handle) (handles es)) none in
      contexts_fit kind.Context refl refl refl core store fits next others (core.contexts ++ c ∷ []) (made_more kind.Context c.device)
      (of_kind_more kind.Context c.device context_live c core.contexts refl fits.handles.contexts
      (ap (λ n. live kind.Context n c.device) handle))
      (record {
        elements = each_more (HasElements others) core.contexts c housed.elements (here ∙ sym handles_none);
        owned = all_other (has_owner core.contexts) (has_owner (core.contexts ++ c ∷ [])) wider others housed.owned;
      })
      (each_more (ContextFits store.streams) core.contexts c fits.streams.contexts fit)
    where
      in_wider : (n : ℕ) (cs : List Context) → is_in n (map (λ y. y.handle) cs) ≡ true
          → is_in n (map (λ y. y.handle) (cs ++ c ∷ [])) ≡ true
      in_wider n [] there = absurd cc
      in_wider n (y ∷ cs) there = by_test (in_wider n cs) (y.handle == n) there
        where
          by_test : (is_in n (map (λ z. z.handle) cs) ≡ true → is_in n (map (λ z. z.handle) (cs ++ c ∷ [])) ≡ true)
              → (b : Bool) → (b || is_in n (map (λ z. z.handle) cs)) ≡ true
              → (b || is_in n (map (λ z. z.handle) (cs ++ c ∷ []))) ≡ true
          by_test later true at = refl
          by_test later false at = later at

      wider : (l : Live) → has_owner core.contexts l ≡ true → has_owner (core.contexts ++ c ∷ []) l ≡ true
      wider l owner = by_kind (same_kind l.kind kind.Element) owner
        where
          by_kind : (b : Bool) → (not b || is_in l.key (map (λ y. y.handle) core.contexts)) ≡ true
              → (not b || is_in l.key (map (λ y. y.handle) (core.contexts ++ c ∷ []))) ≡ true
          by_kind false at = refl
          by_kind true at = in_wider l.key core.contexts at
