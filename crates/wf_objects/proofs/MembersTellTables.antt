-- The members beside the tables: what they tell of devices, contexts, sources and masks, and that they still do after a change.
use Rattle.std.proofs.Common.{◌≡◌, ℕ, ◌+◌, ◌<◌, Bool, true, false, not, ◌&&◌, ◌||◌, ◌==◌, List, [], ◌∷◌, ◌++◌, length, map, filter}
use Rattle.std.proofs.Common.{is_some, set, slice_get, Option, Some, None, refl, sym, ap, subst, ◌∙◌, arith, append_assoc}
use Rattle.std.specs.List.{list_any}
use Rattle.std.specs.Vec.{with_item}
use Rattle.std.proofs.Math.Bool.{or-false}
use Rattle.std.proofs.lemmas.Bool.{both_ways, false_from_ne_true}
use Rattle.std.proofs.lemmas.List.{length-append, length-map, length_push, map-append}
use Rattle.std.proofs.lemmas.List.Folds.{list_any-append}
use Rattle.wf_words.specs.Each.{each_at, each_set}
use Rattle.wf_words.specs.Filtered.{filter_mapped}
use Rattle.wf_words.specs.Found.{any_first, any_found, any_mapped, find_filtered, or_true}
use Rattle.wf_words.specs.Keyed.{change, is_in, map_change}
use Rattle.wf_words.specs.Places.{map_set}
use Rattle.wf_words.specs.Rising.{Rises, none_over}
use Rattle.wf_life.specs.declared.Kind.{Kind}
use Rattle.wf_life.specs.declared.Kind.TheVariants as kind
use Rattle.wf_life.specs.Handles.{IsRising, Live, same_kind}
use Rattle.wf_life.specs.Living.{of_kind}
use Rattle.wf_links.specs.Lists.{lowest}
use Rattle.wf_members.specs.Membership.{Membership, is_open, member_count, members_of, most_members, most_owners, open_count}
use Rattle.wf_members.specs.Calls.{Adds, Closes, HasNone, Opens, Removes}
use Rattle.wf_stream.specs.Streams.{StoreView}
use Rattle.wf_calls.specs.declared.code.Code.{Code}
use Rattle.wf_model.specs.Core.{without_source}
use Rattle.wf_model.specs.Objects.{Context, CoreState, Device, Source, no_objects}
use Rattle.wf_objects.specs.declared.objects.Objects.TheInside.{Inside}
use Rattle.wf_objects.specs.Fits.{HandlesFit, context_live, device_live}
use Rattle.wf_objects.specs.Inside.{HasFewLayers, IsKept, tables_of}
use Rattle.wf_objects.specs.Links.{link_kind, link_live, links, with_links}
use Rattle.wf_objects.specs.Losses.{but_context}
use Rattle.wf_objects.specs.Tracks.{AreTracked, Tracks, context_handles, context_key, device_handles, link_key, link_keys}
use Rattle.wf_objects.specs.Tracks.{most_of_contexts, most_of_devices}
use Rattle.wf_objects.proofs.ChangesStillFit.{links_live}
use Rattle.wf_objects.proofs.Lookups.{rises_kind}
use Rattle.wf_objects.proofs.Members.{any_but, any_more, any_stays, bare, nobodys, none_tracked, one_less, owned_tracked, owned_untracked}
use Rattle.wf_objects.proofs.Members.{owner_of, owner_tracked, owner_untracked, owns, owns_nothing}
use Rattle.wf_model.specs.declared.TheConstants.{MOST_CONTEXTS, MOST_DEVICES, MOST_SOURCES}

-- the handle that comes next is that of no object

fresh : {A : Type 0} (k : Kind) (g : A → Live) (made : ℕ) (xs : List A) (others : List Live) → IsRising 0 others made
    → of_kind k others ≡ map g xs → list_any (λ x. (g x).handle == made + 1) xs ≡ false
fresh k g made xs others rising is =
    sym (any_mapped (λ l. l.handle == made + 1) g xs) ∙ ap (list_any (λ l. l.handle == made + 1)) (sym is)
    ∙ any_found (λ l. l.handle == made + 1) (of_kind k others)
    ∙ ap is_some (sym (find_filtered (λ l. l.handle == made + 1) (λ l. same_kind l.kind k) others)
    ∙ none_over (λ l. l.handle) (λ l. same_kind l.kind k) 0 made (made + 1) others rising (omega arith))

module _ (core : CoreState) (store : StoreView) (fits : HandlesFit core store) where
  pub fresh_device : list_any (λ x. x.handle == store.made + 1) core.devices ≡ false
  fresh_device = fresh kind.Device device_live store.made core.devices store.others fits.rising fits.devices

  pub fresh_context : list_any (λ c. c.handle == store.made + 1) core.contexts ≡ false
  fresh_context = fresh kind.Context context_live store.made core.contexts store.others fits.rising fits.contexts

  pub fresh_link : (mask : Bool) → list_any (λ s. s.handle == store.made + 1) (links mask core) ≡ false
  fresh_link mask =
      fresh (link_kind mask) (link_live mask) store.made (links mask core) store.others fits.rising (links_live core store fits mask)

  pub rises_devices : Rises (λ x. x.handle) 0 core.devices
  rises_devices = rises_kind kind.Device device_live core.devices store.others store.made fits.rising fits.devices

-- the handles of a table rise as its rows do
rise_mapped : {A : Type 0} (f : A → ℕ) (low : ℕ) (xs : List A) → Rises f low xs → Rises (λ n. n) low (map f xs)
rise_mapped f low [] rises = tt
rise_mapped f low (x ∷ xs) rises = (rises.0, rise_mapped f (f x) xs rises.1)

-- a list of two parts, of which one has one more
any_within : {A : Type 0} (p : A → Bool) (xs zs : List A) (y : A)
    → list_any p ((xs ++ y ∷ []) ++ zs) ≡ (p y || list_any p (xs ++ zs))
any_within p xs zs y =
    list_any-append p (xs ++ y ∷ []) zs ∙ ap (λ b. b || list_any p zs) (any_more p xs y)
    ∙ joined (p y) (list_any p xs) (list_any p zs) ∙ ap (λ b. p y || b) (sym (list_any-append p xs zs))
  where
    joined : (a b c : Bool) → ((a || b) || c) ≡ (a || (b || c))
    joined true b c = refl
    joined false b c = refl

any_behind : {A : Type 0} (p : A → Bool) (xs zs : List A) (y : A)
    → list_any p (xs ++ (zs ++ y ∷ [])) ≡ (p y || list_any p (xs ++ zs))
any_behind p xs zs y = ap (list_any p) (sym (append_assoc xs zs (y ∷ []))) ∙ any_more p (xs ++ zs) y

-- a test that fails in both parts
or_less : (a b c : Bool) → ((a && b) || (a && c)) ≡ (a && (b || c))
or_less true b c = refl
or_less false b c = refl

-- no objects
pub nothing_tracked : (m l : Membership) → HasNone MOST_CONTEXTS MOST_DEVICES m → HasNone MOST_SOURCES MOST_CONTEXTS l
    → AreTracked m l no_objects
nothing_tracked m l none free = record {
  of_devices = none_tracked m MOST_DEVICES MOST_CONTEXTS none;
  of_contexts = none_tracked l MOST_CONTEXTS MOST_SOURCES free;
}

-- a source or a mask has a handle and is one of a context
abbrev is_link : ℕ → ℕ → Source → Bool
is_link c h s = (s.handle == h) && (s.context == c)

module _ (m l : Membership) (core : CoreState) (old : AreTracked m l core) where
  -- what the members tell

  pub live_device_open : (d : ℕ) → list_any (λ x. x.handle == d) core.devices ≡ true → is_open d m ≡ true
  live_device_open d live = old.of_devices.opened d ∙ any_mapped (λ n. n == d) (λ x. x.handle) core.devices ∙ live

  pub live_context_open : (h : ℕ) → list_any (λ c. c.handle == h) core.contexts ≡ true → is_open h l ≡ true
  live_context_open h live = old.of_contexts.opened h ∙ any_mapped (λ n. n == h) (λ c. c.handle) core.contexts ∙ live

  pub no_device_open : (d : ℕ) → list_any (λ x. x.handle == d) core.devices ≡ false → is_open d m ≡ false
  no_device_open d dead = old.of_devices.opened d ∙ any_mapped (λ n. n == d) (λ x. x.handle) core.devices ∙ dead

  pub no_context_open : (h : ℕ) → list_any (λ c. c.handle == h) core.contexts ≡ false → is_open h l ≡ false
  no_context_open h dead = old.of_contexts.opened h ∙ any_mapped (λ n. n == h) (λ c. c.handle) core.contexts ∙ dead

  -- a context of a device, and a device without contexts

  pub is_context_of : (d h : ℕ) → is_in h (members_of d m) ≡ true
      → list_any (λ c. (c.handle == h) && (c.device == d)) core.contexts ≡ true
  is_context_of d h there =
      sym (any_mapped (λ k. (k.0 == h) && (k.1 == d)) context_key core.contexts)
      ∙ owns most_of_devices m (device_handles core) (map context_key core.contexts) old.of_devices d h there

  pub has_no_context : (d : ℕ) → None ≡ lowest (members_of d m) → list_any (λ c. c.device == d) core.contexts ≡ false
  has_no_context d none =
      sym (any_mapped (λ k. k.1 == d) context_key core.contexts)
      ∙ owns_nothing most_of_devices m (device_handles core) (map context_key core.contexts) old.of_devices d none

  pub bare_device : (d : ℕ) → list_any (λ c. c.device == d) core.contexts ≡ false → members_of d m ≡ []
  bare_device d none =
      bare most_of_devices m (device_handles core) (map context_key core.contexts) old.of_devices d
      (any_mapped (λ k. k.1 == d) context_key core.contexts ∙ none)

  pub a_device_has : (h : ℕ) → list_any (λ c. c.handle == h) core.contexts ≡ true → (d : ℕ) × (is_in h (members_of d m) ≡ true)
  a_device_has h live =
      owner_of most_of_devices m (device_handles core) (map context_key core.contexts) old.of_devices h
      (any_mapped (λ k. k.0 == h) context_key core.contexts ∙ live)

  pub no_device_has : (h : ℕ) → list_any (λ c. c.handle == h) core.contexts ≡ false → (d : ℕ) → is_in h (members_of d m) ≡ false
  no_device_has h none =
      nobodys most_of_devices m (device_handles core) (map context_key core.contexts) old.of_devices h
      (any_mapped (λ k. k.0 == h) context_key core.contexts ∙ none)

  -- a source or a mask of a context, and a context without them

  any_link : (p : ℕ × ℕ → Bool) → list_any p (link_keys core)
      ≡ (list_any (λ s. p (link_key s)) core.sources || list_any (λ s. p (link_key s)) core.masks)
  any_link p =
      list_any-append p (map link_key core.sources) (map link_key core.masks)
      ∙ ap (λ b. b || list_any p (map link_key core.masks)) (any_mapped p link_key core.sources)
      ∙ ap (λ b. list_any (λ s. p (link_key s)) core.sources || b) (any_mapped p link_key core.masks)

  none_of_both : (p : ℕ × ℕ → Bool) → ((mask : Bool) → list_any (λ s. p (link_key s)) (links mask core) ≡ false)
      → list_any p (link_keys core) ≡ false
  none_of_both p none =
      any_link p ∙ ap (λ b. b || list_any (λ s. p (link_key s)) core.masks) (none false) ∙ none true

  -- a link of one kind is a context's where its handle is that of no link of the other kind
  pub is_link_of : (mask : Bool) (c h : ℕ) → is_in h (members_of c l) ≡ true
      → list_any (λ s. s.handle == h) (links (not mask) core) ≡ false
      → list_any (λ s. (s.handle == h) && (s.context == c)) (links mask core) ≡ true
  is_link_of mask c h there alone =
      by_kind mask (false_from_ne_true (list_any (is_link c h) (links (not mask) core)) (λ some.
      both_ways (list_any (λ s. s.handle == h) (links (not mask) core)) alone
      (any_first (λ s. s.handle == h) (λ s. s.context == c) (links (not mask) core) some)))
      (sym (any_link (λ k. (k.0 == h) && (k.1 == c)))
      ∙ owns most_of_contexts l (context_handles core) (link_keys core) old.of_contexts c h there)
    where
      by_kind : (b : Bool) → list_any (is_link c h) (links (not b) core) ≡ false
          → (list_any (is_link c h) core.sources || list_any (is_link c h) core.masks) ≡ true
          → list_any (is_link c h) (links b core) ≡ true
      by_kind false other both =
          let sources : Bool = list_any (is_link c h) core.sources in sym (ap (λ b. sources || b) other ∙ or-false sources) ∙ both
      by_kind true other both = sym (ap (λ b. b || list_any (is_link c h) core.masks) other) ∙ both

  pub has_no_link : (c : ℕ) → None ≡ lowest (members_of c l) → (mask : Bool) → list_any (λ s. s.context == c) (links mask core) ≡ false
  has_no_link c none mask =
      by_kind mask (sym (any_link (λ k. k.1 == c))
      ∙ owns_nothing most_of_contexts l (context_handles core) (link_keys core) old.of_contexts c none)
    where
      both : (a b : Bool) → (a || b) ≡ false → (a ≡ false) × (b ≡ false)
      both true b none = absurd cc
      both false b none = (refl, none)

      by_kind : (b : Bool) → (list_any (λ s. s.context == c) core.sources || list_any (λ s. s.context == c) core.masks) ≡ false
          → list_any (λ s. s.context == c) (links b core) ≡ false
      by_kind false is = (both (list_any (λ s. s.context == c) core.sources) (list_any (λ s. s.context == c) core.masks) is).0
      by_kind true is = (both (list_any (λ s. s.context == c) core.sources) (list_any (λ s. s.context == c) core.masks) is).1

  pub bare_context : (c : ℕ) → ((mask : Bool) → list_any (λ s. s.context == c) (links mask core) ≡ false) → members_of c l ≡ []
  bare_context c none =
      bare most_of_contexts l (context_handles core) (link_keys core) old.of_contexts c (none_of_both (λ k. k.1 == c) none)

  pub a_context_has : (mask : Bool) (h : ℕ) → list_any (λ s. s.handle == h) (links mask core) ≡ true
      → (c : ℕ) × (is_in h (members_of c l) ≡ true)
  a_context_has mask h live =
      owner_of most_of_contexts l (context_handles core) (link_keys core) old.of_contexts h (any_link (λ k. k.0 == h) ∙ by_kind mask live)
    where
      by_kind : (b : Bool) → list_any (λ s. s.handle == h) (links b core) ≡ true
          → (list_any (λ s. s.handle == h) core.sources || list_any (λ s. s.handle == h) core.masks) ≡ true
      by_kind false some = ap (λ b. b || list_any (λ s. s.handle == h) core.masks) some
      by_kind true some = or_true (list_any (λ s. s.handle == h) core.sources) (list_any (λ s. s.handle == h) core.masks) some

  pub no_context_has : (h : ℕ) → ((mask : Bool) → list_any (λ s. s.handle == h) (links mask core) ≡ false)
      → (c : ℕ) → is_in h (members_of c l) ≡ false
  no_context_has h none =
      nobodys most_of_contexts l (context_handles core) (link_keys core) old.of_contexts h (none_of_both (λ k. k.0 == h) none)

  -- room

  pub devices_room : length core.devices < MOST_DEVICES → open_count m < most_owners m
  devices_room less =
      omega (
        arith,
        less,
        old.of_devices.owner_count,
        length-map core.devices (λ x. x.handle),
        ap (λ (k : ℕ × ℕ). k.0) old.of_devices.limits_are,
      )

  pub contexts_room : length core.contexts < MOST_CONTEXTS → member_count m < most_members m
  contexts_room less =
      omega (arith, less, old.of_devices.count, length-map core.contexts context_key, ap (λ (k : ℕ × ℕ). k.1) old.of_devices.limits_are)

  pub owners_room : length core.contexts < MOST_CONTEXTS → open_count l < most_owners l
  owners_room less =
      omega (
        arith,
        less,
        old.of_contexts.owner_count,
        length-map core.contexts (λ c. c.handle),
        ap (λ (k : ℕ × ℕ). k.0) old.of_contexts.limits_are,
      )

  link_count : length (link_keys core) ≡ length core.sources + length core.masks
  link_count =
      omega (
        arith,
        length-append (map link_key core.sources) (map link_key core.masks),
        length-map core.sources link_key,
        length-map core.masks link_key,
      )

  pub links_room : length core.sources + length core.masks < MOST_SOURCES → member_count l < most_members l
  links_room less =
      omega (arith, less, old.of_contexts.count, link_count, ap (λ (k : ℕ × ℕ). k.1) old.of_contexts.limits_are)

  -- changes that leave each handle with its owner

  pub tracked_on : (new : CoreState) → device_handles new ≡ device_handles core
      → map context_key new.contexts ≡ map context_key core.contexts
      → context_handles new ≡ context_handles core → link_keys new ≡ link_keys core → AreTracked m l new
  tracked_on new devices contexts handles keys =
      record {
        of_devices =
            subst (λ ds. Tracks most_of_devices m ds (map context_key new.contexts)) (sym devices)
            (subst (λ cs. Tracks most_of_devices m (device_handles core) cs) (sym contexts) old.of_devices);
        of_contexts =
            subst (λ cs. Tracks most_of_contexts l cs (link_keys new)) (sym handles)
            (subst (λ ks. Tracks most_of_contexts l (context_handles core) ks) (sym keys) old.of_contexts);
      }

  pub context_written : (i : ℕ) (x y : Context) → slice_get core.contexts i ≡ Some x → y.handle ≡ x.handle → y.device ≡ x.device
      → AreTracked m l (record core { contexts = set core.contexts i y })
  context_written i x y at handle device =
      tracked_on (record core { contexts = set core.contexts i y }) refl
      (map_set context_key core.contexts i x y at
      (let key : ℕ → ℕ → ℕ × ℕ = λ h d. (h, d) in ap (λ h. key h y.device) handle ∙ ap (key x.handle) device))
      (map_set (λ c. c.handle) core.contexts i x y at handle) refl

  pub registers_tracked : (d : ℕ) (f : Option Code → Option Code)
      → AreTracked m l (record core { devices = change (λ x. x.handle) d (λ x. record x { register = f x.register }) core.devices })
  registers_tracked d f =
      tracked_on (record core { devices = change (λ x. x.handle) d (λ x. record x { register = f x.register }) core.devices })
      (map_change (λ x. x.handle) d (λ x. record x { register = f x.register }) (λ x. x.handle) (λ x. refl) core.devices) refl refl refl

  -- one more device, or one less

  pub device_tracked : (new : Membership) (x : Device) → Opens x.handle m new
      → AreTracked new l (record core { devices = core.devices ++ x ∷ [] })
  device_tracked new x opens =
      record {
        of_devices =
            subst (λ ds. Tracks most_of_devices new ds (map context_key core.contexts))
            (sym (map-append (λ d. d.handle) core.devices (x ∷ [])))
            (owner_tracked most_of_devices m (device_handles core) (map context_key core.contexts) old.of_devices new x.handle opens);
        of_contexts = old.of_contexts;
      }

  pub device_untracked : (new : Membership) (h : ℕ) → Closes h m new → Rises (λ x. x.handle) 0 core.devices
      → list_any (λ x. x.handle == h) core.devices ≡ true
      → AreTracked new l (record core { devices = filter (λ x. not (x.handle == h)) core.devices })
  device_untracked new h closes rises live =
      record {
        of_devices =
            subst (λ ds. Tracks most_of_devices new ds (map context_key core.contexts))
            (filter_mapped (λ n. not (n == h)) (λ x. x.handle) core.devices)
            (owner_untracked most_of_devices m (device_handles core) (map context_key core.contexts) old.of_devices new h closes
            (rise_mapped (λ x. x.handle) 0 core.devices rises) (any_mapped (λ n. n == h) (λ x. x.handle) core.devices ∙ live));
        of_contexts = old.of_contexts;
      }

  -- one more context, or one less

  pub context_tracked : (new free : Membership) (c : Context) → Adds c.device c.handle m new → Opens c.handle l free
      → AreTracked new free (record core { contexts = core.contexts ++ c ∷ [] })
  context_tracked new free c adds opens =
      record {
        of_devices = owned_tracked most_of_devices m (device_handles core) (map context_key core.contexts) old.of_devices new
            c.device c.handle (map context_key (core.contexts ++ c ∷ [])) adds
            (λ p. ap (list_any p) more ∙ any_more p (map context_key core.contexts) (context_key c))
            (ap length more ∙ length_push (map context_key core.contexts) (context_key c));
        of_contexts =
            subst (λ cs. Tracks most_of_contexts free cs (link_keys core)) (sym (map-append (λ x. x.handle) core.contexts (c ∷ [])))
            (owner_tracked most_of_contexts l (context_handles core) (link_keys core) old.of_contexts free c.handle opens);
      }
    where
      more : map context_key (core.contexts ++ c ∷ []) ≡ map context_key core.contexts ++ context_key c ∷ []
      more = map-append context_key core.contexts (c ∷ [])

  pub context_untracked : (new free : Membership) (h : ℕ) → Removes h m new → Closes h l free → Rises (λ c. c.handle) 0 core.contexts
      → list_any (λ c. c.handle == h) core.contexts ≡ true → AreTracked new free (but_context h core)
  context_untracked new free h removes closes rises live =
      record {
        of_devices = owned_untracked most_of_devices m (device_handles core) (map context_key core.contexts) old.of_devices new h
            (map context_key (but_context h core).contexts) removes
            (λ d n. any_mapped (λ k. (k.0 == n) && (k.1 == d)) context_key (but_context h core).contexts
            ∙ any_but (λ c. c.handle) (λ c. c.device == d) n h core.contexts
            ∙ ap (λ b. not (n == h) && b) (sym (any_mapped (λ k. (k.0 == n) && (k.1 == d)) context_key core.contexts)))
            (omega (
              arith,
              length-map (but_context h core).contexts context_key,
              length-map core.contexts context_key,
              one_less (λ c. c.handle) h 0 core.contexts rises live,
            ));
        of_contexts =
            subst (λ cs. Tracks most_of_contexts free cs (link_keys core)) (filter_mapped (λ n. not (n == h)) (λ c. c.handle) core.contexts)
            (owner_untracked most_of_contexts l (context_handles core) (link_keys core) old.of_contexts free h closes
            (rise_mapped (λ c. c.handle) 0 core.contexts rises) (any_mapped (λ n. n == h) (λ c. c.handle) core.contexts ∙ live));
      }

  -- one more source or mask, or one less

  pub link_tracked : (new : Membership) (mask : Bool) (s : Source) → Adds s.context s.handle l new
      → AreTracked m new (with_links mask (links mask core ++ s ∷ []) core)
  link_tracked new mask s adds = by_kind mask
    where
      tracked : (ks : List (ℕ × ℕ)) → ((p : ℕ × ℕ → Bool) → list_any p ks ≡ (p (link_key s) || list_any p (link_keys core)))
          → length ks ≡ length (link_keys core) + 1 → Tracks most_of_contexts new (context_handles core) ks
      tracked ks = λ all longer. owned_tracked most_of_contexts l (context_handles core) (link_keys core) old.of_contexts new
          s.context s.handle ks adds all longer

      by_kind : (b : Bool) → AreTracked m new (with_links b (links b core ++ s ∷ []) core)
      by_kind false =
          let more = map-append link_key core.sources (s ∷ []) in
          record {
            of_devices = old.of_devices;
            of_contexts = tracked (map link_key (core.sources ++ s ∷ []) ++ map link_key core.masks)
                (λ p. ap (λ ks. list_any p (ks ++ map link_key core.masks)) more
                ∙ any_within p (map link_key core.sources) (map link_key core.masks) (link_key s))
                (omega (
                  arith,
                  length-append (map link_key (core.sources ++ s ∷ [])) (map link_key core.masks),
                  length-map (core.sources ++ s ∷ []) link_key,
                  length_push core.sources s,
                  length-map core.masks link_key,
                  link_count,
                ));
          }
      by_kind true =
          let more = map-append link_key core.masks (s ∷ []) in
          record {
            of_devices = old.of_devices;
            of_contexts = tracked (map link_key core.sources ++ map link_key (core.masks ++ s ∷ []))
                (λ p. ap (λ ks. list_any p (map link_key core.sources ++ ks)) more
                ∙ any_behind p (map link_key core.sources) (map link_key core.masks) (link_key s))
                (omega (
                  arith,
                  length-append (map link_key core.sources) (map link_key (core.masks ++ s ∷ [])),
                  length-map (core.masks ++ s ∷ []) link_key,
                  length_push core.masks s,
                  length-map core.sources link_key,
                  link_count,
                ));
          }

  pub link_untracked : (new : Membership) (mask : Bool) (h : ℕ) → Removes h l new → Rises (λ s. s.handle) 0 (links mask core)
      → list_any (λ s. s.handle == h) (links mask core) ≡ true → list_any (λ s. s.handle == h) (links (not mask) core) ≡ false
      → AreTracked m new (with_links mask (without_source h (links mask core)) core)
  link_untracked new mask h removes = by_kind mask
    where
      gone : (ss : List Source) (c n : ℕ) → list_any (λ k. (k.0 == n) && (k.1 == c)) (map link_key (without_source h ss))
          ≡ (not (n == h) && list_any (λ s. (s.handle == n) && (s.context == c)) ss)
      gone ss c n =
          any_mapped (λ k. (k.0 == n) && (k.1 == c)) link_key (without_source h ss)
          ∙ any_but (λ s. s.handle) (λ s. s.context == c) n h ss

      stay : (ss : List Source) (c n : ℕ) → list_any (λ s. s.handle == h) ss ≡ false
          → list_any (λ k. (k.0 == n) && (k.1 == c)) (map link_key ss)
          ≡ (not (n == h) && list_any (λ s. (s.handle == n) && (s.context == c)) ss)
      stay ss c n none =
          any_mapped (λ k. (k.0 == n) && (k.1 == c)) link_key ss ∙ any_stays (λ s. s.handle) (λ s. s.context == c) n h ss none

      less : (xs ys : List (ℕ × ℕ)) (c n : ℕ)
          → list_any (λ k. (k.0 == n) && (k.1 == c)) xs
          ≡ (not (n == h) && list_any (λ s. (s.handle == n) && (s.context == c)) core.sources)
          → list_any (λ k. (k.0 == n) && (k.1 == c)) ys
          ≡ (not (n == h) && list_any (λ s. (s.handle == n) && (s.context == c)) core.masks)
          → list_any (λ k. (k.0 == n) && (k.1 == c)) (xs ++ ys)
          ≡ (not (n == h) && list_any (λ k. (k.0 == n) && (k.1 == c)) (link_keys core))
      less xs ys c n first second =
          let sources : Bool = list_any (λ s. (s.handle == n) && (s.context == c)) core.sources in
          let masks : Bool = list_any (λ s. (s.handle == n) && (s.context == c)) core.masks in
          list_any-append (λ k. (k.0 == n) && (k.1 == c)) xs ys
          ∙ ap (λ b. b || list_any (λ k. (k.0 == n) && (k.1 == c)) ys) first
          ∙ ap (λ b. (not (n == h) && sources) || b) second
          ∙ or_less (not (n == h)) sources masks
          ∙ ap (λ b. not (n == h) && b) (sym (any_link (λ k. (k.0 == n) && (k.1 == c))))

      by_kind : (b : Bool) → Rises (λ s. s.handle) 0 (links b core) → list_any (λ s. s.handle == h) (links b core) ≡ true
          → list_any (λ s. s.handle == h) (links (not b) core) ≡ false
          → AreTracked m new (with_links b (without_source h (links b core)) core)
      by_kind false rises live alone =
          record {
            of_devices = old.of_devices;
            of_contexts = owned_untracked most_of_contexts l (context_handles core) (link_keys core) old.of_contexts new h
                (map link_key (without_source h core.sources) ++ map link_key core.masks) removes
                (λ c n. less (map link_key (without_source h core.sources)) (map link_key core.masks) c n
                (gone core.sources c n) (stay core.masks c n alone))
                (omega (
                  arith,
                  length-append (map link_key (without_source h core.sources)) (map link_key core.masks),
                  length-map (without_source h core.sources) link_key,
                  length-map core.masks link_key,
                  one_less (λ s. s.handle) h 0 core.sources rises live,
                  link_count,
                ));
          }
      by_kind true rises live alone =
          record {
            of_devices = old.of_devices;
            of_contexts = owned_untracked most_of_contexts l (context_handles core) (link_keys core) old.of_contexts new h
                (map link_key core.sources ++ map link_key (without_source h core.masks)) removes
                (λ c n. less (map link_key core.sources) (map link_key (without_source h core.masks)) c n
                (stay core.sources c n alone) (gone core.masks c n))
                (omega (
                  arith,
                  length-append (map link_key core.sources) (map link_key (without_source h core.masks)),
                  length-map (without_source h core.masks) link_key,
                  length-map core.sources link_key,
                  one_less (λ s. s.handle) h 0 core.masks rises live,
                  link_count,
                ));
          }

-- the context at a place is written, which keeps its handle and its device: all tables are kept
pub kept_in : (s : Inside) (core : CoreState) (place : ℕ) (x y : Context) → IsKept s → tables_of s ≡ core
    → slice_get core.contexts place ≡ Some x → y.handle ≡ x.handle → y.device ≡ x.device
    → (HasFewLayers x → HasFewLayers y)
    → IsKept (record s { contexts = with_item s.contexts place y })
kept_in s core place x y kept is at handle device few =
    record {
      devices = kept.devices;
      contexts = kept.contexts;
      sources = kept.sources;
      masks = kept.masks;
      layers = each_set HasFewLayers s.contexts.items place y kept.layers (few (each_at HasFewLayers s.contexts.items place x kept.layers
          (subst (λ k. slice_get k.contexts place ≡ Some x) (sym is) at)));
      tracked = context_written s.members s.linked (tables_of s) kept.tracked place x y
          (subst (λ k. slice_get k.contexts place ≡ Some x) (sym is) at) handle device;
    }

-- what is tracked is what the objects are seen as
pub tracked_as : (s : Inside) (core : CoreState) → IsKept s → tables_of s ≡ core → AreTracked s.members s.linked core
tracked_as s core kept is = subst (AreTracked s.members s.linked) is kept.tracked
