-- Changes of the context at a place: each does what the plain change does.
use Rattle.std.proofs.Common.{◌≡◌, ℕ, zero, suc, Bool, true, ◌||◌, not, ℤ, List, [], ◌∷◌, map, set, slice_get, Some, OnErr, Result, Ok, Err}
use Rattle.std.proofs.Common.{refl, sym, ap, subst, ◌∙◌, flat_map, arith}
use Rattle.std.specs.List.{list_all}
use Rattle.wf_words.specs.Each.{each_at, each_set}
use Rattle.wf_words.specs.Keyed.{is_in}
use Rattle.wf_words.specs.Places.{map_set}
use Rattle.wf_words.specs.Refusals.{left_by}
use Rattle.wf_words.specs.Rising.{change_at}
use Rattle.wf_life.specs.declared.Kind.TheVariants as kind
use Rattle.wf_life.specs.Handles.{same_kind}
use Rattle.wf_stream.specs.Counts.{times}
use Rattle.wf_stream.specs.Streams.{StoreView}
use Rattle.wf_stream.specs.Names.{NamesFit, Recounts, but_names, same_counts, still_named}
use Rattle.wf_model.specs.Names.{context_names, core_names, layer_names}
use Rattle.wf_scene.specs.declared.attributes.ElementAttr.{ElementAttr}
use Rattle.wf_scene.specs.declared.attributes.Refused.{Refused}
use Rattle.wf_scene.specs.declared.Scene.{Scene}
use Rattle.wf_scene.specs.Cached as cached
use Rattle.wf_scene.specs.Cached.{CachedScene, handles}
use Rattle.wf_scene.specs.Values.{component}
use Rattle.wf_calls.specs.declared.reply.Refusal.{Refusal}
use Rattle.wf_model.specs.Objects.{Context, CoreState}
use Rattle.wf_model.specs.Outcome.{Outcome}
use Rattle.wf_model.specs.Composition.{CoreSide, change_context, with_cached}
use Rattle.wf_model.specs.Core.{linked, with_active, with_committed}
use Rattle.wf_objects.specs.Does.{Does, changed, edited_by, element_set, in_place, refuses, scene_set}
use Rattle.wf_objects.specs.Fits.{ContextFits, Fits, HasElements, context_live}
use Rattle.wf_objects.specs.Named.{renamed_fits}
use Rattle.wf_stream.specs.Renames.{Renames, named_again, then_renames}
use Rattle.wf_objects.specs.Sides.{beside, core_side_of}
use Rattle.wf_objects.proofs.NameCounts.{changed_names, committed_in, committed_times}
use Rattle.wf_objects.proofs.ChangesStillFit.{contexts_fit}
use Rattle.wf_objects.proofs.SceneCallsKeep.{Keeps}
use Rattle.wf_objects.proofs.Lookups.{rises_contexts}

-- what stands at a place, written there again
set_back : {A : Type 0} (xs : List A) (i : ℕ) (x : A) → slice_get xs i ≡ Some x → set xs i x ≡ xs
set_back [] i x at = refl
set_back (y ∷ xs) zero x at = (let same : y ≡ x = cc in ap (λ z. z ∷ xs) (sym same))
set_back (y ∷ xs) (suc i) x at = ap (λ zs. y ∷ zs) (set_back xs i x at)

-- one context replaced by another of the same handles and streams
module _ (core : CoreState) (store : StoreView) (fits : Fits core store) (place : ℕ) (c : Context)
    (at : slice_get core.contexts place ≡ Some c) where
  -- the objects with another context at the place
  abbrev pub placed : Context → CoreState
  placed x = record core { contexts = set core.contexts place x }

  pub placed_fits : (x : Context) → context_live x ≡ context_live c → handles x.cached.elements ≡ handles c.cached.elements
      → ContextFits store.streams x → Fits (placed x) store
  placed_fits x same elements fit =
      let handle : x.handle ≡ c.handle = ap (λ l. l.handle) same in
      let named : map (λ y. y.handle) (set core.contexts place x) ≡ map (λ y. y.handle) core.contexts =
      map_set (λ y. y.handle) core.contexts place c x at handle in
      contexts_fit kind.Element refl refl refl core store fits store.made store.others (set core.contexts place x)
      (record { rising = fits.handles.rising; other = λ j other. refl })
      (fits.handles.contexts ∙ sym (map_set context_live core.contexts place c x at same))
      (record {
        elements = each_set (HasElements store.others) core.contexts place x fits.handles.elements
            (rw (handle, elements) (each_at (HasElements store.others) core.contexts place c fits.handles.elements at));
        owned = subst
            (λ hs. list_all (λ l. not (same_kind l.kind kind.Element) || is_in l.key hs) store.others ≡ true)
            (sym named) fits.handles.owned;
      })
      (each_set (ContextFits store.streams) core.contexts place x fits.streams.contexts fit)

  -- the change of the context is that of its place
  pub placed_is : (f : Context → Context) → change_context c.handle f core ≡ placed (f c)
  placed_is f = ap (λ cs. record core { contexts = cs })
      (change_at (λ y. y.handle) f 0 core.contexts place c (rises_contexts core store fits.handles) at)

  done : CoreState → Outcome CoreSide
  done k = Ok (record (core_side_of core store) { core = k }, 0)

  -- what names the same streams changes no name
  same_named : (f : Context → Context) → ((y : Context) → context_names (f y) ≡ context_names y)
      → Recounts (core_names core) (core_names (placed (f c))) store store
  same_named f same = same_counts (core_names core) (core_names (placed (f c))) store
      (λ n some. ap (times n) (sym (changed_names c.handle f core same)) ∙ ap (λ k. times n (core_names k)) (placed_is f))

  -- the context alone changes
  changes : (f : Context → Context) (now : StoreView) → but_names now ≡ but_names store
      → Recounts (core_names core) (core_names (placed (f c))) store now → Fits (placed (f c)) now
      → Does (in_place place (changed f)) core (placed (f c)) store now (Ok 0)
  unfolding done
  changes f now rest names fit =
      let seen : StoreView → Outcome CoreSide = λ v. (let left : CoreSide
      × ℕ = (record (core_side_of (placed (f c)) v) { streams = store.streams }, 0) in Ok left) in
      record {
        case = rw at (ap done (placed_is f) ∙ ap seen (sym rest));
        refused = tt;
        untouched = tt;
        kept = record { numbered = ap (λ v. v.numbered) rest; others = ap (λ v. beside v.others) rest };
        names = names;
        fits = fit;
      }

  pub activates : (active : Bool)
      → Does (in_place place (changed (with_active active))) core (placed (record c { active = active })) store store
      (Ok 0)
  activates active =
      let fit = each_at (ContextFits store.streams) core.contexts place c fits.streams.contexts at in
      changes (with_active active) store refl (same_named (with_active active) (λ y. refl)) (placed_fits (record c {
        active =
            active;
      }) refl refl
      (record { target = fit.target; size = fit.size; layers = fit.layers }))

  -- the names of the committed scene are counted beside others that began
  pub committed_fit : (began : List ℕ) (mid : StoreView) → NamesFit (core_names core) store → Renames [] began store mid
      → NamesFit (flat_map layer_names c.committed.layers.items) mid
  committed_fit began mid named begins =
      still_named store mid [] began named.counted begins.names (core_names core) (flat_map layer_names c.committed.layers.items)
      (λ n some. (let a = committed_in n core place c at in omega (arith, a))) named

  -- another committed scene, whose names began before those of the one that stood there ended
  pub commits : (scene : Scene) (mid now : StoreView) → NamesFit (core_names core) store
      → ContextFits store.streams (with_committed scene c) → Renames [] (flat_map layer_names scene.layers.items) store mid
      → Renames (flat_map layer_names c.committed.layers.items) [] mid now
      → Does (in_place place (changed (with_committed scene))) core (placed (record c { committed = scene })) store now (Ok 0)
  commits scene mid now named fit begins ends =
      let left = placed (with_committed scene c) in
      let new = flat_map layer_names scene.layers.items in
      let old = flat_map layer_names c.committed.layers.items in
      let change = then_renames store mid now [] old (core_names core) (core_names left) new [] named.counted begins ends
      (λ n some. (let a = committed_times n core place c scene at in omega (arith, a))) in
      changes (with_committed scene) now change.rest change.names
      (renamed_fits left store now (core_names core) (core_names left) named.counted change
      (named_again store now (core_names core) (core_names left) named change.names)
      (placed_fits (with_committed scene c) refl refl fit))

  -- another cached scene of the same elements and size
  scene_fits : (s : CachedScene) → Keeps c.cached s → Fits (placed (record c { cached = s })) store
  scene_fits s keeps =
      let fit = each_at (ContextFits store.streams) core.contexts place c fits.streams.contexts at in
      placed_fits (record c { cached = s }) refl keeps.0
      (record { target = rw keeps.1 fit.target; size = fit.size ∙ sym keeps.1; layers = fit.layers })

  -- something of its cached scene is set, or refused
  pub edits : (call : CachedScene → Result CachedScene Refused) (m : Result (Unit {0}) Refused) (s : CachedScene) (r : Result ℕ Refusal)
      → call c.cached ≡ left_by m s → OnErr m (s ≡ c.cached) → ((s : CachedScene) → call c.cached ≡ Ok s → Keeps c.cached s)
      → r ≡ edited_by m
      → Does (in_place place (scene_set call)) core (placed (record c { cached = s })) store store r
  unfolding done
  edits call (Ok u) s r is same keeps answered =
      rw answered (record {
        case = rw (at, is) (ap done (placed_is (with_cached s)));
        refused = tt;
        untouched = tt;
        kept = record { numbered = refl; others = refl };
        names = same_named (with_cached s) (λ y. refl);
        fits = scene_fits s (keeps s is);
      })
  edits call (Err x) s r is same keeps answered =
      let back : placed (record c { cached = s }) ≡ core =
      ap (λ t. placed (record c { cached = t })) same
      ∙ ap (λ cs. record core { contexts = cs }) (set_back core.contexts place c at) in
      rw (answered, back) (refuses (in_place place (scene_set call)) core store _ fits (rw (at, is) refl))

  module _ (d element : ℕ) (attr : ElementAttr) (value : List ℤ) where
    -- an attribute of an element is set, whose value may be linked to it
    pub linked_first : (s : CachedScene) (r : Result ℕ Refusal) → linked attr d c.handle (component value 0) (core_side_of core store)
        ≡ Ok tt
        → Does (in_place place (scene_set (cached.set element attr value))) core (placed (record c { cached = s })) store store r
        → Does (in_place place (element_set d element attr value)) core (placed (record c { cached = s })) store store r
    linked_first s r is does =
        record {
          case = rw (at, is) (rw at at does.case);
          refused = does.refused;
          untouched = does.untouched;
          kept = does.kept;
          names = does.names;
          fits = does.fits;
        }
