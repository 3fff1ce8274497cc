-- A commit: what it does, by what the cached scene of its context gives.
use Rattle.std.proofs.Common.{◌≡◌, ℕ, IsTrue, slice_get, Some, Result, Ok, Err, refl, sym, ap, ◌∙◌}
use Rattle.std.specs.List.{list_all}
use Rattle.wf_words.specs.Each.{each_at}
use Rattle.wf_words.specs.Refusals.{◌>>=◌}
use Rattle.wf_stream.specs.Streams.{StoreView}
use Rattle.wf_scene.specs.Cached.{CachedScene}
use Rattle.wf_scene.specs.Consistent.{consistent}
use Rattle.wf_scene.specs.Layers.{is_placed_layer}
use Rattle.wf_scene.specs.declared.Scene.{Scene}
use Rattle.wf_scene.specs.declared.look.Fault.{Fault}
use Rattle.wf_calls.specs.declared.reply.Refusal.{Refusal}
use Rattle.wf_model.specs.Objects.{Context, CoreState}
use Rattle.wf_model.specs.Composition.{change_context, sight_of}
use Rattle.wf_model.specs.Core.{commit, fault_as_refusal, with_committed}
use Rattle.wf_objects.specs.Does.{Does, Step, as_other, changed, in_owned, in_place, refuses}
use Rattle.wf_objects.specs.Fits.{ContextFits, Fits}
use Rattle.wf_objects.specs.Owners.{StandsAt, owned_context}
use Rattle.wf_model.specs.Outcome.{at_place}
use Rattle.wf_objects.specs.Sides.{core_side_of}
use Rattle.wf_objects.specs.Sights.{sight_in, sights}
use Rattle.wf_core.proofs.LayersFit.{consistent_fits}

-- the scene that its cached scene gives is committed
abbrev taken : Step
taken handle m c w = fault_as_refusal (consistent (sight_of w) c.cached)
    >>= (λ scene. Ok (record w { core = change_context handle (with_committed scene) w.core }, 0))

module _ (core : CoreState) (store : StoreView) (fits : Fits core store) (place : ℕ) (c : Context)
    (stands : slice_get core.contexts place ≡ Some c) (scene : CachedScene) (same : c.cached ≡ scene) where
  -- what is told of the scene is told of that of the context
  told : (m : Result Scene Refusal) → m ≡ fault_as_refusal (consistent (sight_in store) scene)
      → fault_as_refusal (consistent (sight_of (core_side_of core store)) c.cached) ≡ m
  told m is =
      ap (λ s. fault_as_refusal (consistent (sight_of (core_side_of core store)) s)) same
      ∙ sym (ap (λ sight. fault_as_refusal (consistent sight scene)) (sights core store fits.handles)) ∙ sym is

  -- the context with the scene that is taken fits
  pub scene_fits : (s : Scene) → Ok s ≡ fault_as_refusal (consistent (sight_in store) scene)
      → IsTrue (list_all is_placed_layer s.layers.items)
      → ContextFits store.streams (with_committed s c)
  scene_fits s is placed =
      let sound = consistent_fits core store fits c.cached s (without_code (consistent (sight_of (core_side_of core store)) c.cached)
      (told (Ok s) is)) placed in
      let fit = each_at (ContextFits store.streams) core.contexts place c fits.streams.contexts stands in
      record { target = fit.target; size = sound.0; layers = sound.1 }
    where
      without_code : (m : Result Scene Fault) → fault_as_refusal m ≡ Ok s → m ≡ Ok s
      without_code (Ok t) at = (let same : t ≡ s = cc in ap (λ x. Ok x) same)
      without_code (Err f) at = absurd cc

  module _ (d h : ℕ) (at : at_place (Ok place) core.contexts ≡ owned_context d h (core_side_of core store))
      (here : StandsAt h place core) where
    pub commit_refused : (r : Refusal) → Err r ≡ fault_as_refusal (consistent (sight_in store) scene)
        → Does (λ _. commit d h) core core store store (Err r)
    commit_refused r is =
        in_owned place taken core core store store (Err r)
        (refuses (in_place place taken) core store r fits (rw (stands, told (Err r) is) refl)) d h at here

    pub commit_taken : (s : Scene) → Ok s ≡ fault_as_refusal (consistent (sight_in store) scene) → (left : CoreState) (now : StoreView)
        → Does (in_place place (changed (with_committed s))) core left store now (Ok 0)
        → Does (λ _. commit d h) core left store now (Ok 0)
    commit_taken s is left now does =
        in_owned place taken core left store now (Ok 0)
        (as_other (in_place place taken) (in_place place (changed (with_committed s))) core left store now (Ok 0)
        (λ m. rw (stands, told (Ok s) is) refl) does) d h at here
