-- The context at a place that was found is the one that the call names.
use Rattle.std.proofs.Common.{◌≡◌, ℕ, ◌<◌, length, true, false, ◌&&◌, ◌||◌, ◌==◌, is_some, slice_get, slice_index_or, option_and_then}
use Rattle.std.proofs.Common.{Option, Some, None, IfSome, refl, sym, ap, ◌∙◌}
use Rattle.std.specs.List.{list_any}
use Rattle.std.proofs.lemmas.Bool.{and_parts, eqb-true}
use Rattle.std.proofs.lemmas.Option.{slice_get_read}
use Rattle.wf_words.specs.Found.{any_found, passes}
use Rattle.wf_words.specs.Places.{within}
use Rattle.wf_scene.specs.Cached.{has_element}
use Rattle.wf_model.specs.Objects.{Context, CoreState}
use Rattle.wf_model.specs.Composition.{CoreSide}
use Rattle.wf_model.specs.Core.{is_element_or_0}
use Rattle.wf_objects.specs.Owners.{LivesAt, StandsAt, of_device, of_element}

module _ (d : ℕ) (core : CoreState) where
  -- a place that was found by a handle is of the context that has it
  pub found_here : (h : ℕ) (o : Option ℕ) → option_and_then (slice_get core.contexts) o ≡ of_device d h core.contexts
      → IfSome o (λ place. StandsAt h place core)
  found_here h None is = tt
  found_here h (Some place) is = of_context (slice_get core.contexts place) is
    where
      of_context : (x : Option Context) → x ≡ of_device d h core.contexts → IfSome x (λ c. c.handle ≡ h)
      of_context None at = tt
      of_context (Some c) at = eqb-true c.handle h (and_parts (c.handle == h) (c.device == d)
          (passes (λ x. (x.handle == h) && (x.device == d)) core.contexts c (sym at))).0

  -- and one that was found by an element of the context in which it lives
  pub found_lives : (e : ℕ) (o : Option ℕ) → option_and_then (slice_get core.contexts) o ≡ of_element d e core.contexts
      → IfSome o (λ place. LivesAt e place core)
  found_lives e None is = tt
  found_lives e (Some place) is = of_context (slice_get core.contexts place) is
    where
      of_context : (x : Option Context) → x ≡ of_element d e core.contexts → IfSome x (λ c. has_element e c.cached ≡ true)
      of_context None at = tt
      of_context (Some c) at = (and_parts (c.device == d) (has_element e c.cached)
          (passes (λ x. (x.device == d) && has_element e x.cached) core.contexts c (sym at))).1

-- the context that is read at a place
pub standing : (view core : CoreState) (place : ℕ) (x y : Context) → view ≡ core → place < length core.contexts
    → x ≡ slice_index_or view.contexts place x → y ≡ x → slice_get core.contexts place ≡ Some y
standing view core place x y is less read same =
    slice_get_read core.contexts (length core.contexts) place x refl less (read
    ∙ ap (λ cs. slice_index_or cs place x) (ap (λ k. k.contexts) is))
    ∙ ap (λ c. Some c) (sym same)

-- a handle is 0 or that of an element, by the place that was found
pub any_element : (d h : ℕ) (w : CoreSide) (o : Option ℕ) → (h == 0) ≡ false
    → option_and_then (slice_get w.core.contexts) o ≡ of_element d h w.core.contexts → IfSome o (λ place. place < length w.core.contexts)
    → is_some o ≡ is_element_or_0 d h w
any_element d h w o other found less =
    of_place o less ∙ ap is_some found ∙ sym (any_found (λ c. (c.device == d) && has_element h c.cached) w.core.contexts)
    ∙ sym (ap (λ b. b || list_any (λ c. (c.device == d) && has_element h c.cached) w.core.contexts) other)
  where
    of_place : (p : Option ℕ) → IfSome p (λ place. place < length w.core.contexts)
        → is_some p ≡ is_some (option_and_then (slice_get w.core.contexts) p)
    of_place None within-is = refl
    of_place (Some place) within-is = (let x = within w.core.contexts place within-is in ap is_some (sym x.1))
