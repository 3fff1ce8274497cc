-- What a call is about: a device, its context by a handle or by an element, or its link; and where it is kept.
use Rattle.std.specs.Prelude.{◌≡◌, ℕ, ◌<◌, length, Bool, IfSome, IsTrue, ◌&&◌, ◌==◌, List, find, slice_get, Option, Result, Ok, Err}
use Rattle.std.proofs.Common.{refl, sym, ap, ◌∙◌}
use Rattle.wf_words.specs.Places.{within}
use Rattle.wf_words.specs.Refusals.{◌>>=◌}
use Rattle.wf_stream.specs.Streams.{StoreView}
use Rattle.wf_scene.specs.Cached.{has_element}
use Rattle.wf_calls.specs.declared.code.Code.TheVariants as code
use Rattle.wf_calls.specs.declared.reply.Refusal.{Refusal}
use Rattle.wf_model.specs.Objects.{Context, CoreState}
use Rattle.wf_model.specs.Outcome.{at_place, found}
use Rattle.wf_model.specs.Composition.{CoreSide, device, context, element_context}
use Rattle.wf_model.specs.Core.{owned_source}
use Rattle.wf_objects.specs.Links.{links}
use Rattle.wf_objects.specs.Sides.{core_side_of}
use Rattle.wf_model.specs.Outcome.{without_value}

-- the context of a device with a handle, if there is one
abbrev pub of_device : ℕ → ℕ → List Context → Option Context
of_device d handle contexts = find (λ c. (c.handle == handle) && (c.device == d)) contexts

-- that in which an element lives
abbrev pub of_element : ℕ → ℕ → List Context → Option Context
of_element d handle contexts = find (λ c. (c.device == d) && has_element handle c.cached) contexts

-- what follows a check that was passed
pub passed : {A B E : Type 0} (m : Result A E) (next : Result B E) → Ok tt ≡ without_value m → (m >>= (λ _. next)) ≡ next
passed (Ok x) next is = refl
passed (Err r) next is = absurd cc

-- a live device
abbrev pub live_device : ℕ → CoreSide → Result (Unit {0}) Refusal
live_device d w = without_value (device d w)

-- a live device, and its context
abbrev pub owned_context : ℕ → ℕ → CoreSide → Result Context Refusal
owned_context d handle w = do
  _ ← device d w
  context d handle w

-- a live device, and its context in which an element lives
abbrev pub owning_context : ℕ → ℕ → CoreSide → Result Context Refusal
owning_context d handle w = do
  _ ← device d w
  element_context d handle w

-- a live device, and its source or its mask
abbrev pub owned_link : Bool → ℕ → ℕ → CoreSide → Result (Unit {0}) Refusal
owned_link mask d handle w = without_value (device d w >>= (λ _. owned_source d handle (links mask w.core) w))

-- steps one after another, joined otherwise
pub joined : {A B C E : Type 0} (m : Result A E) (f : A → Result B E) (k : B → Result C E) → (m >>= (λ x. f x >>= k)) ≡ ((m >>= f) >>= k)
joined (Ok x) f k = refl
joined (Err e) f k = refl

-- the context at a place has a handle
abbrev pub StandsAt : ℕ → ℕ → CoreState → Type 0
StandsAt handle place core = IfSome (slice_get core.contexts place) (λ c. c.handle ≡ handle)

-- an element lives in the context at a place
abbrev pub LivesAt : ℕ → ℕ → CoreState → Type 0
LivesAt element place core = IfSome (slice_get core.contexts place) (λ c. IsTrue (has_element element c.cached))

-- what follows the context that a call names, where its place was found
pub past_context : {B : Type 0} (d h place : ℕ) (core : CoreState) (store : StoreView) (next : Result B Refusal)
    → at_place (Ok place) core.contexts ≡ owned_context d h (core_side_of core store) → place < length core.contexts
    → (device d (core_side_of core store) >>= (λ _. context d h (core_side_of core store) >>= (λ _. next))) ≡ next
past_context d h place core store next at less =
    let w = core_side_of core store in
    let x = within core.contexts place less in
    joined (device d w) (λ _. context d h w) (λ _. next)
    ∙ passed (owned_context d h w) next (ap without_value (sym (ap (found code.BadHandle) x.1) ∙ at))
