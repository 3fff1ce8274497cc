-- What the policy lets an app ask for.
use Rattle.std.proofs.Common.{◌≡◌, ◌∙◌, ℕ, Bool, true, false, cond, ◌==◌, List, Option, Some, None, refl, sym}
use Rattle.std.proofs.lemmas.Bool.{false_from_ne_true, true_from_ne_false}
use Rattle.wf_calls.specs.Parts.{is_begin}
use Rattle.wf_calls.specs.Requests.{call_of}
use Rattle.wf_calls.specs.declared.code.Code.{Code}
use Rattle.wf_calls.specs.declared.code.Code.TheVariants as code
use Rattle.wf_calls.specs.declared.request.Request.{Request}
use Rattle.wf_calls.specs.declared.request.Request.TheVariants as request
use Rattle.wf_guard.specs.Apps.{is_of_apps}
use Rattle.wf_guard.specs.Policy.{owns, refusal_of}
use Rattle.wf_guard.specs.Requests.{is_for_apps}
use Rattle.wf_guard.specs.declared.owners.Owned.{Owned}

-- the requests that an app may ask for are of the kinds of calls that it may make
for_apps : (r : Request) → is_for_apps r ≡ true → is_of_apps (call_of r) ≡ true
for_apps (request.StreamNew width height format buffers) may = refl
for_apps (request.StreamQueue width height format depth) may = refl
for_apps (request.StreamDestroy stream) may = refl
for_apps (request.Acquire stream) may = refl
for_apps _ may = absurd cc

-- what is let through begins no frame
pub begins_none : (client : ℕ) (owned : List Owned) (r : Request) → refusal_of client r owned ≡ None → is_begin (call_of r) ≡ false
begins_none client owned r none =
    false_from_ne_true (is_begin (call_of r))
    (λ is. (let no : Some code.Unsupported ≡ None = sym (rw is refl) ∙ none in cc))

module _ (a : ℕ) (app : (a == 0) ≡ false) (owned : List Owned) where
  -- what the policy lets through is of the kinds that an app may ask for
  pub let_through : (r : Request) → refusal_of a r owned ≡ None → is_for_apps r ≡ true
  let_through r none =
      true_from_ne_false (is_for_apps r)
      (λ is. (let no : Some code.Unsupported ≡ None = sym (rw (begins_none a owned r none, app, is) refl) ∙ none in cc))

  pub kinds_let_through : (r : Request) → refusal_of a r owned ≡ None → is_of_apps (call_of r) ≡ true
  kinds_let_through r none = for_apps r (let_through r none)

  -- and what it names is its own
  of_own : (b : Bool) → cond {A = Option Code} b None (Some code.BadHandle) ≡ None → b ≡ true
  of_own true none = refl
  of_own false none = absurd cc

  pub destroys_own : (stream : ℕ) → refusal_of a (request.StreamDestroy stream) owned ≡ None → owns a stream owned ≡ true
  destroys_own stream none = of_own (owns a stream owned) (rw app at none)

  pub acquires_own : (stream : ℕ) → refusal_of a (request.Acquire stream) owned ≡ None → owns a stream owned ≡ true
  acquires_own stream none = of_own (owns a stream owned) (rw app at none)
