-- What a call leaves and answers, or the first refusal that applies.
use Rattle.std.specs.Prelude.{◌≡◌, ℕ, Bool, false, List, slice_get, Option, Result, Ok, Err}
use Rattle.wf_words.specs.Refusals.{◌>>=◌, refuse_if, found_or}
use Rattle.wf_life.specs.Handles.{is_full}
use Rattle.wf_calls.specs.declared.code.Code.{Code}
use Rattle.wf_calls.specs.declared.code.Code.TheVariants as code
use Rattle.wf_calls.specs.Codes.{is_out_of_memory}
use Rattle.wf_calls.specs.declared.reply.Refusal.{Refusal}
use Rattle.wf_calls.specs.Replies.{refusal}

-- what a call leaves and the value that it answers, or its refusal
abbrev pub Outcome : Type 0 → Type 0
Outcome S = Result (S × ℕ) Refusal

-- refuse by a code where the condition holds
abbrev pub refuse : Code → Bool → Result (Unit {0}) Refusal
refuse code condition = refuse_if (refusal code) condition

-- refuse by a code where the condition holds, and answer a value with it
abbrev pub refuse_with : Code → ℕ → Bool → Result (Unit {0}) Refusal
refuse_with code value condition = refuse_if (record { code = code; value = value }) condition

-- refuse by a code where there is none
abbrev pub found : {A : Type 0} → Code → Option A → Result A Refusal
found code o = found_or (refusal code) o

-- what a body that answers so, and leaves this, has done
abbrev pub done_by : {S : Type 0} → Result ℕ Refusal → S → Outcome S
done_by (Ok value) left = Ok (left, value)
done_by (Err r) left = Err r

-- the refusal is want of memory
abbrev pub lacks_memory : {A : Type 0} → Result A Refusal → Bool
lacks_memory (Ok _) = false
lacks_memory (Err r) = is_out_of_memory r.code

-- only whether it was refused
abbrev pub without_value : {A E : Type 0} → Result A E → Result (Unit {0}) E
without_value (Ok _) = Ok tt
without_value (Err r) = Err r

-- a new handle is refused: all were given, or there is no memory
abbrev pub refused_handle : ℕ → Bool → Result (Unit {0}) Refusal
refused_handle made memory_refused = do
  _ ← refuse code.Limit (is_full made)
  refuse code.OutOfMemory memory_refused

-- what stands at a place that was found, or the refusal
abbrev pub at_place : {A : Type 0} → Result ℕ Refusal → List A → Result A Refusal
at_place (Ok place) xs = found code.BadHandle (slice_get xs place)
at_place (Err r) xs = Err r

-- this holds of what a call leaves, if it leaves anything
abbrev pub Keeps : {S : Type 0} → (S → Type 0) → Outcome S → Type 0
Keeps Holds (Ok x) = Holds x.0
Keeps Holds (Err r) = Unit {0}

-- so it is behind a step that may refuse
pub keeps_behind : {A S : Type 0} (Holds : S → Type 0) (r : Result A Refusal) (f : A → Outcome S) → ((x : A) → Keeps Holds (f x))
    → Keeps Holds (r >>= f)
keeps_behind Holds (Ok x) f keeps = keeps x
keeps_behind Holds (Err r) f keeps = tt

-- what a call leaves, if it leaves anything, has this value
abbrev pub Leaves : {S V : Type 0} → (S → V) → V → Outcome S → Type 0
Leaves of value (Ok x) = of x.0 ≡ value
Leaves of value (Err r) = Unit {0}

-- so it is behind a step that may refuse
pub behind : {A S V : Type 0} (of : S → V) (value : V) (r : Result A Refusal) (f : A → Outcome S) → ((x : A) → Leaves of value (f x))
    → Leaves of value (r >>= f)
behind of value (Ok x) f leaves = leaves x
behind of value (Err r) f leaves = tt
