-- What a call of composition leaves and answers.
use Rattle.std.specs.Prelude.{◌≡◌, ℕ, Bool, List, IfSome, IsSome, IsTrue, Option, Result, pos}
use Rattle.wf_words.specs.Refusals.{◌>>=◌}
use Rattle.wf_pixel.specs.Choice.{is_between}
use Rattle.wf_stream.specs.Streams.{KeptStream, StoreView}
use Rattle.wf_model.specs.Names.{core_names}
use Rattle.wf_calls.specs.declared.call.Call.{Call}
use Rattle.wf_calls.specs.declared.call.Call.TheVariants as call
use Rattle.wf_calls.specs.declared.reply.Refusal.{Refusal}
use Rattle.wf_calls.specs.declared.reply.Reply.{Reply}
use Rattle.wf_model.specs.Composition.{CoreSide, core_answer}
use Rattle.wf_model.specs.Objects.{CoreState}
use Rattle.wf_model.specs.Outcome.{Outcome}
use Rattle.wf_model.specs.Sides as sides
use Rattle.wf_model.specs.Sides.{KeepsAll}
use Rattle.wf_objects.specs.Fits.{Fits}
use Rattle.wf_model.specs.Fitting.{IsOfPixels}
use Rattle.wf_objects.specs.Does.{Does}
use Rattle.wf_objects.specs.Sides.{KeepsRest, core_side_of}

-- what a creation asks for, once its own refusals are behind it, is made of what was found; or the creation is refused
abbrev pub Asks : {A : Type 0} → (Bool → CoreSide → Outcome CoreSide) → (A → Bool → CoreSide → Outcome CoreSide) → CoreSide
    → Result A Refusal → Type 0
Asks plain made w found = (m : Bool) → plain m w ≡ (found >>= (λ x. made x m w))

-- a call that names a device, with its reply: it leaves and answers what the plain call does, and keeps so much of the store
abbrev pub Steps : ℕ → (Bool → CoreSide → Outcome CoreSide) → (StoreView → StoreView → Type 0) → CoreState → CoreState → StoreView
    → StoreView → Reply → Type 0
Steps device plain Keeps core left store now reply =
    sides.Steps core_side_of core_names Fits plain (core_answer device) Keeps core left store now reply

-- what was done is answered: the call steps so from where it was made
abbrev pub StepsOn : ℕ → CoreState → CoreState → StoreView → Result ℕ Refusal → Reply → Type 0
StepsOn device done left now result reply =
    (plain : Bool → CoreSide → Outcome CoreSide) (core : CoreState) (store : StoreView) → Does plain core done store now result
    → Steps device plain KeepsRest core left store now reply

-- the same of what changed nothing of the store
abbrev pub KeepsAnswer : ℕ → CoreState → CoreState → StoreView → Result ℕ Refusal → Reply → Type 0
KeepsAnswer device done left now result reply =
    (plain : Bool → CoreSide → Outcome CoreSide) (core : CoreState) → Does plain core done now now result
    → Steps device plain KeepsAll core left now now reply

-- a screen is given for a port from 1 to 4 alone
abbrev pub IsOfPort : Call → Option ℕ → Type 0
IsOfPort (call.ScreenContext d port) screen = IsSome screen → IsTrue (is_between (pos 1) (pos 4) port)
IsOfPort _ screen = Unit {0}

-- the screen that a call is given: it is of the port that the call names, and a stream of pixels where it is kept
abbrev pub IsGiven : Call → Option ℕ → List KeptStream → Type 0
IsGiven c screen streams = IsOfPort c screen × IfSome screen (IsOfPixels streams)
