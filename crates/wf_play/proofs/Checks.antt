-- What the mode `check` tells.
use Rattle.std.proofs.Common.{◌≡◌, ◌∙◌, ℕ, ◌+◌, ◌<◌, inl, inr, List, [], Option, Some, None, Ok, Err, refl, sym, arith}
use Rattle.std.proofs.Common.{length, length-append, ap, take-append-drop}
use Rattle.std.proofs.lemmas.Bool.{cases_lt}
use Rattle.std.specs.Prelude.{IfSome}
use Rattle.wf_calls.specs.declared.order.Turn.{Turn}
use Rattle.wf_check.specs.declared.verdict.Verdict.TheVariants as verdict
use Rattle.wf_play.specs.Check.{AreWithin, IsOutcome, IsTooLong, SaysOfCheck, SaysOfParts, TellsVerdict, film_limit}
use Rattle.wf_play.specs.Parts.{film_part, script_length, script_part}
use Rattle.wf_play.specs.Refusals.{script_limit}
use Rattle.wf_play.specs.Report.{IsCaused, SaysOfFilm}
use Rattle.wf_play.specs.declared.report.Status.{Status}
use Rattle.wf_play.specs.declared.report.Status.TheVariants as status

-- an input that is longer than both limits has a part that is longer than its own
pub too_long : (bytes : List ℕ) → script_limit + film_limit < length bytes → IsTooLong bytes
too_long bytes long =
    let both : length (script_part bytes) + length (film_part bytes) ≡ length bytes =
    sym (length-append (script_part bytes) (film_part bytes)) ∙ ap length (take-append-drop (script_length bytes) bytes) in
    elim (cases_lt script_limit (length (script_part bytes))) [ inl more ↦ inl more | inr most ↦ inr (omega arith) ]

-- what a status says of the parts, it says of the input
pub parts_say : (bytes : List ℕ) (s : Status) → AreWithin bytes → SaysOfParts (script_part bytes) (film_part bytes) s → SaysOfCheck bytes s
parts_say bytes status.Done within says = (within, says)
parts_say bytes status.Usage within says = tt
parts_say bytes status.ReadFault within says = tt
parts_say bytes status.TooLong within says = absurd says
parts_say bytes (status.Refused line rule) within says = (within, says)
parts_say bytes (status.WriteFault written) within says = (within, says)
parts_say bytes (status.Differs at) within says = (within, says)
parts_say bytes (status.BadOrder entry) within says = (within, says)
parts_say bytes (status.BadFilm at rule) within says = (within, says)
parts_say bytes (status.BadMessage at rule) within says = absurd says
parts_say bytes (status.Quota at) within says = absurd says
parts_say bytes status.NoMemory within says = tt

-- others do not come of the parts
pub outcome : (text film : List ℕ) (s : Status) → SaysOfParts text film s → IsOutcome s
outcome text film status.Done says = tt
outcome text film status.Usage says = says
outcome text film status.ReadFault says = says
outcome text film status.TooLong says = tt
outcome text film (status.Refused line rule) says = tt
outcome text film (status.WriteFault written) says = says
outcome text film (status.Differs at) says = tt
outcome text film (status.BadOrder entry) says = tt
outcome text film (status.BadFilm at rule) says = tt
outcome text film (status.BadMessage at rule) says = absurd says
outcome text film (status.Quota at) says = absurd says
outcome text film status.NoMemory says = tt

pub outcome_used : (s : Status) → IsOutcome s → s ≡ status.Usage → ⊥
outcome_used s comes is = rw is at comes

pub outcome_caused : (a b c d : ℕ) (s : Status) → IsOutcome s → IsCaused a b c d s
outcome_caused a b c d status.Done comes = tt
outcome_caused a b c d status.Usage comes = tt
outcome_caused a b c d status.ReadFault comes = absurd comes
outcome_caused a b c d status.TooLong comes = tt
outcome_caused a b c d (status.Refused line rule) comes = tt
outcome_caused a b c d (status.WriteFault written) comes = absurd comes
outcome_caused a b c d (status.Differs at) comes = tt
outcome_caused a b c d (status.BadOrder entry) comes = tt
outcome_caused a b c d (status.BadFilm at rule) comes = tt
outcome_caused a b c d (status.BadMessage at rule) comes = tt
outcome_caused a b c d (status.Quota at) comes = tt
outcome_caused a b c d status.NoMemory comes = tt

one_told : (a b c d : ℕ) (bytes : List ℕ) (s : Status) → (s ≡ status.Usage → ⊥) → SaysOfCheck bytes s → IsCaused a b c d s
    → TellsVerdict bytes a b s
one_told a b c d bytes status.Done accepted says caused = λ script stands within calm. inl (verdict.Same, refl)
one_told a b c d bytes status.Usage accepted says caused = absurd (accepted refl)
one_told a b c d bytes status.ReadFault accepted says caused = λ script stands within calm. absurd (calm caused)
one_told a b c d bytes status.TooLong accepted says caused = λ script stands within calm. absurd (elim says [
  | inl long ↦ omega (arith, within.script)
  | inr long ↦ omega (arith, within.film)
])
one_told a b c d bytes (status.Refused line rule) accepted says caused =
    λ script stands within calm. absurd (let no : Ok script ≡ Err says.1.0 = sym stands ∙ says.1.1.0 in cc)
one_told a b c d bytes (status.WriteFault written) accepted says caused = absurd says.1
one_told a b c d bytes (status.Differs at) accepted says caused = λ script stands within calm. inl (verdict.Differs at, refl)
one_told a b c d bytes (status.BadOrder entry) accepted says caused = λ script stands within calm. inl (verdict.BadOrder entry, refl)
one_told a b c d bytes (status.BadFilm at rule) accepted says caused = λ script stands within calm. inl (verdict.BadFilm at rule, refl)
one_told a b c d bytes (status.BadMessage at rule) accepted says caused = absurd says.1
one_told a b c d bytes (status.Quota at) accepted says caused = absurd says.1
one_told a b c d bytes status.NoMemory accepted says caused = λ script stands within calm. inr refl

-- without a fault, a script and a film within their limits come to a verdict, or to NoMemory
pub all_told : (a b c d : ℕ) (o : Option (List ℕ)) (s : Status) → (s ≡ status.Usage → ⊥) → IfSome o (λ bytes. SaysOfCheck bytes s)
    → IsCaused a b c d s → IfSome o (λ bytes. TellsVerdict bytes a b s)
all_told a b c d None s accepted says caused = tt
all_told a b c d (Some bytes) s accepted says caused = one_told a b c d bytes s accepted says caused

-- a check puts nothing, so no fault of a film stops it
pub caused_so : (a b c d : ℕ) (s : Status) → IsCaused a b 0 0 s → IsCaused a b c d s
caused_so a b c d status.Done caused = tt
caused_so a b c d status.Usage caused = tt
caused_so a b c d status.ReadFault caused = caused
caused_so a b c d status.TooLong caused = tt
caused_so a b c d (status.Refused line rule) caused = tt
caused_so a b c d (status.WriteFault written) caused = absurd (omega (arith, caused))
caused_so a b c d (status.Differs at) caused = tt
caused_so a b c d (status.BadOrder entry) caused = tt
caused_so a b c d (status.BadFilm at rule) caused = tt
caused_so a b c d (status.BadMessage at rule) caused = tt
caused_so a b c d (status.Quota at) caused = tt
caused_so a b c d status.NoMemory caused = tt

pub nothing_put : {O : Type 0} (took : O → List ℕ → Type 0) (old : O) (order : List Turn) (a b : ℕ) (s : Status) → order ≡ []
    → IsCaused a b 0 0 s → SaysOfFilm took old old order s
nothing_put took old order a b status.Done none caused = tt
nothing_put took old order a b status.Usage none caused = (λ before puts. puts, none)
nothing_put took old order a b status.ReadFault none caused = (λ before puts. puts, none)
nothing_put took old order a b status.TooLong none caused = (λ before puts. puts, none)
nothing_put took old order a b (status.Refused line rule) none caused = (λ before puts. puts, none)
nothing_put took old order a b (status.WriteFault written) none caused = absurd (omega (arith, caused))
nothing_put took old order a b (status.Differs at) none caused = (λ before puts. puts, none)
nothing_put took old order a b (status.BadOrder entry) none caused = (λ before puts. puts, none)
nothing_put took old order a b (status.BadFilm at rule) none caused = (λ before puts. puts, none)
nothing_put took old order a b (status.BadMessage at rule) none caused = (λ before puts. puts, none)
nothing_put took old order a b (status.Quota at) none caused = (λ before puts. puts, none)
nothing_put took old order a b status.NoMemory none caused = (λ before puts. puts, none)
