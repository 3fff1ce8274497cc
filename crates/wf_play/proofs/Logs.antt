-- What the mode `events` tells.
use Rattle.std.proofs.Common.{◌≡◌, ◌∙◌, ℕ, inl, inr, List, [], Option, Some, None, Ok, Err, refl, sym, ap, subst, arith}
use Rattle.std.specs.Prelude.{◌≢◌, IfSome}
use Rattle.wf_calls.specs.declared.order.Turn.{Turn}
use Rattle.wf_film.specs.Film.{PlainFilm}
use Rattle.wf_film.specs.Stands.{Stands as FilmStands}
use Rattle.wf_film.proofs.FilmLaws.{one_film}
use Rattle.wf_script.specs.Grammar.{Stands}
use Rattle.wf_script.specs.Script.{PlainScript}
use Rattle.wf_check.specs.declared.verdict.Verdict.{Verdict}
use Rattle.wf_check.specs.declared.verdict.Verdict.TheVariants as verdict
use Rattle.wf_check.specs.Verdicts.{IsSame, Says}
use Rattle.wf_check.proofs.OneVerdict.{one_verdict}
use Rattle.wf_play.specs.Check.{AreWithin, IsJudged, SaysOfParts}
use Rattle.wf_play.specs.Events.{HasNoLog, IsLogOf, LogsAll, PutsLog, SaysOfLog}
use Rattle.wf_play.specs.Parts.{film_part, script_part}
use Rattle.wf_play.specs.Report.{IsCaused, SaysOfFilm}
use Rattle.wf_play.specs.declared.report.Status.{Status}
use Rattle.wf_play.specs.declared.report.Status.TheVariants as status

-- the journal of a film that was read is that of the film that is found the same
pub own_order : (script : PlainScript) (bytes : List ℕ) (plain : PlainFilm) (order : List Turn) → FilmStands bytes plain
    → order ≡ plain.order → (same : IsSame script bytes) → order ≡ same.film.order
own_order script bytes plain order stands is same = is ∙ ap (λ f. f.order) (one_film bytes plain same.film stands same.stands)

-- the status of parts of which there is a log or none

-- there is none of a film that is not found the same
pub no_log_says : (text film : List ℕ) (script : PlainScript) (s : Status) → Stands text script → HasNoLog script film s
    → SaysOfParts text film s × (s ≢ status.Done)
no_log_says text film script status.Done stands none = absurd none
no_log_says text film script status.Usage stands none = absurd none
no_log_says text film script status.ReadFault stands none = absurd none
no_log_says text film script status.TooLong stands none = absurd none
no_log_says text film script (status.Refused line rule) stands none = absurd none
no_log_says text film script (status.WriteFault written) stands none = absurd none
no_log_says text film script (status.Differs at) stands none =
    (record { script = script; stands = stands; says = none }, λ is. absurd cc)
no_log_says text film script (status.BadOrder entry) stands none =
    (record { script = script; stands = stands; says = none }, λ is. absurd cc)
no_log_says text film script (status.BadFilm at rule) stands none =
    (record { script = script; stands = stands; says = none }, λ is. absurd cc)
no_log_says text film script (status.BadMessage at rule) stands none = absurd none
no_log_says text film script (status.Quota at) stands none = absurd none
no_log_says text film script status.NoMemory stands none = (tt, λ is. absurd cc)

module _ {O : Type 0} (took : O → List ℕ → Type 0) (old new : O) where
  -- a log that is put says what the input is
  pub put_says : (depth : ℕ) (input bytes : List ℕ) (s : Status) → AreWithin input
      → IsLogOf depth (script_part input) (film_part input) bytes → PutsLog took old new bytes s → SaysOfLog took old new depth input s
  put_says depth input bytes status.Done within is puts = (within, (bytes, (is, puts)))
  put_says depth input bytes status.Usage within is puts = absurd puts
  put_says depth input bytes status.ReadFault within is puts = absurd puts
  put_says depth input bytes status.TooLong within is puts = absurd puts
  put_says depth input bytes (status.Refused line rule) within is puts = absurd puts
  put_says depth input bytes (status.WriteFault written) within is puts = (within, (bytes, (is, puts)))
  put_says depth input bytes (status.Differs at) within is puts = absurd puts
  put_says depth input bytes (status.BadOrder entry) within is puts = absurd puts
  put_says depth input bytes (status.BadFilm at rule) within is puts = absurd puts
  put_says depth input bytes (status.BadMessage at rule) within is puts = absurd puts
  put_says depth input bytes (status.Quota at) within is puts = absurd puts
  put_says depth input bytes status.NoMemory within is puts = absurd puts

  -- a source that was read has no part in it
  pub put_caused : (bytes : List ℕ) (a b c d : ℕ) (s : Status) → PutsLog took old new bytes s → IsCaused 0 0 c d s → IsCaused a b c d s
  put_caused bytes a b c d status.Done puts caused = tt
  put_caused bytes a b c d status.Usage puts caused = absurd puts
  put_caused bytes a b c d status.ReadFault puts caused = absurd puts
  put_caused bytes a b c d status.TooLong puts caused = absurd puts
  put_caused bytes a b c d (status.Refused line rule) puts caused = absurd puts
  put_caused bytes a b c d (status.WriteFault written) puts caused = caused
  put_caused bytes a b c d (status.Differs at) puts caused = absurd puts
  put_caused bytes a b c d (status.BadOrder entry) puts caused = absurd puts
  put_caused bytes a b c d (status.BadFilm at rule) puts caused = absurd puts
  put_caused bytes a b c d (status.BadMessage at rule) puts caused = absurd puts
  put_caused bytes a b c d (status.Quota at) puts caused = absurd puts
  put_caused bytes a b c d status.NoMemory puts caused = absurd puts

  pub put_used : (bytes : List ℕ) (s : Status) → PutsLog took old new bytes s → s ≢ status.Usage
  put_used bytes s puts is = rw is at puts

  -- where there is none, the status is that of a check
  pub none_says : (depth : ℕ) (input : List ℕ) (s : Status) → AreWithin input → SaysOfParts (script_part input) (film_part input) s
      → s ≢ status.Done → SaysOfLog took old new depth input s
  none_says depth input status.Done within says other = absurd (other refl)
  none_says depth input status.Usage within says other = tt
  none_says depth input status.ReadFault within says other = tt
  none_says depth input status.TooLong within says other = absurd says
  none_says depth input (status.Refused line rule) within says other = (within, says)
  none_says depth input (status.WriteFault written) within says other = absurd says
  none_says depth input (status.Differs at) within says other = (within, says)
  none_says depth input (status.BadOrder entry) within says other = (within, says)
  none_says depth input (status.BadFilm at rule) within says other = (within, says)
  none_says depth input (status.BadMessage at rule) within says other = absurd says
  none_says depth input (status.Quota at) within says other = absurd says
  none_says depth input status.NoMemory within says other = tt

-- and nothing is put
pub none_put : {O : Type 0} (took : O → List ℕ → Type 0) (old : O) (text film : List ℕ) (s : Status) → SaysOfParts text film s
    → SaysOfFilm took old old [] s
none_put took old text film status.Done says = tt
none_put took old text film status.Usage says = absurd says
none_put took old text film status.ReadFault says = absurd says
none_put took old text film status.TooLong says = absurd says
none_put took old text film (status.Refused line rule) says = (λ before puts. puts, refl)
none_put took old text film (status.WriteFault written) says = absurd says
none_put took old text film (status.Differs at) says = (λ before puts. puts, refl)
none_put took old text film (status.BadOrder entry) says = (λ before puts. puts, refl)
none_put took old text film (status.BadFilm at rule) says = (λ before puts. puts, refl)
none_put took old text film (status.BadMessage at rule) says = absurd says
none_put took old text film (status.Quota at) says = absurd says
none_put took old text film status.NoMemory says = (λ before puts. puts, refl)

-- without a fault, a film that is found the same comes to Done, or to NoMemory

-- a film that is found the same is not found otherwise
not_otherwise : (text film : List ℕ) (script : PlainScript) (v : Verdict) → Stands text script → IsSame script film
    → IsJudged text film v → verdict.Same ≡ v
not_otherwise text film script v stands same judged =
    let both : Ok judged.script ≡ Ok script = sym judged.stands ∙ stands in
    let own : judged.script ≡ script = cc in
    one_verdict script film verdict.Same v same (subst (λ t. Says t film v) own judged.says)

module _ {O : Type 0} (took : O → List ℕ → Type 0) (old new : O) (depth : ℕ) where
  one_logs : (a b c d : ℕ) (bytes : List ℕ) (s : Status) → s ≢ status.Usage → SaysOfLog took old new depth bytes s → IsCaused a b c d s
      → LogsAll bytes a b c d s
  one_logs a b c d bytes status.Done accepted says caused = λ script stands within same calm quiet. inl refl
  one_logs a b c d bytes status.Usage accepted says caused = absurd (accepted refl)
  one_logs a b c d bytes status.ReadFault accepted says caused = λ script stands within same calm quiet. absurd (calm caused)
  one_logs a b c d bytes status.TooLong accepted says caused = λ script stands within same calm quiet. absurd (elim says [
    | inl long ↦ omega (arith, within.script)
    | inr long ↦ omega (arith, within.film)
  ])
  one_logs a b c d bytes (status.Refused line rule) accepted says caused =
      λ script stands within same calm quiet. absurd (let no : Ok script ≡ Err says.1.0 = sym stands ∙ says.1.1.0 in cc)
  one_logs a b c d bytes (status.WriteFault written) accepted says caused = λ script stands within same calm quiet. absurd (quiet caused)
  one_logs a b c d bytes (status.Differs at) accepted says caused =
      λ script stands within same calm quiet.
      absurd (let no = not_otherwise (script_part bytes) (film_part bytes) script (verdict.Differs at) stands same says.1 in cc)
  one_logs a b c d bytes (status.BadOrder entry) accepted says caused =
      λ script stands within same calm quiet.
      absurd (let no = not_otherwise (script_part bytes) (film_part bytes) script (verdict.BadOrder entry) stands same says.1 in cc)
  one_logs a b c d bytes (status.BadFilm at rule) accepted says caused =
      λ script stands within same calm quiet.
      absurd (let no = not_otherwise (script_part bytes) (film_part bytes) script (verdict.BadFilm at rule) stands same says.1 in cc)
  one_logs a b c d bytes (status.BadMessage at rule) accepted says caused = absurd says.1
  one_logs a b c d bytes (status.Quota at) accepted says caused = absurd says.1
  one_logs a b c d bytes status.NoMemory accepted says caused = λ script stands within same calm quiet. inr refl

  pub all_logs : (a b c d : ℕ) (o : Option (List ℕ)) (s : Status) → s ≢ status.Usage
      → IfSome o (λ bytes. SaysOfLog took old new depth bytes s) → IsCaused a b c d s → IfSome o (λ bytes. LogsAll bytes a b c d s)
  all_logs a b c d None s accepted says caused = tt
  all_logs a b c d (Some bytes) s accepted says caused = one_logs a b c d bytes s accepted says caused
