-- What a status says, drawn from what it says of the input, or of the script that was made.
use Rattle.std.proofs.Common.{◌≡◌, ◌∙◌, ◌⊎◌, ℕ, Bool, inl, inr, List, Option, Some, None, Ok, Err, refl, sym, arith}
use Rattle.std.specs.Prelude.{IfSome}
use Rattle.wf_io.specs.Causes.{Rose}
use Rattle.wf_calls.specs.declared.order.Turn.{Turn}
use Rattle.wf_film.specs.declared.form.FilmForm.{FilmForm}
use Rattle.wf_play.specs.Big.{SaysOfBig}
use Rattle.wf_play.specs.Events.{SaysOfLog}
use Rattle.wf_play.proofs.Checks.{all_told}
use Rattle.wf_play.proofs.Logs.{all_logs}
use Rattle.wf_play.proofs.Sessions.{all_answered}
use Rattle.wf_play.specs.Report.{CompletesIn, IsCaused, IsComplete, SaysOfInput, SaysOfRead}
use Rattle.wf_play.specs.Sessions.{SaysOfSession}
use Rattle.wf_play.specs.declared.report.Status.{Status}
use Rattle.wf_play.specs.declared.report.Status.TheVariants as status
use Rattle.wf_command.specs.declared.asked.Mode.{Mode}
use Rattle.wf_command.specs.declared.asked.Mode.TheVariants as mode

module _ {O : Type 0} (took : O → List ℕ → Type 0) (old new : O) (order : List Turn) (IsWhole : List ℕ → Type 0)
    (IsCut : List ℕ → ℕ → Type 0) where
  abbrev Says : List ℕ → Status → Type 0
  Says = SaysOfRead took old new order IsWhole IsCut

  -- with Done, all was put
  pub done_says : (o : Option (List ℕ)) (s : Status) → IfSome o (λ bytes. Says bytes s)
      → IfSome o (λ bytes. s ≡ status.Done → IsWhole bytes)
  done_says None s says = tt
  done_says (Some bytes) s says = λ is. (rw is at says).1

  one_complete : (a b c d : ℕ) (bytes : List ℕ) (s : Status) → (s ≡ status.Usage → ⊥) → Says bytes s
      → IsCaused a b c d s → IsComplete bytes a b c d s
  one_complete a b c d bytes status.Done accepted says caused = λ script stands within calm quiet. inl refl
  one_complete a b c d bytes status.Usage accepted says caused = absurd (accepted refl)
  one_complete a b c d bytes status.ReadFault accepted says caused = λ script stands within calm quiet. absurd (calm caused)
  one_complete a b c d bytes status.TooLong accepted says caused =
      λ script stands within calm quiet. absurd (omega (arith, says, within))
  one_complete a b c d bytes (status.Refused line rule) accepted says caused =
      λ script stands within calm quiet. absurd (let no : Ok script ≡ Err says.1.0 = sym stands ∙ says.1.1.0 in cc)
  one_complete a b c d bytes (status.WriteFault written) accepted says caused = λ script stands within calm quiet. absurd (quiet caused)
  one_complete a b c d bytes (status.Differs at) accepted says caused = absurd says
  one_complete a b c d bytes (status.BadOrder entry) accepted says caused = absurd says
  one_complete a b c d bytes (status.BadFilm at rule) accepted says caused = absurd says
  one_complete a b c d bytes (status.BadMessage at rule) accepted says caused = absurd says
  one_complete a b c d bytes (status.Quota at) accepted says caused = absurd says
  one_complete a b c d bytes status.NoMemory accepted says caused = λ script stands within calm quiet. inr refl

  -- without a fault, a script within the limit comes to Done, or to NoMemory
  all_complete : (a b c d : ℕ) (o : Option (List ℕ)) (s : Status) → (s ≡ status.Usage → ⊥)
      → IfSome o (λ bytes. Says bytes s) → IsCaused a b c d s → IfSome o (λ bytes. IsComplete bytes a b c d s)
  all_complete a b c d None s accepted says caused = tt
  all_complete a b c d (Some bytes) s accepted says caused = one_complete a b c d bytes s accepted says caused

-- and so does a script that is made
made_complete : {O : Type 0} (took : O → List ℕ → Type 0) (old new : O) (form : FilmForm) (size : ℕ) (order : List Turn) (a b c d : ℕ)
    (s : Status) → SaysOfBig took old new form size order s → IsCaused a b c d s → ¬ Rose c d → (s ≡ status.Done) ⊎ (s ≡ status.NoMemory)
made_complete took old new form size order a b c d status.Done says caused quiet = inl refl
made_complete took old new form size order a b c d status.Usage says caused quiet = absurd says
made_complete took old new form size order a b c d status.ReadFault says caused quiet = absurd says
made_complete took old new form size order a b c d status.TooLong says caused quiet = absurd says
made_complete took old new form size order a b c d (status.Refused line rule) says caused quiet = absurd says
made_complete took old new form size order a b c d (status.WriteFault written) says caused quiet = absurd (quiet caused)
made_complete took old new form size order a b c d (status.Differs at) says caused quiet = absurd says
made_complete took old new form size order a b c d (status.BadOrder entry) says caused quiet = absurd says
made_complete took old new form size order a b c d (status.BadFilm at rule) says caused quiet = absurd says
made_complete took old new form size order a b c d (status.BadMessage at rule) says caused quiet = absurd says
made_complete took old new form size order a b c d (status.Quota at) says caused quiet = absurd says
made_complete took old new form size order a b c d status.NoMemory says caused quiet = inr refl

-- each mode
pub mode_completes : {O : Type 0} (took : O → List ℕ → Type 0) (old new : O) (order : List Turn) (m : Mode) (form : FilmForm)
    (threads : Bool) (size depth a b c d : ℕ) (o : Option (List ℕ)) (s : Status) → (s ≡ status.Usage → ⊥)
    → IfSome o (λ bytes. SaysOfInput took old new order m form threads bytes s)
    → (m ≡ mode.Big → SaysOfBig took old new form size order s)
    → (m ≡ mode.Events → IfSome o (λ bytes. SaysOfLog took old new depth bytes s))
    → (m ≡ mode.Session → IfSome o (λ bytes. SaysOfSession took old new bytes s)) → IsCaused a b c d s → CompletesIn m o a b c d s
mode_completes took old new order mode.Film form threads size depth a b c d o s accepted says big logged served caused =
    all_complete took old new order _ _ a b c d o s accepted says caused
mode_completes took old new order mode.Check form threads size depth a b c d o s accepted says big logged served caused =
    all_told a b c d o s accepted says caused
mode_completes took old new order mode.Print form threads size depth a b c d o s accepted says big logged served caused =
    all_complete took old new order _ _ a b c d o s accepted says caused
mode_completes took old new order mode.Big form threads size depth a b c d o s accepted says big logged served caused =
    made_complete took old new form size order a b c d s (big refl) caused
mode_completes took old new order mode.Events form threads size depth a b c d o s accepted says big logged served caused =
    all_logs took old new depth a b c d o s accepted (logged refl) caused
mode_completes took old new order mode.Session form threads size depth a b c d o s accepted says big logged served caused =
    all_answered took old new a b c d o s accepted (served refl) caused
