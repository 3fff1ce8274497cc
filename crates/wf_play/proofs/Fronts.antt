-- What was put where a sink failed.
use Rattle.std.proofs.Common.{◌≡◌, ℕ, ◌-◌, inl, inr, List, length, take, Result, Ok, Err, arith, length-take}
use Rattle.std.specs.Result.{IfErr, OnOk}
use Rattle.wf_io.specs.declared.writing.WriteStop.{WriteStop}
use Rattle.wf_io.specs.Bytes.{Puts, PutsPart}
use Rattle.wf_io.specs.Causes.{HasCause}
use Rattle.wf_calls.specs.declared.order.Turn.{Turn}
use Rattle.wf_script.specs.Script.{PlainScript}
use Rattle.wf_film.specs.declared.form.FilmForm.{FilmForm}
use Rattle.wf_turn.specs.Films.{IsCutFilm}
use Rattle.wf_play.specs.Notes.{PutsOrFront}

-- as many bytes were put as are told
pub as_many : {S : Type 0} (took : S → List ℕ → Type 0) (a b : S) (bytes : List ℕ) (written : ℕ) → PutsPart took a b 0 bytes written
    → (front : List ℕ) × (length front ≡ written) × Puts took a b front
as_many took a b bytes written part = (take (written - 0) bytes, omega (arith, length-take (written - 0) bytes, part.short), part.front)

pub cut_many : {S : Type 0} (took : S → List ℕ → Type 0) (a b : S) (form : FilmForm) (script : PlainScript) (order : List Turn)
    (written : ℕ) → IsCutFilm took a b form script order written → (front : List ℕ) × (length front ≡ written) × Puts took a b front
cut_many took a b form script order written cut =
    elim cut.cut [
      | inl magic ↦ as_many took a b _ written magic.put
      | inr later ↦ elim later [ inl frame ↦ as_many took a b _ written frame.put | inr journal ↦ as_many took a b _ written journal.put ]
    ]

-- a line was put, or a front of it
pub put_front : {N : Type 0} (took : N → List ℕ → Type 0) (old new : N) (before now : ℕ) (bytes : List ℕ) (r : Result (Unit {0}) WriteStop)
    → OnOk r (Puts took old new bytes) → IfErr r (λ stop. PutsPart took old new 0 bytes stop.written) → HasCause before now r
    → PutsOrFront took old new before now bytes
put_front took old new before now bytes (Ok _) all part cause = inl all
put_front took old new before now bytes (Err stop) all part cause =
    inr (cause.failed, (stop.written - 0, (omega (arith, part.short), part.front)))
