-- A tick that was heard or cut, and a message whose answers were put or cut.
use Rattle.std.proofs.Common.{◌≡◌, ℕ, ◌==◌, true, List, ◌∷◌, length, refl, sym}
use Rattle.std.specs.Prelude.{OnErr, OnOk, Result, Ok, Err}
use Rattle.wf_guard.specs.Serving.{Served}
use Rattle.wf_io.specs.Bytes.{Puts}
use Rattle.wf_serve.specs.Heard.{Hears}
use Rattle.wf_serve.specs.Steps.{TicksIf}
use Rattle.wf_serve.specs.Putting.{PutsFront, Writes}
use Rattle.wf_serve.specs.Runs.{HearsContent}
use Rattle.wf_serve.specs.Ticks.{ticked}
use Rattle.wf_serve.proofs.Puttings.{no_front, whole_front}

module _ {K E : Type 0} (took : K → List ℕ → Type 0) (frames now : K) (client : ℕ) (body : List ℕ) (old new : Served) (ans : List ℕ)
    (none : (length body == 0) ≡ true) where
  pub tick_heard : (r : Result (Unit {0}) E) → OnOk r (new ≡ (ticked old).now) → OnOk r (ans ≡ (ticked old).answers)
      → Writes took frames now (ticked old).frames r
      → OnOk r ((fs : List ℕ) × TicksIf (length body == 0) client old new ans fs × Puts took frames now fs)
  tick_heard (Ok done) left answers put = ((ticked old).frames, rw none (left, answers, refl), put)
  tick_heard (Err stop) left answers put = tt

  pub tick_cut : (r : Result (Unit {0}) E) → Writes took frames now (ticked old).frames r
      → OnErr r ((after : Served) × (as_told : List ℕ) × (fs : List ℕ) × TicksIf (length body == 0) client old after as_told fs
      × PutsFront took frames now fs)
  tick_cut (Ok done) put = tt
  tick_cut (Err stop) put = ((ticked old).now, (ticked old).answers, (ticked old).frames, rw none (refl, refl, refl), put)

module _ {K F : Type 0} (took : K → List ℕ → Type 0) (showed : F → List ℕ → Type 0) (out now : K) (frames shown : F)
    (client number : ℕ) (body content : List ℕ) (parts : client ∷ number ∷ body ≡ content) (old new : Served) (ans fs : List ℕ)
    (hears : Hears client number body old new ans fs) where
  pub message_heard : {E : Type 0} → Puts showed frames shown fs → (r : Result (Unit {0}) E) → Writes took out now ans r
      → OnOk r (HearsContent content old new (λ xs. Puts took out now xs) (λ xs. Puts showed frames shown xs))
  message_heard put (Ok done) answered =
      (record { client = client; number = number; body = body }, sym parts, ans, fs, hears, answered, put)
  message_heard put (Err stop) answered = tt

  pub message_cut : {E : Type 0} → Puts showed frames shown fs → (r : Result (Unit {0}) E) → Writes took out now ans r
      → OnErr r ((after : Served) × HearsContent content old after (λ xs. PutsFront took out now xs)
      (λ xs. PutsFront showed frames shown xs))
  message_cut put (Ok done) answered = tt
  message_cut put (Err stop) answered = (
    new,
    (
      record { client = client; number = number; body = body },
      sym parts,
      ans,
      fs,
      hears,
      answered,
      whole_front showed frames shown fs put,
    ),
  )

  pub pictures_cut : PutsFront showed frames shown fs
      → (after : Served) × HearsContent content old after (λ xs. PutsFront took out out xs) (λ xs. PutsFront showed frames shown xs)
  pictures_cut put =
      (new, (record { client = client; number = number; body = body }, sym parts, ans, fs, hears, no_front took out ans, put))
