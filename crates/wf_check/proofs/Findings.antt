-- What is found of a film that was played again.
use Rattle.std.proofs.Common.{◌≡◌, ◌∙◌, ℕ, List, ◌∷◌, ◌++◌, length, Ok, Err, sym, ap, subst, arith}
use Rattle.std.specs.Prelude.{Result, IfOk}
use Rattle.wf_calls.specs.declared.order.Turn.{Turn}
use Rattle.wf_film.specs.declared.form.FilmForm.{FilmForm}
use Rattle.wf_film.specs.Film.{PlainFilm}
use Rattle.wf_film.specs.Stands.{Stands}
use Rattle.wf_script.specs.Script.{PlainScript}
use Rattle.wf_turn.specs.Play.{IsComplete, film}
use Rattle.wf_turn.specs.declared.replaying.ReplayStop.{ReplayStop}
use Rattle.wf_turn.specs.declared.replaying.ReplayStop.TheVariants as stop
use Rattle.wf_turn.specs.Replayed.{IsReplayCaused, PlaysAgain, StopsAt}
use Rattle.wf_check.specs.declared.verdict.Verdict.{Verdict}
use Rattle.wf_check.specs.declared.verdict.Verdict.TheVariants as verdict
use Rattle.wf_check.specs.Verdicts.{Compared, Compares, Finds, IsFound, Says, Takes, own_film}
use Rattle.wf_check.proofs.Places.{told}

module _ (script : PlainScript) (bytes : List ℕ) (plain : PlainFilm) (stands : Stands bytes plain) (form : FilmForm) (order : List Turn)
    (form_is : form ≡ plain.form) (order_is : order ≡ plain.order) where
  -- it was played to its end, and compared
  pub compared_whole : (c : Compared) (v : Verdict) → Takes c ((length bytes ∷ bytes) ++ film form script order) → IsComplete script order
      → ((xs : List ℕ) → Compares c xs → Finds c.film xs v) → Says script bytes v
  compared_whole c v takes complete finds = of_verdict v (finds (own_film script plain) (subst (Compares c) own found.1))
    where
      found : (c.film ≡ bytes) × Compares c (film form script order)
      found = told bytes (film form script order) c takes

      own : film form script order ≡ own_film script plain
      own = ap (λ f. film f script order) form_is ∙ ap (film plain.form script) order_is

      whole : IsComplete script plain.order
      whole = subst (IsComplete script) order_is complete

      of_verdict : (w : Verdict) → Finds c.film (own_film script plain) w → Says script bytes w
      of_verdict verdict.Same same = record { film = plain; stands = stands; complete = whole; same = sym found.0 ∙ same }
      of_verdict (verdict.Differs at) differs =
          record {
            film = plain;
            stands = stands;
            complete = whole;
            differs = subst (λ f. Finds f (own_film script plain) (verdict.Differs at)) found.0 differs;
          }
      of_verdict (verdict.BadFilm at rule) wrong = absurd wrong
      of_verdict (verdict.BadOrder entry) wrong = absurd wrong

  -- its journal stops at an entry
  pub stopped : (entry : ℕ) → StopsAt script order entry → Says script bytes (verdict.BadOrder entry)
  stopped entry stops = record {
    film = plain;
    stands = stands;
    stops = subst (λ ts. StopsAt script ts entry) order_is stops;
  }

  -- so it is told
  pub stopped_so : {E : Type 0} (old new : Compared) (was : ReplayStop) (found : Result Verdict E)
      → PlaysAgain {K = Compared} (λ c given. Takes c given) old new form script order (Err was) → IsFound was found
      → IfOk found (Says script bytes)
  stopped_so old new (stop.BadEntry entry) (Ok v) stops is = subst (Says script bytes) (sym is) (stopped entry stops)
  stopped_so old new (stop.BadEntry entry) (Err e) stops is = tt
  stopped_so old new stop.WriteFault found stops is = absurd is
  stopped_so old new stop.NoMemory (Ok v) stops is = absurd cc
  stopped_so old new stop.NoMemory (Err e) stops is = tt

-- a sink that never failed stopped nothing
pub never : (was : ReplayStop) → IsReplayCaused {T = Unit {0}} 0 0 (Err was) → was ≡ stop.WriteFault → ⊥
never (stop.BadEntry entry) caused is = absurd cc
never stop.WriteFault caused is = (let rose = caused.1 in omega (arith, rose))
never stop.NoMemory caused is = absurd cc
