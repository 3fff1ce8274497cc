-- Contexts that are composed, one more, and clients that are answered, one more.
use Rattle.std.proofs.Common.{◌≡◌, ◌≢◌, ◌∙◌, ℕ, suc, ◌+◌, ◌-◌, ◌<◌, ◌==◌, Bool, true, false, cond, List, ◌++◌, get_or, refl, sym, ap, arith}
use Rattle.std.proofs.Common.{append_assoc}
use Rattle.std.proofs.lemmas.Bool.{eq-eqb, eqb-true}
use Rattle.wf_calls.specs.declared.call.Call.TheVariants as call
use Rattle.wf_guard.specs.declared.clients.TheConstants.{OUTPUT}
use Rattle.wf_model.specs.State.{State}
use Rattle.wf_serve.specs.Ticks.{Framed, composed, framed, waiter, waiters}

module _ (n after value : ℕ) (h now : State) (more : 0 < n) (left : now ≡ (framed OUTPUT (call.BeginNext after) h).now)
    (told : value ≡ (framed OUTPUT (call.BeginNext after) h).told.value) where
  abbrev x : Framed
  x = framed OUTPUT (call.BeginNext after) h

  first : composed n after h ≡ cond (x.told.value == 0) x.now (composed (n - 1) x.told.value x.now)
  first = let one : n ≡ suc (n - 1) = omega (arith, more) in ap (λ k. composed k after h) one

  -- no further one is active
  pub stops : value ≡ 0 → now ≡ composed n after h
  stops none =
      let zero : (x.told.value == 0) ≡ true = eq-eqb x.told.value 0 (sym told ∙ none) in
      left ∙ sym (first ∙ ap (λ b. cond b x.now (composed (n - 1) x.told.value x.now)) zero)

  pub goes_on : value ≢ 0 → composed n after h ≡ composed (n - 1) value now
  goes_on some = first ∙ by_test (x.told.value == 0) refl ∙ (λ i. composed (n - 1) (sym told i) (sym left i))
    where
      by_test : (b : Bool) → (x.told.value == 0) ≡ b
          → cond b x.now (composed (n - 1) x.told.value x.now) ≡ composed (n - 1) x.told.value x.now
      by_test true is = absurd (some (told ∙ eqb-true x.told.value 0 is))
      by_test false is = refl

pub waiters_more : (n : ℕ) (waiting : List Bool) (tick : ℕ) (old now new : List ℕ) → now ≡ old ++ waiters n waiting tick
    → new ≡ now ++ waiter (get_or waiting n false) n tick → new ≡ old ++ waiters (n + 1) waiting tick
waiters_more n waiting tick old now new before put =
    let next : n + 1 ≡ suc n = omega arith in
    put ∙ ap (λ l. l ++ waiter (get_or waiting n false) n tick) before
    ∙ append_assoc old (waiters n waiting tick) (waiter (get_or waiting n false) n tick)
    ∙ ap (λ k. old ++ waiters k waiting tick) (sym next)
