-- How many events there are in all, by how many each client has.
use Rattle.std.proofs.Common.{◌≡◌, ◌∙◌, ℕ, zero, suc, ◌+◌, ◌*◌, ◌<◌, ◌≤◌, ◌==◌, Bool, true, false, cond, List, [], ◌∷◌, length, refl, sym}
use Rattle.std.proofs.Common.{ap}
use Rattle.std.proofs.Common.{arith}
use Rattle.std.specs.Prelude.{nat_lt}
use Rattle.std.proofs.lemmas.Bool.{eq-eqb, eqb-true, ltb-false, ltb-true}
use Rattle.wf_desk.specs.History.{events_of}
use Rattle.wf_machine.specs.Histories.{Happening}
use Rattle.wf_show.specs.Together.{AllBelow}

abbrev one_if : Bool → ℕ
one_if b = cond b 1 0

-- how many are of clients below a number
abbrev how_many : ℕ → List Happening → ℕ
how_many n [] = 0
how_many n (e ∷ es) = one_if (nat_lt e.client n) + how_many n es

-- an event is of a client below the next number where it is of one below this, or of this
one_more : (c n : ℕ) → one_if (nat_lt c (n + 1)) ≡ one_if (nat_lt c n) + one_if (c == n)
one_more c n = of_tests (nat_lt c (n + 1)) (nat_lt c n) (c == n) refl refl refl
  where
    of_tests : (a b d : Bool) → nat_lt c (n + 1) ≡ a → nat_lt c n ≡ b → (c == n) ≡ d → one_if a ≡ one_if b + one_if d
    of_tests true true true less here same = (let is = eqb-true c n same in absurd (omega (arith, ltb-true c n here, is)))
    of_tests true true false less here other = omega arith
    of_tests true false true less past same = omega arith
    of_tests true false false less past other = absurd (apart other (omega (arith, ltb-true c (n + 1) less, ltb-false c n past)))
      where
        apart : (c == n) ≡ false → c ≡ n → ⊥
        apart other is = absurd (let both : true ≡ false = sym (eq-eqb c n is) ∙ other in cc)
    of_tests false true d past here same = absurd (omega (arith, ltb-false c (n + 1) past, ltb-true c n here))
    of_tests false false true past here same = (let is = eqb-true c n same in absurd (omega (arith, ltb-false c (n + 1) past, is)))
    of_tests false false false past here other = omega arith

one_event : (c : ℕ) (e : Happening) (es : List Happening)
    → length (events_of c (e ∷ es)) ≡ one_if (e.client == c) + length (events_of c es)
one_event c e es =
    elim (e.client == c) as (λ b. length (cond b (e ∷ events_of c es) (events_of c es)) ≡ one_if b + length (events_of c es)) [
      | true ↦ (let one : length (e ∷ events_of c es) ≡ 1 + length (events_of c es) = omega arith in one)
      | false ↦ (let none : length (events_of c es) ≡ 0 + length (events_of c es) = omega arith in none)
    ]

next_client : (n : ℕ) (es : List Happening) → how_many (n + 1) es ≡ how_many n es + length (events_of n es)
next_client n [] = refl
next_client n (e ∷ es) = omega (arith, next_client n es, one_more e.client n, one_event n e es)

all_counted : (n : ℕ) (es : List Happening) → AllBelow n es → how_many n es ≡ length es
all_counted n [] all = refl
all_counted n (e ∷ es) all =
    let this : one_if (nat_lt e.client n) ≡ 1 = of_test (nat_lt e.client n) refl in omega (arith, this, all_counted n es all.1)
  where
    of_test : (b : Bool) → nat_lt e.client n ≡ b → one_if b ≡ 1
    of_test true less = refl
    of_test false past = absurd (omega (arith, all.0, ltb-false e.client n past))

none_counted : (es : List Happening) → how_many 0 es ≡ 0
none_counted [] = refl
none_counted (e ∷ es) =
    let none : one_if (nat_lt e.client 0) ≡ 0 = below_none (nat_lt e.client 0) refl in omega (arith, none, none_counted es)
  where
    below_none : (b : Bool) → nat_lt e.client 0 ≡ b → one_if b ≡ 0
    below_none true less = absurd (omega (arith, ltb-true e.client 0 less))
    below_none false past = refl

few_counted : (most n : ℕ) (es : List Happening) → ((c : ℕ) → c < n → length (events_of c es) ≤ most) → how_many n es ≤ n * most
few_counted most zero es each = omega (arith, none_counted es)
few_counted most (suc n) es each =
    let next : how_many (suc n) es ≡ how_many n es + length (events_of n es) =
    (let same : suc n ≡ n + 1 = omega arith in ap (λ k. how_many k es) same ∙ next_client n es) in
    let rest = few_counted most n es (λ c less. each c (omega (arith, less))) in
    let this = each n (omega arith) in
    let product : suc n * most ≡ n * most + most = omega arith in
    omega (arith, next, rest, this, product)

-- where each of the eight has so many at most
pub few_events : (most : ℕ) (es : List Happening) → AllBelow 8 es → ((c : ℕ) → c < 8 → length (events_of c es) ≤ most)
    → length es ≤ 8 * most
few_events most es below each = omega (arith, all_counted 8 es below, few_counted most 8 es each)
