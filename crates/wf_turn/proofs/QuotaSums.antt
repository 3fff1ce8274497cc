-- Sums of quotas.
use Rattle.wf_turn.proofs.Common.{◌≡◌, ℕ, zero, suc, ◌+◌, ◌*◌, ◌<◌, ◌≤◌, ◌==◌, true, false, cond, List, [], ◌∷◌, length, refl}
use Rattle.wf_turn.proofs.Common.{ap, arith, sum_by, range_with_len, nat_tests, sum_by-cons, Line, Verb, line_quota, most_turns, quota}
use Rattle.wf_turn.proofs.Common.{quota_of, quota_of_all}
use Rattle.wf_script.specs.declared.line.Verb.TheVariants as verb

least_40 : (v : Verb) → line_quota v ≤ 40
least_40 (verb.Paint p) = omega arith
least_40 (verb.Frame s p) = omega arith
least_40 (verb.Compose d c) = omega arith
least_40 (verb.TryCompose d c) = omega arith
least_40 verb.Tick = omega arith
least_40 _ = omega arith

-- a line is of one client at most
one_client : (l : Line) (a n : ℕ) → sum_by (λ c. quota_of c l) (range_with_len a n) ≤ line_quota l.verb
one_client l a zero = omega arith
one_client l a (suc n) =
    let each : ℕ → ℕ = λ c. quota_of c l in
    elim (l.client == a) as (λ b. (l.client == a) ≡ b → sum_by each (a ∷ range_with_len (a + 1) n) ≤ line_quota l.verb) [
      | true ↦ λ here. (
          let none = past l (a + 1) n (grind (arith, nat_tests, here)) in
          let this : each a ≡ line_quota l.verb = ap (λ b. cond b (line_quota l.verb) 0) here in
          omega (arith, sum_by-cons each a (range_with_len (a + 1) n), none, this))
      | false ↦ λ apart. (
          let rest = one_client l (a + 1) n in
          let none : each a ≡ 0 = ap (λ b. cond b (line_quota l.verb) 0) apart in
          omega (arith, sum_by-cons each a (range_with_len (a + 1) n), rest, none))
    ] refl
  where
    past : (l : Line) (a n : ℕ) → l.client < a → sum_by (λ c. quota_of c l) (range_with_len a n) ≡ 0
    past l a zero below = refl
    past l a (suc n) below =
        let each : ℕ → ℕ = λ c. quota_of c l in
        let apart : (l.client == a) ≡ false = grind (arith, nat_tests, below) in
        let none : each a ≡ 0 = ap (λ b. cond b (line_quota l.verb) 0) apart in
        let rest = past l (a + 1) n (omega (arith, below)) in
        omega (arith, sum_by-cons each a (range_with_len (a + 1) n), rest, none)

-- sums of sums
sum_both : (f g h : ℕ → ℕ) (ns : List ℕ) → ((n : ℕ) → h n ≡ f n + g n) → sum_by h ns ≡ sum_by f ns + sum_by g ns
sum_both f g h [] each = refl
sum_both f g h (n ∷ ns) each =
    let rest = sum_both f g h ns each in
    omega (arith, sum_by-cons f n ns, sum_by-cons g n ns, sum_by-cons h n ns, each n, rest)

-- all clients make no more than all lines
pub most_once : (lines : List Line) → most_turns lines ≤ quota_of_all lines
most_once [] = nothing (range_with_len 0 8)
  where
    nothing : (ns : List ℕ) → sum_by (quota []) ns ≤ 0
    nothing [] = omega arith
    nothing (n ∷ ns) = (let rest = nothing ns in omega (arith, sum_by-cons (quota []) n ns, rest))
most_once (l ∷ lines) =
    let split = sum_both (λ c. quota_of c l) (quota lines) (quota (l ∷ lines)) (range_with_len 0 8)
    (λ c. sum_by-cons (quota_of c) l lines) in
    let one = one_client l 0 8 in
    let rest = most_once lines in
    omega (arith, split, one, rest, sum_by-cons (λ m. line_quota m.verb) l lines)

-- a line makes 40 events at most
pub most_40 : (lines : List Line) → most_turns lines ≤ 40 * length lines
most_40 lines = omega (arith, most_once lines, each lines)
  where
    each : (lines : List Line) → quota_of_all lines ≤ 40 * length lines
    each [] = omega arith
    each (l ∷ lines) = omega (arith, least_40 l.verb, each lines, sum_by-cons (λ m. line_quota m.verb) l lines)
