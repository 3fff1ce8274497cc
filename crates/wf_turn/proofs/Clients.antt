-- The client of the first line that is not through.
use Rattle.wf_turn.proofs.Common.{◌≡◌, ◌∙◌, ℕ, zero, suc, ◌+◌, ◌<◌, ◌≤◌, ◌==◌, Bool, true, false, not, cond, ◌&&◌, ◌⊎◌, inl, inr, List, []}
use Rattle.wf_turn.proofs.Common.{◌∷◌, map, length, take, get_or, Option, Some, None, refl, sym, ap, subst, arith, slice_get, nat_lt}
use Rattle.wf_turn.proofs.Common.{enumerate_from, list_all, IfSome, IsSomeAnd, ltb-true, length-map, nat_tests, Line, earlier, first_client}
use Rattle.wf_turn.proofs.Common.{IsCast, StandsOwn, may_turn, Program, place_of, setup_lines, Show}
use Rattle.std.proofs.Common.{add-one}
use Rattle.std.specs.Prelude.{fold}
use Rattle.std.specs.Option.{is_none}
use Rattle.std.proofs.lemmas.Option.{slice_get_within}
use Rattle.wf_turn.proofs.Programs.{at_client}
use Rattle.wf_words.specs.Places.{get_within}

abbrev Best : Type 0
Best = Option (ℕ × ℕ)

abbrev pub first_from : Best → ℕ → List (Option ℕ) → Best
first_from best a places = fold earlier best (enumerate_from a places)

-- the client that is found stands at its place
record IsAt (best : Best) (a : ℕ) (places : List (Option ℕ)) (c : ℕ × ℕ) : Type 0 where
  index : ℕ
  client : c.0 ≡ a + index
  at : slice_get places index ≡ Some (Some c.1)

found_at : (best : Best) (a : ℕ) (places : List (Option ℕ)) (c : ℕ × ℕ) → first_from best a places ≡ Some c
    → (best ≡ Some c) ⊎ IsAt best a places c
found_at best a [] c is = inl is
found_at best a (None ∷ places) c is =
    elim (found_at (earlier best (a, None)) (a + 1) places c is) [
      | inl same ↦ inl (no_place best same)
      | inr there ↦ inr (record { index = suc there.index; client = there.client ∙ omega arith; at = there.at })
    ]
  where
    no_place : (b : Best) → earlier b (a, None) ≡ Some c → b ≡ Some c
    no_place None same = same
    no_place (Some d) same = same
found_at best a (Some k ∷ places) c is =
    elim (found_at (earlier best (a, Some k)) (a + 1) places c is) [
      | inl same ↦ this best same
      | inr there ↦ inr (record { index = suc there.index; client = there.client ∙ omega arith; at = there.at })
    ]
  where
    here : Some (a, k) ≡ Some c → IsAt best a (Some k ∷ places) c
    here same =
        let is_c : (a, k) ≡ c = cc in
        record { index = 0; client = sym (ap (λ x. x.0) is_c) ∙ omega arith; at = ap (λ x. Some (Some x.1)) is_c }

    this : (b : Best) → earlier b (a, Some k) ≡ Some c → (b ≡ Some c) ⊎ IsAt best a (Some k ∷ places) c
    this None same = inr (here same)
    this (Some d) same =
        elim (nat_lt k d.1) as (λ x. cond x (Some (a, k)) (Some d) ≡ Some c
        → (Some d ≡ Some c) ⊎ IsAt best a (Some k ∷ places) c) [ true ↦ λ e. inr (here e) | false ↦ λ e. inl e ] same

-- the place of the client that is found
pub first_place : (places : List (Option ℕ)) (c : ℕ × ℕ) → first_client places ≡ Some c → slice_get places c.0 ≡ Some (Some c.1)
first_place places c is =
    elim (found_at None 0 places c is) [
      | inl none ↦ absurd cc
      | inr there ↦ (let same : there.index ≡ c.0 = omega (arith, there.client) in
          subst (λ i. slice_get places i ≡ Some (Some c.1)) same there.at)
    ]

-- a client that was found is found still
still_some : (a : ℕ) (places : List (Option ℕ)) (b : ℕ × ℕ) → first_from (Some b) a places ≡ None → ⊥
still_some a [] b none = absurd cc
still_some a (None ∷ places) b none = still_some (a + 1) places b none
still_some a (Some k ∷ places) b none =
    elim (nat_lt k b.1) as (λ x. first_from (cond x (Some (a, k)) (Some b)) (a + 1) places ≡ None
    → ⊥) [ true ↦ λ e. still_some (a + 1) places (a, k) e | false ↦ λ e. still_some (a + 1) places b e ] none

-- where none is found, all are through
none_left : (a : ℕ) (places : List (Option ℕ)) → first_from None a places ≡ None → list_all is_none places ≡ true
none_left a [] none = refl
none_left a (None ∷ places) none = none_left (a + 1) places none
none_left a (Some k ∷ places) none = absurd (still_some (a + 1) places (a, k) none)

pub all_through : (programs : List Program) → first_client (map place_of programs) ≡ None
    → list_all (λ p. is_none (place_of p)) programs ≡ true
all_through programs none = as_map programs ∙ none_left 0 (map place_of programs) none
  where
    as_map : (ps : List Program) → list_all (λ p. is_none (place_of p)) ps ≡ list_all is_none (map place_of ps)
    as_map [] = refl
    as_map (p ∷ ps) = ap (λ b. is_none (place_of p) && b) (as_map ps)

-- no place that was found is behind an earlier one
least : (a : ℕ) (places : List (Option ℕ)) (b c : ℕ × ℕ) → first_from (Some b) a places ≡ Some c → c.1 ≤ b.1
least a [] b c is = (let same : b ≡ c = cc in omega (arith, ap (λ x. x.1) same))
least a (None ∷ places) b c is = least (a + 1) places b c is
least a (Some k ∷ places) b c is =
    elim (nat_lt k b.1) as (λ x. nat_lt k b.1 ≡ x → first_from (cond x (Some (a, k)) (Some b)) (a + 1) places ≡ Some c → c.1 ≤ b.1) [
      | true ↦ λ below e. omega (arith, ltb-true k b.1 below, least (a + 1) places (a, k) c e)
      | false ↦ λ above e. least (a + 1) places b c e
    ] refl is

-- one place more
pub first_more : (best : Best) (a : ℕ) (places : List (Option ℕ)) (i : ℕ) (d : Option ℕ) → i < length places
    → first_from best a (take (i + 1) places) ≡ earlier (first_from best a (take i places)) (a + i, get_or places i d)
first_more best a places i d within = rw add-one (by_place best a places i within)
  where
    by_place : (best : Best) (a : ℕ) (places : List (Option ℕ)) (i : ℕ) → i < length places
        → first_from best a (take (suc i) places) ≡ earlier (first_from best a (take i places)) (a + i, get_or places i d)
    by_place best a [] i within = absurd (omega (arith, within))
    by_place best a (o ∷ places) zero within = ap (λ n. earlier best (n, o)) (omega arith)
    by_place best a (o ∷ places) (suc i) within =
        let at : a + 1 + i ≡ a + suc i = omega arith in
        by_place (earlier best (a, o)) (a + 1) places i (omega (arith, within))
        ∙ ap (λ n. earlier (first_from (earlier best (a, o)) (a + 1) (take i places)) (n, get_or places i d)) at

-- a place holds a line of a client
abbrev pub IsLineOf : List Line → ℕ → ℕ → Type 0
IsLineOf lines client place = IsSomeAnd (slice_get lines place) (λ l. l.client ≡ client)

-- the lines of the setup are the clock's
setup_clock : (lines : List Line) (place client : ℕ) → place < setup_lines lines → IsLineOf lines client place → client ≡ 0
setup_clock [] place client within own = absurd own
setup_clock (l ∷ ls) place client within own =
    elim (l.client == 0) as (λ b. (l.client == 0) ≡ b → place < cond b (setup_lines ls + 1) 0 → client ≡ 0) [
      | true ↦ λ here below. of_place (eqb_is l.client here) (λ i less at. setup_clock ls i client less at) place below own
      | false ↦ λ other below. absurd (omega (arith, below))
    ] refl within
  where
    eqb_is : (n : ℕ) → (n == 0) ≡ true → n ≡ 0
    eqb_is n is = grind (arith, nat_tests, is)

    of_place : l.client ≡ 0 → ((i : ℕ) → i < setup_lines ls → IsLineOf ls client i → client ≡ 0) → (i : ℕ) → i < setup_lines ls + 1
        → IsLineOf (l ∷ ls) client i → client ≡ 0
    of_place clock behind zero below own = sym own ∙ clock
    of_place clock behind (suc i) below own = behind i (omega (arith, below)) own

-- the client of the first line may have a turn
pub first_may : (lines : List Line) (clock : Program) (others : List Program) (c : ℕ × ℕ) → clock.script.lines ≡ lines
    → first_client (map place_of (clock ∷ others)) ≡ Some c → IsLineOf lines c.0 c.1 → may_turn (clock ∷ others) c.0 ≡ true
first_may lines clock others c script is own = of_place (place_of clock) refl
  where
    May : Type 0
    May = may_turn (clock ∷ others) c.0 ≡ true

    allowed : (b : Bool) → not (b && false) ≡ true
    allowed true = refl
    allowed false = refl

    of_setup : (k : ℕ) → place_of clock ≡ Some k → (b : Bool) → nat_lt k (setup_lines clock.script.lines) ≡ b → May
    of_setup k at false past = rw (at, past) (allowed (not (c.0 == 0)))
    of_setup k at true inside =
        let below : k < setup_lines lines = subst (λ ls. k < setup_lines ls) script
        (ltb-true k (setup_lines clock.script.lines) inside) in
        let within : c.1 ≤ k = least 1 (map place_of others) (0, k) c
        (ap (λ o. first_from (earlier None (0, o)) 1 (map place_of others)) (sym at) ∙ is) in
        let zeroth : c.0 ≡ 0 = setup_clock lines c.1 c.0 (omega (arith, below, within)) own in
        ap (λ n. may_turn (clock ∷ others) n) zeroth

    of_place : (o : Option ℕ) → place_of clock ≡ o → May
    of_place None none = rw none (allowed (not (c.0 == 0)))
    of_place (Some k) at = of_setup k at (nat_lt k (setup_lines clock.script.lines)) refl

-- the programs behind the clock's are passed one by one
abbrev pub clock_first : Program → Best
clock_first clock = earlier None (0, place_of clock)

pub all_passed : (clock : Program) (ps : List Program) (i : ℕ) (best : Best) → length ps ≤ i
    → best ≡ first_from (clock_first clock) 1 (take i (map place_of ps)) → best ≡ first_client (map place_of (clock ∷ ps))
all_passed clock ps i best end is = is ∙ ap (first_from (clock_first clock) 1)
    (take_all (map place_of ps) i (omega (arith, end, length-map ps place_of)))
  where
    take_all : {A : Type 0} (xs : List A) (i : ℕ) → length xs ≤ i → take i xs ≡ xs
    take_all [] zero end = refl
    take_all [] (suc i) end = refl
    take_all (x ∷ xs) zero end = absurd (omega (arith, end))
    take_all (x ∷ xs) (suc i) end = ap (λ ys. x ∷ ys) (take_all xs i (omega (arith, end)))

pub one_passed : (clock : Program) (ps : List Program) (i : ℕ) (best : Best) (p : Program) (place : Option ℕ) → i < length ps
    → p ≡ get_or ps i p → place ≡ place_of p → best ≡ first_from (clock_first clock) 1 (take i (map place_of ps))
    → earlier best (i + 1, place) ≡ first_from (clock_first clock) 1 (take (i + 1) (map place_of ps))
one_passed clock ps i best p place within item is so_far =
    let at : get_or (map place_of ps) i (place_of p) ≡ place = get_mapped ps i within ∙ ap place_of (sym item) ∙ sym is in
    let next : i + 1 ≡ 1 + i = omega arith in
    let front : Best = first_from (clock_first clock) 1 (take i (map place_of ps)) in
    ap (λ b. earlier b (i + 1, place)) so_far
    ∙ ap (λ o. earlier front (i + 1, o)) (sym at)
    ∙ ap (λ n. earlier front (n, get_or (map place_of ps) i (place_of p))) next
    ∙ sym (first_more (clock_first clock) 1 (map place_of ps) i (place_of p) (omega (arith, within, length-map ps place_of)))
  where
    get_mapped : (qs : List Program) (j : ℕ) → j < length qs → get_or (map place_of qs) j (place_of p) ≡ place_of (get_or qs j p)
    get_mapped [] j within = absurd (omega (arith, within))
    get_mapped (q ∷ qs) zero within = refl
    get_mapped (q ∷ qs) (suc j) within = get_mapped qs j (omega (arith, within))

abbrev Own : Program → Option ℕ → Type 0
Own p place = IfSome place (λ k. IsSomeAnd (slice_get p.script.lines k) (λ l. l.client ≡ p.client))

own_more : (ps : List Program) (i : ℕ) (best : Best) (p : Program) (place : Option ℕ) → slice_get ps i ≡ Some p → Own p place
    → IfSome best (StandsOwn ps) → IfSome (earlier best (i, place)) (StandsOwn ps)
own_more ps i best p None found own so_far = of_best best so_far
  where
    of_best : (b : Best) → IfSome b (StandsOwn ps) → IfSome (earlier b (i, None)) (StandsOwn ps)
    of_best None so_far = tt
    of_best (Some b) so_far = so_far
own_more ps i best p (Some k) found own so_far = of_best best so_far
  where
    this : StandsOwn ps (i, k)
    this = rw found own

    of_best : (b : Best) → IfSome b (StandsOwn ps) → IfSome (earlier b (i, Some k)) (StandsOwn ps)
    of_best None so_far = this
    of_best (Some b) so_far =
        elim (nat_lt k b.1) as (λ x. IfSome (cond x (Some (i, k)) (Some b)) (StandsOwn ps)) [ true ↦ this | false ↦ so_far ]

pub own_clock : (clock : Program) (ps : List Program) (place : Option ℕ) → Own clock place
    → IfSome (earlier None (0, place)) (StandsOwn (clock ∷ ps))
own_clock clock ps place own = own_more (clock ∷ ps) 0 None clock place refl own tt

pub own_passed : (clock : Program) (ps : List Program) (i : ℕ) (best : Best) (p : Program) (place : Option ℕ) → i < length ps
    → p ≡ get_or ps i p → Own p place
    → IfSome best (StandsOwn (clock ∷ ps)) → IfSome (earlier best (i + 1, place)) (StandsOwn (clock ∷ ps))
own_passed clock ps i best p place within item own so_far =
    let next : suc i ≡ i + 1 = omega arith in
    subst (λ n. IfSome (earlier best (n, place)) (StandsOwn (clock ∷ ps))) next
    (own_more (clock ∷ ps) (suc i) best p place (get_within ps i p within item) own so_far)

-- the client that is found may have a turn
pub found_may : (s : Show) (cast : IsCast s) (c : ℕ × ℕ) → first_client (map place_of s.programs) ≡ Some c → StandsOwn s.programs c
    → may_turn s.programs c.0 ≡ true
found_may s cast c is own = of_programs s.programs refl (slice_get s.programs c.0) refl
  where
    of_programs : (ps : List Program) → s.programs ≡ ps → (o : Option Program) → slice_get s.programs c.0 ≡ o
        → may_turn s.programs c.0 ≡ true
    of_programs ps are None none = absurd (let at = first_place (map place_of s.programs) c is in
        omega (
          arith,
          slice_get_within (map place_of s.programs) c.0 (Some c.1) at,
          length-map s.programs place_of,
          past s.programs c.0 none,
        ))
      where
        past : (qs : List Program) (i : ℕ) → slice_get qs i ≡ None → length qs ≤ i
        past [] i none = omega arith
        past (q ∷ qs) zero none = absurd cc
        past (q ∷ qs) (suc i) none = (let rest = past qs i none in omega (arith, rest))
    of_programs [] are (Some p) some =
        absurd (let no : slice_get {X = Program} [] c.0 ≡ Some p = ap (λ ps. slice_get ps c.0) (sym are) ∙ some in cc)
    of_programs (clock ∷ others) are (Some p) some =
        let of = at_client cast.script 0 s.programs c.0 p cast.programs some in
        let first : slice_get s.programs 0 ≡ Some clock = ap (λ ps. slice_get ps 0) are in
        let clock_of = at_client cast.script 0 s.programs 0 clock cast.programs first in
        let mine : IsSomeAnd (slice_get p.script.lines c.1) (λ l. l.client ≡ p.client) = rw some at own in
        let client : p.client ≡ c.0 = of.client_is ∙ omega arith in
        let line : IsLineOf cast.script.lines c.0 c.1 = subst (λ n. IsLineOf cast.script.lines n c.1) client
        (subst (λ x. IsLineOf x.lines p.client c.1) of.script_is mine) in
        ap (λ ps. may_turn ps c.0) are
        ∙ first_may cast.script.lines clock others c (ap (λ x. x.lines) clock_of.script_is)
        (ap (λ ps. first_client (map place_of ps)) (sym are) ∙ is) line
