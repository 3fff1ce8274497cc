-- Printed numbers are read as these numbers.
use Rattle.std.proofs.Common.{◌≡◌, ◌∙◌, ℕ, zero, suc, ◌+◌, ◌-◌, ◌*◌, ◌/◌, ◌%◌, ◌^◌, ◌<◌, ◌≤◌, true, false, ◌==◌, nat_lt}
use Rattle.std.proofs.Common.{nat_le, ℤ, pos, negsuc, List, [], ◌∷◌, ◌++◌, length, Option, Some, None, refl, ap, subst, arith, add-one}
use Rattle.std.specs.Prelude.{codes, decimal, neg_ℤ, option_map, if◌then◌else◌}
use Rattle.std.specs.Option.{option_and_then}
use Rattle.std.specs.List.{list_all}
use Rattle.std.specs.Str.{byte}
use Rattle.std.proofs.lemmas.Bool.{and_from, and_parts, lt-ltb}
use Rattle.std.proofs.lemmas.Bool.Decides.{nat_tests}
use Rattle.std.proofs.lemmas.Fmt.{decimal_by_steps, decimal_nonempty, length-decimal-le}
use Rattle.std.proofs.lemmas.List.Sums.{fold-append}
use Rattle.wf_pixel.specs.Choice.{is_between}
use Rattle.wf_words.specs.Whole.{count_of}
use Rattle.wf_script.specs.Spelled.{integer_word}
use Rattle.wf_script.specs.PaintWords.{row_number}
use Rattle.wf_script.specs.Words.{Word, count_in, digits_of, digits_value, integer_in, integer_of, is_digit, is_word}
use Rattle.wf_script.proofs.Clean.{all_both, all_pass, digit_is_clean, is_clean, is_clean_byte}
use Rattle.wf_script.proofs.Steps.{at_most, count_within}
use Rattle.wf_pixel.specs.declared.TheConstants.{MOST_SIDE}

-- a kind of words reads a word as this
pub record Back {A : Type 0} (kind : Word → Option A) (word : Word) (x : A) : Type 0 where
  pub reads : kind word ≡ Some x
  pub clean : is_clean word ≡ true

-- digits that have this value
record AreDigits (n : ℕ) (ds : List ℕ) : Type 0 where
  all : list_all is_digit ds ≡ true
  value : digits_value ds ≡ n

one_digit : (n : ℕ) → n < 10 → AreDigits n ((48 + n) ∷ [])
one_digit n small = record { all = grind (arith, nat_tests); value = omega arith }

more_digits : (n : ℕ) (ds : List ℕ) → 10 ≤ n → AreDigits (n / 10) ds → AreDigits n (ds ++ (48 + n % 10) ∷ [])
more_digits n ds large before = record {
  all = all_both is_digit ds ((48 + n % 10) ∷ []) before.all (grind (arith, nat_tests));
  value = fold-append (λ (m b : ℕ). m * 10 + (b - byte "0")) 0 ds ((48 + n % 10) ∷ [])
      ∙ ap (λ (m : ℕ). m * 10 + ((48 + n % 10) - 48)) before.value ∙ omega arith;
}

are_digits : (n : ℕ) → n < 2 ^ 64 → AreDigits n (decimal n)
are_digits n small = decimal_by_steps AreDigits one_digit more_digits n small

pub decimal_digits : (n : ℕ) → n < 2 ^ 64 → list_all is_digit (decimal n) ≡ true
decimal_digits n small = (are_digits n small).all

some_digit : (w : Word) → 0 < length w → is_word w ≡ true
some_digit [] some = absurd (omega arith)
some_digit (b ∷ bs) some = refl

pub decimal_word : (n : ℕ) → n < 2 ^ 64 → is_word (decimal n) ≡ true
decimal_word n small = some_digit (decimal n) (decimal_nonempty n small)

pub decimal_clean : (n : ℕ) → n < 2 ^ 64 → is_clean (decimal n) ≡ true
decimal_clean n small =
    and_from (is_word (decimal n)) (list_all is_clean_byte (decimal n)) (decimal_word n small)
    (all_pass is_digit is_clean_byte digit_is_clean (decimal n) (decimal_digits n small))

digits_again : (n : ℕ) → n < 10 ^ 10 → digits_of (decimal n) ≡ Some n
unfolding digits_of
digits_again n small =
    let fits : n < 2 ^ 64 = omega arith in
    let digits = are_digits n fits in
    let some : nat_lt 0 (length (decimal n)) ≡ true = lt-ltb 0 (length (decimal n)) (decimal_nonempty n fits) in
    let short : nat_le (length (decimal n)) 10 ≡ true = at_most (length (decimal n)) 10 (length-decimal-le 10 n (omega arith) small fits) in
    rw (some, short, digits.all) (ap (λ (m : ℕ). Some m) digits.value)

pub count_again : (low high n : ℕ) → low ≤ n → n ≤ high → high < 10 ^ 10 → count_in low high (decimal n) ≡ Some n
unfolding count_in
count_again low high n above below fits =
    let least : nat_le low n ≡ true = at_most low n above in
    let most : nat_le n high ≡ true = at_most n high below in
    rw (digits_again n (omega arith), least, most) refl

-- a number without a sign
pub count_back : (low high : ℕ) → high < 10 ^ 10 → (w : Word) (n : ℕ) → count_in low high w ≡ Some n
    → Back (count_in low high) (decimal n) n
count_back low high fits w n h =
    let within = count_within low high w n h in
    record { reads = count_again low high n within.0 within.1 fits; clean = decimal_clean n (omega (arith, within.1)) }

-- numbers with a sign

abbrev most : ℕ
most = 4294967295

abbrev Within : ℤ → Type 0
Within (pos n) = n ≤ most
Within (negsuc n) = n + 1 ≤ most

negated : (n : ℕ) → n ≤ most → Within (neg_ℤ (pos n))
negated zero h = omega arith
negated (suc n) h = omega (arith, h)

of_count : (o : Option ℕ) (z : ℤ) → ((n : ℕ) → o ≡ Some n → n ≤ most) → option_map (λ n. pos n) o ≡ Some z → Within z
of_count None z small h = absurd cc
of_count (Some n) z small h = let is : pos n ≡ z = cc in subst Within is (small n refl)

of_negative : (o : Option ℕ) (z : ℤ) → ((n : ℕ) → o ≡ Some n → n ≤ most) → option_map (λ n. neg_ℤ (pos n)) o ≡ Some z → Within z
of_negative None z small h = absurd cc
of_negative (Some n) z small h = let is : neg_ℤ (pos n) ≡ z = cc in subst Within is (negated n (small n refl))

integer_range : (w : Word) (z : ℤ) → integer_of w ≡ Some z → Within z
unfolding integer_of
integer_range [] z h = absurd cc
integer_range (b ∷ bs) z h =
    elim (b == byte "-") as (λ t. (if t then option_map (λ n. neg_ℤ (pos n)) (count_in 0 4294967295 bs)
    else option_map (λ n. pos n) (count_in 0 4294967295 (b ∷ bs))) ≡ Some z → Within z) [
      | true ↦ λ same. of_negative (count_in 0 4294967295 bs) z (λ n e. (count_within 0 4294967295 bs n e).1) same
      | false ↦ λ same. of_count (count_in 0 4294967295 (b ∷ bs)) z (λ n e. (count_within 0 4294967295 (b ∷ bs) n e).1) same
    ] h

unsigned : (w : Word) → is_word w ≡ true → list_all is_digit w ≡ true → integer_of w ≡ option_map (λ n. pos n) (count_in 0 4294967295 w)
unfolding integer_of
unsigned [] some all = absurd cc
unsigned (b ∷ bs) some all =
    let digit = (and_parts (is_digit b) (list_all is_digit bs) all).0 in
    let other : (b == byte "-") ≡ false = grind (arith, nat_tests, digit) in
    rw other refl

pub positive_again : (n : ℕ) → n ≤ most → integer_of (decimal n) ≡ Some (pos n)
positive_again n small =
    let fits : n < 2 ^ 64 = omega arith in
    unsigned (decimal n) (decimal_word n fits) (decimal_digits n fits)
    ∙ ap (λ (o : Option ℕ). option_map (λ m. pos m) o) (count_again 0 4294967295 n (omega arith) small (omega arith))

negative_again : (n : ℕ) → n + 1 ≤ most → integer_of (codes "-" ++ decimal (n + 1)) ≡ Some (negsuc n)
unfolding integer_of
negative_again n small =
    ap (λ (o : Option ℕ). option_map (λ m. neg_ℤ (pos m)) o) (count_again 0 4294967295 (n + 1) (omega arith) small (omega arith))
    ∙ ap (λ (m : ℕ). Some (neg_ℤ (pos m))) (add-one n)

integer_clean : (z : ℤ) → Within z → is_clean (integer_word z) ≡ true
integer_clean (pos n) small = decimal_clean n (omega arith)
integer_clean (negsuc n) small = (and_parts (is_word (decimal (n + 1))) (list_all is_clean_byte (decimal (n + 1)))
    (decimal_clean (n + 1) (omega arith))).1

integer_again : (z : ℤ) → Within z → integer_of (integer_word z) ≡ Some z
integer_again (pos n) small = positive_again n small
integer_again (negsuc n) small = negative_again n small

pub integer_back : (w : Word) (z : ℤ) → integer_of w ≡ Some z → Back integer_of (integer_word z) z
integer_back w z h = let within = integer_range w z h in record { reads = integer_again z within; clean = integer_clean z within }

-- in a range

in_its_range : (low high : ℤ) (o : Option ℤ) (z : ℤ) → option_and_then (λ y. if is_between low high y then Some y else None) o ≡ Some z
    → (o ≡ Some z) × (is_between low high z ≡ true)
in_its_range low high None z h = absurd cc
in_its_range low high (Some y) z h =
    elim (is_between low high y) as (λ t. is_between low high y ≡ t → (if t then Some y else None) ≡ Some z
    → (let o : Option ℤ = Some y in o ≡ Some z) × (is_between low high z ≡ true)) [
      | true ↦ λ yes same. (same, (let is : y ≡ z = cc in subst (λ (x : ℤ). is_between low high x ≡ true) is yes))
      | false ↦ λ no same. absurd cc
    ] refl h

pub integer_in_back : (low high : ℤ) (w : Word) (z : ℤ) → integer_in low high w ≡ Some z → Back (integer_in low high) (integer_word z) z
unfolding integer_in
integer_in_back low high w z h =
    let found = in_its_range low high (integer_of w) z h in
    let back = integer_back w z found.0 in
    record { reads = rw (back.reads, found.1) refl; clean = back.clean }

-- the number of a row
pub row_back : (w : Word) (n : ℕ) → row_number w ≡ Some n → Back row_number (decimal n) n
unfolding row_number integer_in
row_back w n h = of_integer (integer_in (pos 0) (pos (MOST_SIDE - 1)) w) refl h
  where
    of_integer : (o : Option ℤ) → integer_in (pos 0) (pos (MOST_SIDE - 1)) w ≡ o → option_map count_of o ≡ Some n
        → Back row_number (decimal n) n
    of_integer None e h = absurd cc
    of_integer (Some (pos m)) e h =
        let is : m ≡ n = cc in
        let back = integer_in_back (pos 0) (pos (MOST_SIDE - 1)) w (pos m) e in
        subst (λ (k : ℕ). Back row_number (decimal k) k) is (record { reads = ap (option_map count_of) back.reads; clean = back.clean })
    of_integer (Some (negsuc m)) e h =
        absurd (let bad = (in_its_range (pos 0) (pos (MOST_SIDE - 1)) (integer_of w) (negsuc m) e).1 in cc)
