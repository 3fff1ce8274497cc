-- Words that stand in a line as they are: they have no blank, begin no comment, and no `=` alone is one of them.
use Rattle.std.proofs.Common.{◌≡◌, ◌∙◌, ℕ, Bool, true, false, not, ◌&&◌, ◌==◌, nat_le, List, [], ◌∷◌, ◌++◌, refl, arith}
use Rattle.std.specs.Prelude.{codes}
use Rattle.std.specs.List.{list_all}
use Rattle.std.specs.Str.{bytes_eq}
use Rattle.std.proofs.lemmas.Bool.{and_from, and_parts}
use Rattle.std.proofs.lemmas.Bool.Decides.{nat_tests}
use Rattle.std.proofs.lemmas.List.Folds.{list_all-append}
use Rattle.wf_script.specs.Words.{Word, is_allowed, is_blank, is_digit, is_name_byte, is_word}

-- printed ASCII but for the blank and `#`
abbrev pub is_plain_byte : ℕ → Bool
is_plain_byte b = nat_le 33 b && (nat_le b 126 && not (b == 35))

-- and but for `=`
abbrev pub is_clean_byte : ℕ → Bool
is_clean_byte b = is_plain_byte b && not (b == 61)

abbrev pub is_plain : Word → Bool
is_plain w = is_word w && list_all is_plain_byte w

abbrev pub is_clean : Word → Bool
is_clean w = is_word w && list_all is_clean_byte w

-- a test that passes wherever another does
pub all_pass : {A : Type 0} (p q : A → Bool) → ((x : A) → p x ≡ true → q x ≡ true) → (xs : List A) → list_all p xs ≡ true
    → list_all q xs ≡ true
all_pass p q more [] all = refl
all_pass p q more (x ∷ xs) all =
    let parts = and_parts (p x) (list_all p xs) all in
    and_from (q x) (list_all q xs) (more x parts.0) (all_pass p q more xs parts.1)

-- two lists that pass
pub all_both : {A : Type 0} (p : A → Bool) (xs ys : List A) → list_all p xs ≡ true → list_all p ys ≡ true → list_all p (xs ++ ys) ≡ true
all_both p xs ys first second = list_all-append p xs ys ∙ and_from (list_all p xs) (list_all p ys) first second

pub clean_is_plain : (w : Word) → is_clean w ≡ true → is_plain w ≡ true
clean_is_plain w clean =
    let parts = and_parts (is_word w) (list_all is_clean_byte w) clean in
    and_from (is_word w) (list_all is_plain_byte w) parts.0
    (all_pass is_clean_byte is_plain_byte (λ b h. (and_parts (is_plain_byte b) (not (b == 61)) h).0) w parts.1)

-- a clean word is no `=`
pub clean_is_not_equals : (w : Word) → is_clean w ≡ true → bytes_eq w (codes "=") ≡ false
clean_is_not_equals [] clean = refl
clean_is_not_equals (b ∷ bs) clean =
    let first = (and_parts (is_clean_byte b) (list_all is_clean_byte bs) clean).0 in
    let other = (and_parts (is_plain_byte b) (not (b == 61)) first).1 in
    of_test (b == 61) other
  where
    of_test : (t : Bool) → not t ≡ true → (t && bytes_eq bs []) ≡ false
    of_test false h = refl
    of_test true h = absurd cc

pub digit_is_clean : (b : ℕ) → is_digit b ≡ true → is_clean_byte b ≡ true
digit_is_clean b h = grind (arith, nat_tests)

pub name_byte_is_clean : (b : ℕ) → is_name_byte b ≡ true → is_clean_byte b ≡ true
name_byte_is_clean b h = grind (arith, nat_tests)

pub plain_is_no_blank : (b : ℕ) → is_plain_byte b ≡ true → is_blank b ≡ false
plain_is_no_blank b h = grind (arith, nat_tests)

-- what may stand in a line of plain words
abbrev pub is_line_byte : ℕ → Bool
is_line_byte b = nat_le 32 b && (nat_le b 126 && not (b == 35))

pub plain_in_line : (b : ℕ) → is_plain_byte b ≡ true → is_line_byte b ≡ true
plain_in_line b h = grind (arith, nat_tests)

pub line_is_allowed : (b : ℕ) → is_line_byte b ≡ true → is_allowed b ≡ true
line_is_allowed b h = grind (arith, nat_tests)

pub line_has_no_feed : (b : ℕ) → is_line_byte b ≡ true → (b == 10) ≡ false
line_has_no_feed b h = grind (arith, nat_tests)

pub line_has_no_return : (b : ℕ) → is_line_byte b ≡ true → (b == 13) ≡ false
line_has_no_return b h = grind (arith, nat_tests)

pub line_has_no_comment : (b : ℕ) → is_line_byte b ≡ true → (b == 35) ≡ false
line_has_no_comment b h = grind (arith, nat_tests)
