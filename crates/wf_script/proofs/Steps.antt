-- Steps of reading that were all taken, and what their words were then.
use Rattle.std.proofs.Common.{◌≡◌, ◌∙◌, ℕ, ◌≤◌, Bool, true, false, not, ◌&&◌, nat_le, ℤ, List, [], ◌∷◌, length, Option, Some, None, Result}
use Rattle.std.proofs.Common.{Ok, Err, IsTrue, refl, sym, ap, subst, arith}
use Rattle.std.specs.Prelude.{if◌then◌else◌, filter}
use Rattle.std.specs.List.{list_all, slice_split}
use Rattle.std.specs.Option.{option_and_then}
use Rattle.std.proofs.lemmas.Bool.{and_parts, le-leb, leb-true}
use Rattle.wf_words.specs.Refusals.{◌>>=◌, refuse_if, found_or}
use Rattle.wf_pixel.specs.Choice.{is_between}
use Rattle.wf_script.specs.declared.rule.Rule.{Rule}
use Rattle.wf_script.specs.declared.rule.Rule.TheVariants as rule
use Rattle.wf_script.specs.Pick.{first, first_as}
use Rattle.wf_script.specs.Words.{Word, is_blank, is_word, words_in, count_in, digits_of, integer_in, integer_of}

-- steps that were all taken

module _ {E : Type 0} where
  pub bind_ok : {A B : Type 0} (r : Result A E) (f : A → Result B E) (y : B) → (r >>= f) ≡ Ok y → (x : A) × (r ≡ Ok x) × (f x ≡ Ok y)
  bind_ok (Ok x) f y h = (x, refl, h)
  bind_ok (Err e) f y h = absurd cc

  pub found_ok : {A : Type 0} (e : E) (o : Option A) (x : A) → found_or e o ≡ Ok x → o ≡ Some x
  found_ok e None x h = absurd cc
  found_ok e (Some y) x h = cc

  pub passed : (e : E) (b : Bool) (u : Unit {0}) → refuse_if e b ≡ Ok u → b ≡ false
  passed e true u h = absurd cc
  passed e false u h = refl

pub not_false : (b : Bool) → not b ≡ false → b ≡ true
not_false true h = refl
not_false false h = absurd cc

-- numbers in their ranges

pub in_range : (low high n m : ℕ) → (if nat_le low n && nat_le n high then Some n else None) ≡ Some m → (low ≤ m) × (m ≤ high)
in_range low high n m h =
    elim (nat_le low n) as (λ b. nat_le low n ≡ b → (if b && nat_le n high then Some n else None) ≡ Some m → (low ≤ m) × (m ≤ high)) [
      | true ↦ λ above. (elim (nat_le n high) as (λ b. nat_le n high ≡ b → (if b then Some n else None) ≡ Some m → (low ≤ m) × (m ≤ high)) [
        | true ↦ λ below same. (let is : n ≡ m = cc in let low_is = leb-true low n above in let high_is = leb-true n high below in
            (omega arith, omega arith))
        | false ↦ λ below same. absurd cc
      ] refl)
      | false ↦ λ above same. absurd cc
    ] refl h

pub count_within : (low high : ℕ) (w : Word) (n : ℕ) → count_in low high w ≡ Some n → (low ≤ n) × (n ≤ high)
unfolding count_in
count_within low high w n h = of_digits (digits_of w) h
  where
    of_digits : (o : Option ℕ) → option_and_then (λ m. if nat_le low m && nat_le m high then Some m else None) o ≡ Some n → (low ≤ n)
        × (n ≤ high)
    of_digits None h = absurd cc
    of_digits (Some m) h = in_range low high m n h

pub integer_within : (low high : ℤ) (w : Word) (z : ℤ) → integer_in low high w ≡ Some z → is_between low high z ≡ true
unfolding integer_in
integer_within low high w z h = of_integer (integer_of w) h
  where
    of_integer : (o : Option ℤ) → option_and_then (λ y. if is_between low high y then Some y else None) o ≡ Some z
        → is_between low high z ≡ true
    of_integer None h = absurd cc
    of_integer (Some y) h =
        elim (is_between low high y) as (λ b. is_between low high y ≡ b → (if b then Some y else None) ≡ Some z
        → is_between low high z ≡ true) [
          | true ↦ λ yes same. (let is : y ≡ z = cc in subst (λ (x : ℤ). is_between low high x ≡ true) is yes)
          | false ↦ λ no same. absurd cc
        ] refl h

pub first_kind : {A : Type 0} (kind : Word → Option A) (ws : List Word) (x : A × List Word) → first_as kind ws ≡ Ok x → (w : Word)
    × (kind w ≡ Some x.0)
first_kind {A} kind ws x h =
    let a = bind_ok (first ws) (λ w. found_or rule.Word (kind w.0) >>= (λ y. Ok (y, w.1))) x h in
    let b = bind_ok (found_or rule.Word (kind a.0.0)) (λ y. Ok (y, a.0.1)) x a.2 in
    let same : b.0 ≡ x.0 = ok_fst (b.0, a.0.1) x b.2 in
    (a.0.0, found_ok rule.Word (kind a.0.0) b.0 b.1 ∙ ap (λ (y : A). Some y) same)
  where
    ok_fst : (p q : A × List Word) → let r : Result (A × List Word) Rule = Ok p in let s : Result (A × List Word) Rule = Ok q in r ≡ s
        → p.0 ≡ q.0
    ok_fst p q h = cc

pub all_four : (a b c d : Bool) → a ≡ true → b ≡ true → c ≡ true → d ≡ true → (a && b && c && d) ≡ true
all_four a b c d ha hb hc hd = grind (arith, ha, hb, hc, hd)

pub at_most : (n high : ℕ) → n ≤ high → nat_le n high ≡ true
at_most n high h = le-leb n high h

pub all_three : (a b c : Bool) → a ≡ true → b ≡ true → c ≡ true → (a && b && c) ≡ true
all_three a b c ha hb hc = grind (arith, ha, hb, hc)

-- words have letters

-- a text of words that each have a letter
abbrev pub AreWords : List Word → Type 0
AreWords ws = IsTrue (list_all is_word ws)

pub filtered_words : (ws : List Word) → AreWords (filter is_word ws)
filtered_words [] = refl
filtered_words ([] ∷ ws) = filtered_words ws
filtered_words ((b ∷ bs) ∷ ws) = filtered_words ws

pub words_in_are : (text : List ℕ) → AreWords (words_in text)
unfolding words_in
words_in_are text = filtered_words (slice_split is_blank text)

pub long_word : (w : Word) → is_word w ≡ true → 1 ≤ length w
long_word [] h = absurd cc
long_word (b ∷ bs) h = omega arith

-- the first word by its kind, and those behind it
pub first_parts : {A : Type 0} (kind : Word → Option A) (w : Word) (ws : List Word) (x : A × List Word) → first_as kind (w ∷ ws) ≡ Ok x
    → (kind w ≡ Some x.0) × (x.1 ≡ ws)
first_parts {A} kind w ws x h =
    let b = bind_ok (found_or rule.Word (kind w)) (λ y. Ok (y, ws)) x h in
    let is : found_or rule.Word (kind w) ≡ Ok b.0 = b.1 in
    let same : (b.0, ws) ≡ x = ok_same (b.0, ws) x b.2 in
    (found_ok rule.Word (kind w) b.0 is ∙ ap (λ (p : A × List Word). Some p.0) same, ap (λ (p : A × List Word). p.1) (sym same))
  where
    ok_same : (p q : A × List Word) → (let r : Result (A × List Word) Rule = Ok p in let s : Result (A × List Word) Rule = Ok q in r ≡ s)
        → p ≡ q
    ok_same p q h = cc

pub first_long : (ws : List Word) (x : Word × List Word) → AreWords ws → first ws ≡ Ok x → 1 ≤ length x.0
first_long [] x words h = absurd cc
first_long (w ∷ ws) x words h =
    let same : w ≡ x.0 = ok_first (w, ws) x h in
    subst (λ (u : Word). 1 ≤ length u) same (long_word w (and_parts (is_word w) (list_all is_word ws) words).0)
  where
    ok_first : (p q : Word × List Word) → (let r : Result (Word × List Word) Rule = Ok p in let s : Result (Word × List Word) Rule = Ok q in
        r ≡ s) → p.0 ≡ q.0
    ok_first p q h = cc
