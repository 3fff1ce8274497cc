-- Steps of reading that were all taken, and what was then at the front of the bytes.
use Rattle.std.proofs.Common.{◌≡◌, ◌∙◌, ℕ, ◌+◌, ◌<◌, ◌≤◌, Bool, true, false, not, nat_le, List, ◌++◌, length, get_or, take, drop}
use Rattle.std.proofs.Common.{Result, Ok, Err, refl, sym, ap, append_assoc, arith, inl, inr, length-append}
use Rattle.std.proofs.lemmas.Bool.{and_from, and_parts, cases_lt, le-leb, leb-true}
use Rattle.std.proofs.lemmas.List.{get_or-drop, get_or-take, get_or_past, length-take}
use Rattle.wf_words.specs.Refusals.{◌>>=◌, refuse_if}
use Rattle.wf_film.specs.declared.rule.Breach.{Breach}
use Rattle.wf_film.specs.Reading.{is_within}

-- steps that were all taken

pub bind_ok : {A B : Type 0} (r : Result A Breach) (f : A → Result B Breach) (y : B) → (r >>= f) ≡ Ok y
    → (x : A) × (r ≡ Ok x) × (f x ≡ Ok y)
bind_ok (Ok x) f y h = (x, refl, h)
bind_ok (Err e) f y h = absurd cc

pub passed : (e : Breach) (b : Bool) (u : Unit {0}) → refuse_if e b ≡ Ok u → b ≡ false
passed e true u h = absurd cc
passed e false u h = refl

abbrev done : {A : Type 0} → A → Result A Breach
done x = Ok x

pub ok_is : {A : Type 0} (x y : A) → done x ≡ done y → x ≡ y
ok_is x y h = cc

-- ranges

pub not_false : (b : Bool) → not b ≡ false → b ≡ true
not_false true h = refl
not_false false h = absurd cc

pub is_in_range : (low high n : ℕ) → not (is_within low high n) ≡ false → (low ≤ n) × (n ≤ high)
is_in_range low high n h =
    let parts = and_parts (nat_le low n) (nat_le n high) (not_false (is_within low high n) h) in
    (leb-true low n parts.0, leb-true n high parts.1)

pub stays_in_range : (low high n : ℕ) → low ≤ n → n ≤ high → not (is_within low high n) ≡ false
stays_in_range low high n above below =
    ap not (and_from (nat_le low n) (nat_le n high) (le-leb low n above) (le-leb n high below))

-- bytes

abbrev pub AreBytes : List ℕ → Type 0
AreBytes bytes = (i : ℕ) → get_or bytes i 0 < 256

pub bytes_behind : (n : ℕ) (bytes : List ℕ) → AreBytes bytes → AreBytes (drop n bytes)
bytes_behind n bytes fits i = rw get_or-drop (fits (n + i))

pub bytes_before : (n : ℕ) (bytes : List ℕ) → AreBytes bytes → AreBytes (take n bytes)
bytes_before n bytes fits i =
    elim (cases_lt i n) [
      | inl lt ↦ rw (get_or-take n bytes i 0 lt) (fits i)
      | inr le ↦ rw (get_or_past (take n bytes) i 0 (omega (arith, length-take n bytes))) (omega arith)
    ]

-- a text stands at the front of bytes, and then the rest
pub record Takes (bytes text rest : List ℕ) : Type 0 where
  pub parts : bytes ≡ text ++ rest
  pub fits : AreBytes rest

pub takes_both : (a x b y c : List ℕ) → Takes a x b → Takes b y c → Takes a (x ++ y) c
takes_both a x b y c first second = record {
  parts = first.parts ∙ ap (λ (t : List ℕ). x ++ t) second.parts ∙ sym (append_assoc x y c);
  fits = second.fits;
}

pub takes_length : (bytes text rest : List ℕ) → Takes bytes text rest → length bytes ≡ length text + length rest
takes_length bytes text rest takes = ap length takes.parts ∙ length-append text rest
