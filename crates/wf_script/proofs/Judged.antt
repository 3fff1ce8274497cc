-- What reading words gives where the table says which rule they break.
use Rattle.std.proofs.Common.{◌≡◌, ◌∙◌, ℕ, zero, suc, Bool, true, false, not, ◌||◌, ◌==◌, List, [], ◌∷◌, length}
use Rattle.std.proofs.Common.{Option}
use Rattle.std.proofs.Common.{Some, None, Result, Ok, Err, refl, sym, ap, subst, arith}
use Rattle.std.specs.Prelude.{is_some, option_map, option_to_list, if◌then◌else◌}
use Rattle.std.specs.Str.{bytes_eq}
use Rattle.std.proofs.lemmas.Bool.{eqb-true}
use Rattle.std.proofs.lemmas.Bool.Decides.{nat_tests}
use Rattle.wf_words.specs.Refusals.{◌>>=◌, refuse_if, found_or}
use Rattle.wf_script.specs.declared.name.Name.{Name}
use Rattle.wf_script.specs.declared.rule.Rule.{Rule}
use Rattle.wf_script.specs.declared.rule.Rule.TheVariants as rule
use Rattle.wf_script.specs.Breaches.{Kind, off_count, off_kind, off_kinds}
use Rattle.wf_script.specs.Fields.{Shape, by_word, words}
use Rattle.wf_script.specs.Pick.{counted, first_as}
use Rattle.wf_script.specs.Words.{Word, handle_of, name_of, none_word}
use Rattle.wf_script.proofs.WordBack.{name_is}

module _ {A : Type 0} (P : A → Type 0) where
  -- words whose number is right: they break the rule on words, or give something of which P holds
  abbrev pub WordJudged : Result A Rule → Bool → Type 0
  WordJudged r true = r ≡ Err rule.Word
  WordJudged r false = (x : A) × (r ≡ Ok x) × P x

  -- words: they break the rule on their number, or are judged so
  abbrev pub Judged : Result A Rule → Bool → Bool → Type 0
  Judged r true word = r ≡ Err rule.Count
  Judged r false word = WordJudged r word

  -- a word of a kind, and what is behind it
  pub step : {B : Type 0} (kind : Word → Option B) (w : Word) (ws : List Word) (h : B × List Word → Result A Rule) (more : Bool)
      → ((x : B) → kind w ≡ Some x → WordJudged (h (x, ws)) more)
      → WordJudged (first_as kind (w ∷ ws) >>= h) (not (is_some (kind w)) || more)
  step {B = B} kind w ws h more others = of_kind (kind w) refl
    where
      of_kind : (o : Option B) → kind w ≡ o
          → WordJudged ((found_or rule.Word o >>= (λ x. Ok (x, ws))) >>= h) (not (is_some o) || more)
      of_kind None e = refl
      of_kind (Some x) e = others x e

  -- the same within other steps
  pub step_in : {B C : Type 0} (kind : Word → Option B) (w : Word) (ws : List Word) (f : B × List Word → Result C Rule)
      (h : C → Result A Rule) (more : Bool) → ((x : B) → kind w ≡ Some x → WordJudged (f (x, ws) >>= h) more)
      → WordJudged ((first_as kind (w ∷ ws) >>= f) >>= h) (not (is_some (kind w)) || more)
  step_in {B = B} kind w ws f h more others = of_kind (kind w) refl
    where
      of_kind : (o : Option B) → kind w ≡ o
          → WordJudged (((found_or rule.Word o >>= (λ x. Ok (x, ws))) >>= f) >>= h) (not (is_some o) || more)
      of_kind None e = refl
      of_kind (Some x) e = others x e

  -- a part that is judged, and what is made of it
  pub made_of : {B : Type 0} (Q : B → Type 0) (r : Result B Rule) (h : B → Result A Rule) (word : Bool)
      → (elim word as (λ _. Type 0) [ true ↦ r ≡ Err rule.Word | false ↦ (x : B) × (r ≡ Ok x) × Q x ])
      → ((x : B) → Q x → (y : A) × (h x ≡ Ok y) × P y) → WordJudged (r >>= h) word
  made_of Q r h true e others = ap (λ s. s >>= h) e
  made_of Q r h false found others =
      let y = others found.0 found.2 in (y.0, ap (λ s. s >>= h) found.1 ∙ y.1, y.2)

  -- the number of the words, and what is behind it
  pub counted_step : (n : ℕ) (ws : List Word) (h : Unit {0} → Result A Rule) (word : Bool)
      → ((length ws == n) ≡ true → WordJudged (h tt) word) → Judged (counted n ws >>= h) (not (length ws == n)) word
  counted_step n ws h word others = of_test (length ws == n) refl
    where
      of_test : (t : Bool) → (length ws == n) ≡ t → Judged (refuse_if rule.Count (not t) >>= h) (not t) word
      of_test true e = others e
      of_test false e = refl

  -- what is judged twice the same
  pub judged_at : (r : Result A Rule) (count count' word word' : Bool) → count ≡ count' → word ≡ word' → Judged r count word
      → Judged r count' word'
  judged_at r count count' word word' ec ew judged =
      subst (λ (t : Bool). Judged r t word') ec (subst (λ (t : Bool). Judged r count t) ew judged)

  pub word_judged_at : (r : Result A Rule) (word word' : Bool) → word ≡ word' → WordJudged r word → WordJudged r word'
  word_judged_at r word word' e judged = subst (λ (t : Bool). WordJudged r t) e judged

-- a part that is judged, and what is made of it
pub judged_made : {A B : Type 0} (Q : B → Type 0) (P : A → Type 0) (r : Result B Rule) (h : B → Result A Rule) (count word : Bool)
    → Judged Q r count word → ((x : B) → Q x → (y : A) × (h x ≡ Ok y) × P y) → Judged P (r >>= h) count word
judged_made Q P r h true word e others = ap (λ s. s >>= h) e
judged_made Q P r h false true e others = ap (λ s. s >>= h) e
judged_made Q P r h false false found others =
    let y = others found.0 found.2 in (y.0, ap (λ s. s >>= h) found.1 ∙ y.1, y.2)

-- a part that is judged before a word that stands in front of it
pub judged_before : {A B C : Type 0} (Q : B → Type 0) (P : A → Type 0) (r : Result B Rule) (o : Option C) (h : B → C → Result A Rule)
    (count word : Bool) → Judged Q r count word → ((x : B) (y : C) → Q x → o ≡ Some y → (z : A) × (h x y ≡ Ok z) × P z)
    → Judged P (r >>= (λ x. found_or rule.Word o >>= h x)) count (not (is_some o) || word)
judged_before Q P r o h true word e others = ap (λ s. s >>= (λ x. found_or rule.Word o >>= h x)) e
judged_before Q P r None h false true e others = ap (λ s. s >>= (λ x. found_or rule.Word None >>= h x)) e
judged_before Q P r None h false false found others = ap (λ s. s >>= (λ x. found_or rule.Word None >>= h x)) found.1
judged_before Q P r (Some y) h false true e others = ap (λ s. s >>= (λ x. h x y)) e
judged_before Q P r (Some y) h false false found others =
    let z = others found.0 y found.2 refl in (z.0, ap (λ s. s >>= (λ x. h x y)) found.1 ∙ z.1, z.2)

-- a word that decides which words there are
module _ {A D : Type 0} (P : Shape Kind → D → Type 0) (kind : Word → Option A) (kinds : A → List Kind) where
  pub decided_in : {C : Type 0} (w : Word) (ws all : List Word) (f : A × List Word → Result C Rule) (h : C → Result D Rule)
      → ((x : A) → kind w ≡ Some x
      → Judged (P (words (kinds x))) (f (x, ws) >>= h) (off_count (words (kinds x)) all) (off_kinds (kinds x) all))
      → Judged (P (by_word kinds (kind w))) ((first_as kind (w ∷ ws) >>= f) >>= h) (off_count (by_word kinds (kind w)) all)
      (off_kind (by_word kinds (kind w)) all)
  decided_in w ws all f h others = of_kind (kind w) refl
    where
      of_kind : (o : Option A) → kind w ≡ o
          → Judged (P (by_word kinds o)) (((found_or rule.Word o >>= (λ x. Ok (x, ws))) >>= f) >>= h) (off_count (by_word kinds o) all)
          (off_kind (by_word kinds o) all)
      of_kind None e = refl
      of_kind (Some x) e = others x e

-- so many words

of_cons : (n : ℕ) (ws : List Word) → (length ws == suc n) ≡ true → (P : List Word → Type 0)
    → ((w : Word) (vs : List Word) → (length vs == n) ≡ true → P (w ∷ vs)) → P ws
of_cons n [] e P f = absurd (let bad : 0 ≡ suc n = eqb-true 0 (suc n) e in omega arith)
of_cons n (w ∷ vs) e P f =
    let same : suc (length vs) ≡ suc n = eqb-true (suc (length vs)) (suc n) e in
    let less : length vs ≡ n = omega arith in
    f w vs (grind (arith, nat_tests, less))

of_none : (ws : List Word) → (length ws == 0) ≡ true → (P : List Word → Type 0) → P [] → P ws
of_none [] e P f = f
of_none (w ∷ vs) e P f = absurd (let bad : suc (length vs) ≡ 0 = eqb-true (suc (length vs)) 0 e in omega arith)

-- something of any n words
abbrev pub OfWords : ℕ → (List Word → Type 0) → Type 0
OfWords zero P = P []
OfWords (suc n) P = (w : Word) → OfWords n (λ ws. P (w ∷ ws))

pub exactly : (n : ℕ) (P : List Word → Type 0) → OfWords n P → (ws : List Word) → (length ws == n) ≡ true → P ws
exactly zero P f ws same = of_none ws same P f
exactly (suc n) P f ws same = of_cons n ws same P (λ w. exactly n (λ us. P (w ∷ us)) (f w))

-- two tests of one thing
pub same_test : (a b c d : ℕ) → (a ≡ b → c ≡ d) → (c ≡ d → a ≡ b) → (a == b) ≡ (c == d)
same_test a b c d forth back =
    elim (a == b) as (λ t. (a == b) ≡ t → t ≡ (c == d)) [
      | true ↦ λ is. (let same : c ≡ d = forth (eqb-true a b is) in grind (arith, nat_tests, same))
      | false ↦ λ isnt. elim (c == d) as (λ u. (c == d) ≡ u → false ≡ u) [
        | true ↦ λ other. absurd (let same : a ≡ b = back (eqb-true c d other) in grind (arith, nat_tests, same, isnt))
        | false ↦ λ other. refl
      ] refl
    ] refl

-- the name that a handle's word uses
pub handle_used : (w : Word) (x : Option Name) → handle_of w ≡ Some x
    → option_to_list x ≡ (if not (bytes_eq w none_word) then w ∷ [] else [])
unfolding handle_of
handle_used w x h =
    elim (bytes_eq w none_word) as (λ t. (if t then Some None else option_map (λ n. Some n) (name_of w)) ≡ Some x
    → option_to_list x ≡ (if not t then w ∷ [] else [])) [
      | true ↦ λ same. (let is : None ≡ x = cc in ap option_to_list (sym is))
      | false ↦ λ same. of_name (name_of w) refl same
    ] h
  where
    of_name : (o : Option Name) → name_of w ≡ o → option_map (λ n. Some n) o ≡ Some x → option_to_list x ≡ w ∷ []
    of_name None e same = absurd cc
    of_name (Some n) e same =
        let is : Some n ≡ x = cc in
        ap option_to_list (sym is) ∙ ap (λ (v : Word). v ∷ []) (sym (name_is w n e).0)
