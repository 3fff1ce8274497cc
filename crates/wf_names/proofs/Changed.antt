-- What a map tells once a name's value has changed.
use Rattle.std.proofs.Common.{◌≡◌, ◌∙◌, ℕ, true, List, Bor, Option, cond, refl, sym, ap}
use Rattle.std.proofs.lemmas.Cmp.{nat_cmp_total, tied_itself}
use Rattle.std.proofs.lemmas.Map.Text.{is_eq-slice_cmp}
use Rattle.std.proofs.lemmas.Slice.Eq.{bytes_eq-Decides}
use Rattle.std.specs.BTreeMap.{BTreeMap, UpdatesBy, get_by}
use Rattle.std.specs.Cmp.Lexicographic.{slice_cmp}
use Rattle.std.specs.declared.cmp.Ordering.{Ordering}
use Rattle.std.specs.declared.cmp.Ordering.TheVariants.{Less, Equal, Greater}
use Rattle.std.specs.Ordering.{is_eq, nat_cmp, ordering_then}
use Rattle.std.specs.Str.{bytes_eq}
use Rattle.wf_names.specs.Keys.{name_cmp, number_of}

-- the second order decides where it says that both are one only if the first does
second_decides : (first second : Ordering) → (is_eq second ≡ true → first ≡ Equal) → is_eq (ordering_then first second) ≡ is_eq second
second_decides Equal second same = refl
second_decides Less Less same = refl
second_decides Less Equal same = let e = same refl in cc
second_decides Less Greater same = refl
second_decides Greater Less same = refl
second_decides Greater Equal same = let e = same refl in cc
second_decides Greater Greater same = refl

-- keys of names are equal where the names are
keys_equal : (name word : List ℕ) → is_eq (ordering_then (nat_cmp (number_of name) (number_of word))
    (slice_cmp nat_cmp name word)) ≡ bytes_eq name word
keys_equal name word =
    second_decides (nat_cmp (number_of name) (number_of word)) (slice_cmp nat_cmp name word)
    (λ hit. ap (λ w. nat_cmp (number_of name) (number_of w)) (sym ((bytes_eq-Decides name word).0 (sym (is_eq-slice_cmp name word) ∙ hit)))
    ∙ tied_itself nat_cmp_total (number_of name))
    ∙ is_eq-slice_cmp name word

-- what is found behind a change at the key of a name, of a number that is told to be the name's
pub name_updates : {V : Type 0} (name : List ℕ) (number : ℕ) (m n : BTreeMap (ℕ × Bor (List ℕ)) V) (w : Option V) →
    number ≡ number_of name →
    UpdatesBy (λ x y. ordering_then (nat_cmp x.0 y.0) (slice_cmp nat_cmp x.1.now y.1.now))
    (λ key. ordering_then (nat_cmp number key.0) (slice_cmp nat_cmp name key.1.now)) m n w →
    (word : List ℕ) → get_by (name_cmp word) n ≡ cond (bytes_eq name word) w (get_by (name_cmp word) m)
name_updates name number m n w is updates word =
    updates.0 (number_of word, record { ref_ptr = (0, 0); now = word })
    ∙ ap (λ hit. cond hit w (get_by (name_cmp word) m))
    (ap (λ k. is_eq (ordering_then (nat_cmp k (number_of word)) (slice_cmp nat_cmp name word))) is ∙ keys_equal name word)
