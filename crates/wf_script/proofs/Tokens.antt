-- The bytes of printed words.
use Rattle.std.proofs.Common.{◌≡◌, ℕ, ◌+◌, ◌<◌, List, [], ◌∷◌, ◌++◌, refl, ap, sym, subst, add-one, arith, get_or, length, map, take}
use Rattle.std.proofs.lemmas.List.{flat_map_more, map_more}
use Rattle.std.proofs.lemmas.Bool.Decides.{nat_tests}
use Rattle.std.specs.Prelude.{ℤ, pos, negsuc, codes, decimal}
use Rattle.std.proofs.lemmas.Grind.{flat_map-append}
use Rattle.std.specs.Fmt.{signed_decimal}
use Rattle.std.specs.List.{flat_map}
use Rattle.wf_script.specs.Canonical.{canonical, event_text, pipes_text, port_text, text_line}
use Rattle.wf_script.specs.Spelled.{integer_word}
use Rattle.wf_script.specs.Script.{PlainScript}
use Rattle.wf_script.specs.Text.{Adds}
use Rattle.wf_script.specs.Token.{spaced}
use Rattle.wf_script.specs.Words.{Word}
use Rattle.wf_script.specs.declared.text.Text.{Text}
use Rattle.wf_script.proofs.Additions.{adds_both}

-- the decimal text of a number is its word
pub integer_word_signed : (z : ℤ) → signed_decimal z ≡ integer_word z
integer_word_signed (pos n) = refl
integer_word_signed (negsuc n) = ap (λ m. codes "-" ++ decimal m) (sym (add-one n))

spaced-append : (v w : List Word) → spaced (v ++ w) ≡ spaced v ++ spaced w
unfolding spaced
spaced-append v w = flat_map-append (λ word. codes " " ++ word) v w

-- words, and then more words
pub words_both : {S : Type 0} (took : S → List ℕ → Type 0) (faults : S → ℕ) (t u v : Text) (a b c : S) (x y : List Word)
    → Adds took faults t a u b (spaced x) → Adds took faults u b v c (spaced y) → Adds took faults t a v c (spaced (x ++ y))
words_both took faults t u v a b c x y first second =
    rw (spaced-append x y) (adds_both took faults t u v a b c (spaced x) (spaced y) first second)

-- words, and then one more
adds_one : {S : Type 0} (took : S → List ℕ → Type 0) (faults : S → ℕ) (t u v : Text) (a b c : S) (words : List Word) (w : Word)
    → Adds took faults t a u b (spaced words) → Adds took faults u b v c (codes " " ++ w)
    → Adds took faults t a v c (spaced (words ++ w ∷ []))
unfolding spaced
adds_one took faults t u v a b c words w before next =
    subst (λ (bytes : List ℕ). Adds took faults t a v c bytes) (flat_map_more (λ word. codes " " ++ word) [] words w)
    (adds_both took faults t u v a b c (spaced words) (codes " " ++ w) before next)

-- the first words that are told of a list, and then the next one
pub words_next : {S X : Type 0} (took : S → List ℕ → Type 0) (faults : S → ℕ) (f : X → Word) (xs : List X) (i : ℕ) (d : X)
    (t u v : Text) (a b c : S) → i < length xs → Adds took faults t a u b (spaced (map f (take i xs)))
    → Adds took faults u b v c (codes " " ++ f (get_or xs i d)) → Adds took faults t a v c (spaced (map f (take (i + 1) xs)))
unfolding spaced
words_next took faults f xs i d t u v a b c within before next =
    rw (map_more f xs i d within) (adds_one took faults t u v a b c (map f (take i xs)) (f (get_or xs i d)) before next)

pub pipes_text-some : (n : ℕ) → (n ≡ 0 → ⊥) → pipes_text n ≡ text_line (codes "pipes" ∷ decimal n ∷ [])
pipes_text-some n some = grind (arith, nat_tests)

module _ {S : Type 0} (took : S → List ℕ → Type 0) (faults : S → ℕ) where
  -- a word, the words behind it, and a line feed
  pub line_adds : (t u v x : Text) (a b c d : S) (first : Word) (rest : List Word) → Adds took faults t a u b first
      → Adds took faults u b v c (spaced rest) → Adds took faults v c x d (codes "\n")
      → Adds took faults t a x d (text_line (first ∷ rest))
  unfolding spaced
  line_adds t u v x a b c d first rest one more end =
      adds_both took faults t v x a c d (first ++ spaced rest) (codes "\n")
      (adds_both took faults t u v a b c first (spaced rest) one more) end

  -- the parts of a script
  pub script_adds : (script : PlainScript) (t u v w x y : Text) (a b c d e f : S) → Adds took faults t a u b (codes "WFS1\n")
      → Adds took faults u b v c (flat_map port_text script.ports.modes.items)
      → Adds took faults v c w d (pipes_text script.ports.pipes) → Adds took faults w d x e (flat_map event_text script.lines)
      → Adds took faults x e y f (codes "end\n") → Adds took faults t a y f (canonical script)
  unfolding canonical
  script_adds script t u v w x y a b c d e f head ports pipes lines end =
      adds_both took faults t x y a e f _ (codes "end\n")
      (adds_both took faults t w x a d e _ (flat_map event_text script.lines)
      (adds_both took faults t v w a c d _ (pipes_text script.ports.pipes)
      (adds_both took faults t u v a b c (codes "WFS1\n") (flat_map port_text script.ports.modes.items) head ports) pipes) lines) end
