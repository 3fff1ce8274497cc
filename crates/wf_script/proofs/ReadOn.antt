-- Words that are read by their kinds, one after the other.
use Rattle.std.proofs.Common.{◌≡◌, ◌∙◌, ℕ, ◌+◌, ◌<◌, List, [], ◌∷◌, ◌++◌, length, drop, get_or, Option, Some, None, Result}
use Rattle.std.proofs.Common.{Ok, Err, refl, sym}
use Rattle.std.proofs.Common.{ap, append-nil, length-append}
use Rattle.std.proofs.lemmas.List.{drop_more}
use Rattle.wf_words.specs.Refusals.{◌>>=◌}
use Rattle.wf_script.specs.declared.field.Field.{Field}
use Rattle.wf_script.specs.declared.rule.Rule.{Rule}
use Rattle.wf_script.specs.declared.rule.Rule.TheVariants as rule
use Rattle.wf_script.specs.Fields.{Item, Shape, read, read_all, read_shape, words}
use Rattle.wf_script.specs.Items.{behind}
use Rattle.wf_script.specs.Pick.{counted, first_as}
use Rattle.wf_script.specs.Words.{Word}
use Rattle.wf_script.proofs.Behind.{joined, none_before}

-- what breaks a rule breaks it behind other items too
broken_before : (old : List Item) (r : Result (List Item) Rule) (e : Rule) → behind old r ≡ Err e → r ≡ Err e
broken_before old (Ok is) e h = absurd cc
broken_before old (Err f) e h = cc

-- a word of a kind, and those of other kinds behind it
abbrev and_others : Option Item → Result (List Item) Rule → Result (List Item) Rule
and_others None others = Err rule.Word
and_others (Some x) others = others >>= (λ is. Ok (x ∷ is))

one_more : (k : Field) (ks : List Field) (w : Word) (ws : List Word) → read_all (k ∷ ks) (w ∷ ws) ≡ and_others (read k w) (read_all ks ws)
unfolding read_all
one_more k ks w ws =
    elim (read k w) as (λ o. first_as (λ _. o) (w ∷ ws) >>= (λ x. read_all ks x.1 >>= (λ is. Ok (x.0 ∷ is)))
    ≡ and_others o (read_all ks ws)) [
      | None ↦ refl
      | Some x ↦ refl
    ]

-- the kind at place i, of those that are left of a list with others behind it
module _ (ks : List Field) (i : ℕ) (d : Field) (within : i < length ks) (old now : List Item) (r : Result (List Item) Rule) where
  pub no_word : (others : List Field) → behind old r ≡ behind now (read_all (drop i ks ++ others) []) → r ≡ Err rule.Count
  unfolding read_all
  no_word others h =
      broken_before old r rule.Count (h ∙ ap (λ fs. behind now (read_all (fs ++ others) [])) (drop_more ks i d within))

  -- a word, by what its kind reads
  at_word : (others : List Field) (w : Word) (ws : List Word) (o : Option Item) → o ≡ read (get_or ks i d) w
      → behind old r ≡ behind now (read_all (drop i ks ++ others) (w ∷ ws))
      → behind old r ≡ behind now (and_others o (read_all (drop (i + 1) ks ++ others) ws))
  at_word others w ws o is h =
      h ∙ ap (λ fs. behind now (read_all (fs ++ others) (w ∷ ws))) (drop_more ks i d within)
      ∙ ap (behind now) (one_more (get_or ks i d) (drop (i + 1) ks ++ others) w ws
      ∙ ap (λ p. and_others p (read_all (drop (i + 1) ks ++ others) ws)) (sym is))

  pub no_item : (others : List Field) (w : Word) (ws : List Word) → None ≡ read (get_or ks i d) w
      → behind old r ≡ behind now (read_all (drop i ks ++ others) (w ∷ ws)) → r ≡ Err rule.Word
  no_item others w ws none h = broken_before old r rule.Word (at_word others w ws None none h)

  pub item_more : (others : List Field) (w : Word) (ws : List Word) (x : Item) → Some x ≡ read (get_or ks i d) w
      → behind old r ≡ behind now (read_all (drop i ks ++ others) (w ∷ ws))
      → behind old r ≡ behind (now ++ x ∷ []) (read_all (drop (i + 1) ks ++ others) ws)
  item_more others w ws x some h =
      at_word others w ws (Some x) some h ∙ joined now x (read_all (drop (i + 1) ks ++ others) ws)

-- words of some kinds were read, and then those of more kinds, or they break a rule
module _ (s : Shape Field) (front more : List Field) (ws rest : List Word) (before : List Item) (shaped : s ≡ words (front ++ more))
    (count : counted (length front + length more) ws ≡ Ok tt)
    (first : behind [] (read_all (front ++ more) ws) ≡ behind before (read_all more rest)) where
  shape_reads : read_shape s ws ≡ behind before (read_all more rest)
  shape_reads =
      ap (λ t. read_shape t ws) shaped
      ∙ ap (λ r. r >>= (λ _. read_all (front ++ more) ws)) (ap (λ n. counted n ws) (length-append front more) ∙ count)
      ∙ sym (none_before (read_all (front ++ more) ws)) ∙ first

  pub both_read : (all : List Item) (last : List Word) → behind before (read_all (more ++ []) rest) ≡ behind all (read_all [] last)
      → read_shape s ws ≡ Ok all
  unfolding read_all
  both_read all last second =
      shape_reads ∙ ap (λ fs. behind before (read_all fs rest)) (sym (append-nil more)) ∙ second ∙ ap (λ is. Ok is) (append-nil all)

  pub second_breaks : (e : Rule) → read_all (more ++ []) rest ≡ Err e → read_shape s ws ≡ Err e
  second_breaks e broken =
      shape_reads ∙ ap (λ fs. behind before (read_all fs rest)) (sym (append-nil more)) ∙ ap (behind before) broken
