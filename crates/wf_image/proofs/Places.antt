-- Places that are not empty.
use Rattle.std.proofs.Common.{◌≡◌, ℕ, suc, ◌+◌, ◌<◌, arith, Bool, true, List, [], ◌∷◌, ◌++◌, length, get_or, take, drop, refl, sym, ap, ◌∙◌}
use Rattle.std.proofs.Common.{cond}
use Rattle.std.specs.Prelude.{Option, Some, None, find, option_to_list}
use Rattle.std.specs.Option.{option_or}
use Rattle.std.proofs.Math.Seq.{take-suc, drop-cons}
use Rattle.std.proofs.lemmas.List.{take-append-drop}
use Rattle.std.proofs.lemmas.List.Elements.{filter_map-append}
use Rattle.std.proofs.lemmas.List.Folds.{find-append}
use Rattle.wf_image.specs.Contents.{somes, AreSomes}

module _ {X : Type 0} where
  -- one more value
  pub somes_put : (places : List (Option X)) (x : X) → somes (places ++ Some x ∷ []) ≡ somes places ++ x ∷ []
  somes_put places x = filter_map-append (λ place. place) places (Some x ∷ [])

  -- the values without the last one, and the last one
  pub somes_out : (places : List (Option X)) (last : Option X) → somes (places ++ last ∷ []) ≡ somes places ++ option_to_list last
  somes_out places None = filter_map-append (λ place. place) places (None ∷ [])
  somes_out places (Some x) = somes_put places x

  -- as many values as places
  pub length-somes : (places : List (Option X)) → AreSomes places → length (somes places) ≡ length places
  length-somes [] all = refl
  length-somes (None ∷ places) all = absurd cc
  length-somes (Some x ∷ places) all = ap (λ n. suc n) (length-somes places all)

  -- one place more that a search has passed
  pub find_past : (p : X → Bool) (places : List (Option X)) (i : ℕ) (o : Option X) → i < length places → o ≡ get_or places i o
      → find p (somes (take i places)) ≡ None → find p (somes (o ∷ [])) ≡ None
      → find p (somes (take (i + 1) places)) ≡ None
  find_past p places i o within at_i before here =
      let more : i + 1 ≡ suc i = omega arith in
      ap (λ n. find p (somes (take n places))) more
      ∙ ap (λ l. find p (somes l)) (take-suc places i o within)
      ∙ ap (λ x. find p (somes (take i places ++ x ∷ []))) (sym at_i)
      ∙ ap (find p) (filter_map-append (λ place. place) (take i places) (o ∷ []))
      ∙ find-append p (somes (take i places)) (somes (o ∷ []))
      ∙ ap (λ r. option_or r (find p (somes (o ∷ [])))) before
      ∙ here

  -- the value where a search stops
  pub find_here : (p : X → Bool) (places : List (Option X)) (i : ℕ) (o : Option X) (x : X) → i < length places → o ≡ get_or places i o
      → find p (somes (take i places)) ≡ None → o ≡ Some x → p x ≡ true
      → find p (somes places) ≡ Some x
  find_here p places i o x within at_i before here passes =
      ap (λ l. find p (somes l)) (sym (take-append-drop i places))
      ∙ ap (find p) (filter_map-append (λ place. place) (take i places) (drop i places))
      ∙ find-append p (somes (take i places)) (somes (drop i places))
      ∙ ap (λ r. option_or r (find p (somes (drop i places)))) before
      ∙ ap (λ l. find p (somes l)) (drop-cons places i o within)
      ∙ ap (λ r. find p (somes (r ∷ drop (suc i) places))) (sym at_i ∙ here)
      ∙ ap (λ b. cond b (Some x) (find p (somes (drop (suc i) places)))) passes
