-- Arguments, one by one, by their kinds.
use Rattle.std.proofs.Common.{◌≡◌, ◌∙◌, ℕ, ◌+◌, ◌<◌, ◌≤◌, ◌==◌, Bool, true, false, ◌&&◌, List, length, take, get_or, refl, sym, ap}
use Rattle.std.proofs.Common.{subst, arith}
use Rattle.std.specs.List.{list_all, zip}
use Rattle.std.proofs.lemmas.List.{take_all}
use Rattle.std.proofs.lemmas.List.Folds.{list_all_at, list_all_more}
use Rattle.std.proofs.lemmas.Slice.Zip.{get_or-zip, length-zip}
use Rattle.wf_wire.specs.declared.kind.Kind.{Kind}
use Rattle.wf_wire.specs.Messages.{are_of_kinds, is_of_kind}

module _ (kinds : List Kind) (bits : List ℕ) (same : length kinds ≡ length bits) where
  all_long : length (zip kinds bits) ≡ length kinds
  all_long = let h = length-zip kinds bits in omega (arith, h, same)

  abbrev one_is : Kind × ℕ → Bool
  one_is x = is_of_kind x.0 x.1

  one_at : (i : ℕ) (kind : Kind) (one : ℕ) → i < length kinds → one_is (get_or (zip kinds bits) i (kind, one))
      ≡ is_of_kind (get_or kinds i kind) (get_or bits i one)
  one_at i kind one within = ap one_is (get_or-zip kinds bits i (kind, one) within (omega (arith, within, same)))

  -- one argument more
  pub more : (i : ℕ) (kind : Kind) (one : ℕ) → i < length kinds → list_all one_is (take (i + 1) (zip kinds bits))
      ≡ (list_all one_is (take i (zip kinds bits)) && is_of_kind (get_or kinds i kind) (get_or bits i one))
  more i kind one within =
      list_all_more one_is (zip kinds bits) i (kind, one) (omega (arith, within, all_long))
      ∙ ap (λ (b : Bool). list_all one_is (take i (zip kinds bits)) && b) (one_at i kind one within)

  -- one that is out of its range
  pub not_one : (i : ℕ) (kind : Kind) (one : ℕ) → i < length kinds → is_of_kind (get_or kinds i kind) (get_or bits i one) ≡ false
      → false ≡ are_of_kinds kinds bits
  not_one i kind one within out =
      let none : list_all one_is (zip kinds bits) ≡ false =
      list_all_at one_is (zip kinds bits) i (kind, one) (omega (arith, within, all_long)) (one_at i kind one within ∙ out) in
      elim (length kinds == length bits) as (λ b. false ≡ (b && list_all one_is (zip kinds bits))) [ true ↦ sym none | false ↦ refl ]

  pub all_of : (i : ℕ) → length kinds ≤ i → list_all one_is (take i (zip kinds bits)) ≡ true → list_all one_is (zip kinds bits) ≡ true
  all_of i past all = sym (ap (list_all one_is) (take_all i (zip kinds bits) (omega (arith, past, all_long)))) ∙ all
