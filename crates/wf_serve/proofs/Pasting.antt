-- The rows that changed, in the place of those of the last picture, make the next one.
use Rattle.std.proofs.Common.{◌≡◌, ◌∙◌, ℕ, zero, suc, ◌+◌, ◌-◌, ◌*◌, ◌≤◌, Bool, true, false, List, ◌++◌, drop, length, take, refl, sym, ap}
use Rattle.std.proofs.Common.{arith}
use Rattle.std.specs.Prelude.{if◌then◌else◌}
use Rattle.std.proofs.Math.Nat.{add-mul, suc-mul}
use Rattle.std.proofs.Math.Seq.{take-add}
use Rattle.std.proofs.lemmas.List.{drop-drop, drop_all, take-append-drop}
use Rattle.std.proofs.lemmas.Slice.Eq.{bytes_eq-Decides}
use Rattle.wf_serve.specs.Bands.{band_in, band_of, end_changed, first_changed, pasted, row_of, same_row}

module _ (row : ℕ) (last next : List ℕ) where
  -- the first k rows are the same, and those from k on
  abbrev HasTop : ℕ → Type 0
  HasTop k = take (k * row) last ≡ take (k * row) next

  abbrev HasEnd : ℕ → Type 0
  HasEnd k = drop (k * row) last ≡ drop (k * row) next

  row_is : (y : ℕ) → same_row row y last next ≡ true → row_of row y last ≡ row_of row y next
  row_is y same = (bytes_eq-Decides (row_of row y last) (row_of row y next)).0 same

  more_top : (y : ℕ) → HasTop y → same_row row y last next ≡ true → HasTop (y + 1)
  more_top y top same =
      let count : (y + 1) * row ≡ y * row + row = ap (λ k. k * row) (let up : y + 1 ≡ suc y = omega arith in up) ∙ suc-mul y row in
      ap (λ k. take k last) count ∙ take-add (y * row) row last ∙ (λ i. top i ++ row_is y same i)
      ∙ sym (take-add (y * row) row next) ∙ sym (ap (λ k. take k next) count)

  top_same : (n y : ℕ) → HasTop y → HasTop (first_changed row n y last next)
  top_same zero y top = top
  top_same (suc n) y top = by_row (top_same n (y + 1)) (same_row row y last next) refl
    where
      by_row : (HasTop (y + 1) → HasTop (first_changed row n (y + 1) last next)) → (b : Bool) → same_row row y last next ≡ b
          → HasTop (if b then first_changed row n (y + 1) last next else y)
      by_row others true same = others (more_top y top same)
      by_row others false other = top

  beyond : (n : ℕ) (xs : List ℕ) → drop row (drop (n * row) xs) ≡ drop (suc n * row) xs
  beyond n xs = drop-drop row (n * row) xs ∙ ap (λ k. drop k xs) (sym (suc-mul n row))

  more_end : (n : ℕ) → HasEnd (suc n) → same_row row n last next ≡ true → HasEnd n
  more_end n end same =
      sym (take-append-drop row (drop (n * row) last))
      ∙ (λ i. row_is n same i ++ (beyond n last ∙ end ∙ sym (beyond n next)) i)
      ∙ take-append-drop row (drop (n * row) next)

  end_same : (n : ℕ) → HasEnd n → HasEnd (end_changed row n last next)
  end_same zero end = end
  end_same (suc n) end = by_row (end_same n) (same_row row n last next) refl
    where
      by_row : (HasEnd n → HasEnd (end_changed row n last next)) → (b : Bool) → same_row row n last next ≡ b
          → HasEnd (if b then end_changed row n last next else suc n)
      by_row others true same = others (more_end n end same)
      by_row others false other = end

  later : (k more : ℕ) (xs : List ℕ) → drop ((k + more) * row) xs ≡ drop (more * row) (drop (k * row) xs)
  later k more xs = ap (λ n. drop n xs) (add-mul k more row) ∙ sym (drop-drop (more * row) (k * row) xs)

  end_later : (k j : ℕ) → k ≤ j → HasEnd k → HasEnd j
  end_later k j most end =
      let parts : j ≡ k + (j - k) = omega (arith, most) in
      ap (λ n. drop (n * row) last) parts ∙ later k (j - k) last ∙ ap (drop ((j - k) * row)) end ∙ sym (later k (j - k) next)
      ∙ ap (λ n. drop (n * row) next) (sym parts)

  whole : (f c : ℕ) → HasTop f → HasEnd (f + c)
      → take (f * row) last ++ (take (c * row) (drop (f * row) next) ++ drop ((f + c) * row) last) ≡ next
  whole f c top end =
      (λ i. top i ++ (take (c * row) (drop (f * row) next) ++ (end ∙ later f c next) i))
      ∙ ap (λ l. take (f * row) next ++ l) (take-append-drop (c * row) (drop (f * row) next))
      ∙ take-append-drop (f * row) next

  pub completes : (h : ℕ) → length last ≡ h * row → length next ≡ h * row
      → pasted row (band_of row h last next) (band_in row (band_of row h last next) next) last ≡ next
  completes h long as_long =
      let f : ℕ = first_changed row h 0 last next in
      let m : ℕ = end_changed row h last next in
      let none : HasEnd h = drop_all (h * row) last (omega (arith, long)) ∙ sym (drop_all (h * row) next (omega (arith, as_long))) in
      let start : HasTop 0 = let zero_rows : 0 * row ≡ 0 = omega arith in
      ap (λ k. take k last) zero_rows ∙ sym (ap (λ k. take k next) zero_rows) in
      let after : m ≤ f + (m - f) = omega arith in
      whole f (m - f) (top_same h 0 start) (end_later m (f + (m - f)) after (end_same h none))
