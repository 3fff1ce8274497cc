-- Rows that are looked at one after another, from the top and from the bottom.
use Rattle.std.proofs.Common.{◌≡◌, ◌∙◌, ℕ, suc, ◌+◌, ◌-◌, ◌*◌, ◌<◌, ◌≤◌, true, false, List, refl, sym, ap, arith}
use Rattle.std.proofs.Math.Nat.{mul-le-mul_right}
use Rattle.wf_serve.specs.Bands.{end_changed, first_changed, same_row}

-- a row of some stands in as many bytes
pub row_fits : (y n row room : ℕ) → y < n → n * row ≤ room → y * row + row ≤ room
row_fits y n row room more fits =
    let up : suc y * row ≤ n * row = mul-le-mul_right row more in
    let next : suc y * row ≡ y * row + row = omega arith in omega (arith, up, next, fits)

module _ (row n y : ℕ) (last next : List ℕ) (more : y < n) where
  left : n - y ≡ suc (n - (y + 1))
  left = omega (arith, more)

  pub from_top : same_row row y last next ≡ true
      → first_changed row (n - y) y last next ≡ first_changed row (n - (y + 1)) (y + 1) last next
  from_top same = ap (λ k. first_changed row k y last next) left ∙ rw same refl

  pub top_found : same_row row y last next ≡ false → first_changed row (n - y) y last next ≡ y
  top_found other = ap (λ k. first_changed row k y last next) left ∙ rw other refl

  below : n - y - 1 ≡ n - (y + 1)
  below = omega arith

  pub from_bottom : same_row row (n - y - 1) last next ≡ true → end_changed row (n - y) last next ≡ end_changed row (n - (y + 1)) last next
  from_bottom same =
      let here = sym (ap (λ k. same_row row k last next) below) ∙ same in
      ap (λ k. end_changed row k last next) left ∙ rw here refl

  pub bottom_found : same_row row (n - y - 1) last next ≡ false → end_changed row (n - y) last next ≡ n - y
  bottom_found other =
      let here = sym (ap (λ k. same_row row k last next) below) ∙ other in
      ap (λ k. end_changed row k last next) left ∙ rw here (sym left)
