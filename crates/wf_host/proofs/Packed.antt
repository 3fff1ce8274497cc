-- Rows without a gap.
use Rattle.std.proofs.Common.{◌≡◌, ◌∙◌, ℕ, suc, ◌+◌, ◌-◌, ◌*◌, ◌≤◌, ◌&&◌, true, sym, ap, ap₂, arith}
use Rattle.std.proofs.lemmas.Bool.{le-leb}
use Rattle.std.proofs.Math.Nat.{le_refl, mul-suc, mul_right_comm}
use Rattle.wf_host.specs.Rows.{stands}

-- the bytes of an image are its rows
pub packed : (room w h b : ℕ) → 1 ≤ h → room ≡ w * h * b → stands room (w * b) (w * b) h ≡ true
packed room w h b some is =
    let k : ℕ = h - 1 in
    let more : h ≡ suc k = omega (arith, some) in
    let last : w * b * k + w * b ≡ room =
    sym (mul-suc (w * b) k) ∙ ap (λ n. w * b * n) (sym more) ∙ mul_right_comm w b h ∙ sym is in
    ap₂ (λ x y. x && y) (le-leb (w * b) (w * b) (le_refl (w * b))) (le-leb (w * b * k + w * b) room (omega (arith, last)))
