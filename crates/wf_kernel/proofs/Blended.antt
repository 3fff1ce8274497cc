-- Pixels blended as bytes are the pixels of a layer that is laid.
use Rattle.std.proofs.Common.{◌≡◌, ℕ, zero, suc, ◌+◌, ◌*◌, ◌<◌, List, [], ◌∷◌, ◌++◌, length, get_or, refl, sym, ap, ◌∙◌, arith}
use Rattle.std.specs.Prelude.{flat_map, Option, None, Some}
use Rattle.std.specs.List.{range_with_len}
use Rattle.wf_pixel.specs.declared.Rgba.{Rgba}
use Rattle.wf_pixel.specs.declared.Format.TheVariants.{Rgba8Pre}
use Rattle.wf_pixel.specs.Arithmetic.{over, scaled}
use Rattle.wf_row.specs.declared.AlphaMode.{AlphaMode}
use Rattle.wf_row.specs.declared.AlphaMode.TheVariants.{Premultiplied, Straight, Opaque}
use Rattle.wf_row.specs.Bytes.{over_bytes, masked_bytes, lifted, blended, blended_masked}
use Rattle.wf_image.specs.Bitmap.{stored, read_at, drawn_row}
use Rattle.wf_kernel.specs.Laid.{laid, lifted_pixel}
use Rattle.wf_kernel.proofs.Pieces.{length-pieces}
use Rattle.wf_kernel.proofs.Pixels.{pieces_same, pieces_shift, read_ahead, read_drawn}
use Rattle.wf_kernel.proofs.Laid.{laid_same}

-- ---- blending by pixels
pub lifted_cell : (mode : AlphaMode) (fade : Option ℕ) (r g b a : ℕ) (ps : List ℕ)
    → lifted mode fade (r ∷ g ∷ b ∷ a ∷ ps) ≡ stored Rgba8Pre (lifted_pixel mode fade (record { r = r; g = g; b = b; a = a }))
    ++ lifted mode fade ps
lifted_cell Premultiplied (Some k) r g b a ps = refl
lifted_cell Premultiplied None r g b a ps = refl
lifted_cell Straight (Some k) r g b a ps = refl
lifted_cell Straight None r g b a ps = refl
lifted_cell Opaque (Some k) r g b a ps = refl
lifted_cell Opaque None r g b a ps = refl

pub read_further : (r g b a i : ℕ) (ps : List ℕ) → read_at Rgba8Pre (r ∷ g ∷ b ∷ a ∷ ps) (4 * (1 + i)) ≡ read_at Rgba8Pre ps (4 * i)
read_further r g b a i ps =
    let at : 4 * (1 + i) ≡ suc (suc (suc (suc (4 * i)))) = omega arith in
    ap (read_at Rgba8Pre (r ∷ g ∷ b ∷ a ∷ ps)) at ∙ read_ahead (r ∷ g ∷ b ∷ a ∷ ps) (suc (suc (suc (suc (4 * i)))))
    ∙ sym (read_ahead ps (4 * i))

pub lifted_none : (mode : AlphaMode) (fade : Option ℕ) → lifted mode fade [] ≡ []
lifted_none Premultiplied (Some k) = refl
lifted_none Premultiplied None = refl
lifted_none Straight (Some k) = refl
lifted_none Straight None = refl
lifted_none Opaque (Some k) = refl
lifted_none Opaque None = refl

pub blended_drawn : (mode : AlphaMode) (fade : Option ℕ) (n : ℕ) (src old : List ℕ) → length src ≡ 4 * n → length old ≡ 4 * n
    → blended mode fade src old ≡ drawn_row n Rgba8Pre
    (λ i. over (lifted_pixel mode fade (read_at Rgba8Pre src (4 * i))) (read_at Rgba8Pre old (4 * i)))
blended_drawn mode fade zero [] old s o = ap (λ (l : List ℕ). over_bytes l old) (lifted_none mode fade)
blended_drawn mode fade zero (r ∷ ps) old s o = absurd (omega arith)
blended_drawn mode fade (suc n) [] old s o = absurd (omega arith)
blended_drawn mode fade (suc n) (r ∷ []) old s o = absurd (omega arith)
blended_drawn mode fade (suc n) (r ∷ g ∷ []) old s o = absurd (omega arith)
blended_drawn mode fade (suc n) (r ∷ g ∷ b ∷ []) old s o = absurd (omega arith)
blended_drawn mode fade (suc n) (r ∷ g ∷ b ∷ a ∷ ps) [] s o = absurd (omega arith)
blended_drawn mode fade (suc n) (r ∷ g ∷ b ∷ a ∷ ps) (u ∷ []) s o = absurd (omega arith)
blended_drawn mode fade (suc n) (r ∷ g ∷ b ∷ a ∷ ps) (u ∷ v ∷ []) s o = absurd (omega arith)
blended_drawn mode fade (suc n) (r ∷ g ∷ b ∷ a ∷ ps) (u ∷ v ∷ w ∷ []) s o = absurd (omega arith)
blended_drawn mode fade (suc n) (r ∷ g ∷ b ∷ a ∷ ps) (u ∷ v ∷ w ∷ z ∷ ds) s o =
    let src : List ℕ = r ∷ g ∷ b ∷ a ∷ ps in
    let old : List ℕ = u ∷ v ∷ w ∷ z ∷ ds in
    let p : Rgba = lifted_pixel mode fade (record { r = r; g = g; b = b; a = a }) in
    let d : Rgba = record { r = u; g = v; b = w; a = z } in
    let cells_of : ℕ
    → List ℕ = λ i. stored Rgba8Pre (over (lifted_pixel mode fade (read_at Rgba8Pre src (4 * i))) (read_at Rgba8Pre old (4 * i))) in
    let rest : ℕ
    → List ℕ = λ i. stored Rgba8Pre (over (lifted_pixel mode fade (read_at Rgba8Pre ps (4 * i))) (read_at Rgba8Pre ds (4 * i))) in
    let tail : flat_map rest (range_with_len 0 n) ≡ flat_map cells_of (range_with_len 1 n) =
    pieces_same rest (λ i. cells_of (1 + i)) 0 n
    (λ i low high j. stored Rgba8Pre (over (lifted_pixel mode fade (sym (read_further r g b a i ps) j))
    (sym (read_further u v w z i ds) j)))
    ∙ sym (pieces_shift cells_of 1 0 n) in
    ap (λ (l : List ℕ). over_bytes l old) (lifted_cell mode fade r g b a ps)
    ∙ ap (λ (l : List ℕ). stored Rgba8Pre (over p d) ++ l) (blended_drawn mode fade n ps ds (omega arith) (omega arith) ∙ tail)

-- ---- blending through a mask by pixels
pub masked_drawn : (mode : AlphaMode) (fade : Option ℕ) (n : ℕ) (ms src old : List ℕ) → length ms ≡ n → length src ≡ 4 * n
    → length old ≡ 4 * n
    → blended_masked mode fade ms src old ≡ drawn_row n Rgba8Pre
    (λ i. over (scaled (lifted_pixel mode fade (read_at Rgba8Pre src (4 * i))) (get_or ms i 0)) (read_at Rgba8Pre old (4 * i)))
masked_drawn mode fade zero [] src old v s o = refl
masked_drawn mode fade zero (m ∷ ms) src old v s o = absurd (omega arith)
masked_drawn mode fade (suc n) [] src old v s o = absurd (omega arith)
masked_drawn mode fade (suc n) (m ∷ ms) [] old v s o = absurd (omega arith)
masked_drawn mode fade (suc n) (m ∷ ms) (r ∷ []) old v s o = absurd (omega arith)
masked_drawn mode fade (suc n) (m ∷ ms) (r ∷ g ∷ []) old v s o = absurd (omega arith)
masked_drawn mode fade (suc n) (m ∷ ms) (r ∷ g ∷ b ∷ []) old v s o = absurd (omega arith)
masked_drawn mode fade (suc n) (m ∷ ms) (r ∷ g ∷ b ∷ a ∷ ps) [] v s o = absurd (omega arith)
masked_drawn mode fade (suc n) (m ∷ ms) (r ∷ g ∷ b ∷ a ∷ ps) (u ∷ []) v s o = absurd (omega arith)
masked_drawn mode fade (suc n) (m ∷ ms) (r ∷ g ∷ b ∷ a ∷ ps) (u ∷ w ∷ []) v s o = absurd (omega arith)
masked_drawn mode fade (suc n) (m ∷ ms) (r ∷ g ∷ b ∷ a ∷ ps) (u ∷ w ∷ x ∷ []) v s o = absurd (omega arith)
masked_drawn mode fade (suc n) (m ∷ ms) (r ∷ g ∷ b ∷ a ∷ ps) (u ∷ w ∷ x ∷ z ∷ ds) v s o =
    let src : List ℕ = r ∷ g ∷ b ∷ a ∷ ps in
    let old : List ℕ = u ∷ w ∷ x ∷ z ∷ ds in
    let all : List ℕ = m ∷ ms in
    let p : Rgba = scaled (lifted_pixel mode fade (record { r = r; g = g; b = b; a = a })) m in
    let d : Rgba = record { r = u; g = w; b = x; a = z } in
    let cells_of : ℕ
    → List ℕ =
    λ i. stored Rgba8Pre (over (scaled (lifted_pixel mode fade (read_at Rgba8Pre src (4 * i))) (get_or all i 0))
    (read_at Rgba8Pre old (4 * i))) in
    let rest : ℕ
    → List ℕ =
    λ i. stored Rgba8Pre (over (scaled (lifted_pixel mode fade (read_at Rgba8Pre ps (4 * i))) (get_or ms i 0))
    (read_at Rgba8Pre ds (4 * i))) in
    let tail : flat_map rest (range_with_len 0 n) ≡ flat_map cells_of (range_with_len 1 n) =
    pieces_same rest (λ i. cells_of (1 + i)) 0 n
    (λ i low high.
    let next : suc i ≡ 1 + i = omega arith in
    λ j. stored Rgba8Pre (over (scaled (lifted_pixel mode fade (sym (read_further r g b a i ps) j)) (get_or all (next j) 0))
    (sym (read_further u w x z i ds) j)))
    ∙ sym (pieces_shift cells_of 1 0 n) in
    ap (λ (l : List ℕ). over_bytes (masked_bytes all l) old) (lifted_cell mode fade r g b a ps)
    ∙ ap (λ (l : List ℕ). stored Rgba8Pre (over p d) ++ l) (masked_drawn mode fade n ms ps ds (omega arith) (omega arith) (omega arith)
    ∙ tail)

-- ---- as a layer that is laid
pub blended_laid : (mode : AlphaMode) (fade : Option ℕ) (n : ℕ) (colour : ℕ → Rgba) (line old : List ℕ) → line ≡ drawn_row n Rgba8Pre colour
    → length old ≡ 4 * n
    → blended mode fade line old ≡ laid n (λ i. Some (lifted_pixel mode fade (colour i))) old
blended_laid mode fade n colour line old line_is count =
    let len : length line ≡ 4 * n = ap length line_is ∙ length-pieces (λ i. stored Rgba8Pre (colour i)) 4 0 n (λ i. refl) in
    blended_drawn mode fade n line old len count
    ∙ laid_same n (λ i. Some (lifted_pixel mode fade (read_at Rgba8Pre line (4 * i)))) (λ i. Some (lifted_pixel mode fade (colour i))) old
    (λ i low. ap (λ (c : Rgba). Some (lifted_pixel mode fade c)) (ap (λ (bytes : List ℕ). read_at Rgba8Pre bytes (4 * i)) line_is
    ∙ read_drawn n colour i low))

pub masked_laid : (mode : AlphaMode) (fade : Option ℕ) (n : ℕ) (value : ℕ → ℕ) (line old ms : List ℕ) → length line ≡ 4 * n
    → length old ≡ 4 * n → length ms ≡ n
    → ((i : ℕ) → i < n → get_or ms i 0 ≡ value i)
    → blended_masked mode fade ms line old ≡ laid n (λ i. Some (scaled (lifted_pixel mode fade (read_at Rgba8Pre line (4 * i))) (value i)))
    old
masked_laid mode fade n value line old ms len count values is =
    masked_drawn mode fade n ms line old values len count
    ∙ laid_same n (λ i. Some (scaled (lifted_pixel mode fade (read_at Rgba8Pre line (4 * i))) (get_or ms i 0)))
    (λ i. Some (scaled (lifted_pixel mode fade (read_at Rgba8Pre line (4 * i))) (value i))) old
    (λ i low. ap (λ (m : ℕ). Some (scaled (lifted_pixel mode fade (read_at Rgba8Pre line (4 * i))) m)) (is i low))
