-- Rows of pixels, as bytes: one pixel of them, a part of them, and pixels taken one by one.
use Rattle.std.proofs.Common.{◌≡◌, ℕ, zero, suc, ◌+◌, ◌-◌, ◌*◌, ◌<◌, List, [], ◌∷◌, ◌++◌, length, get_or, refl, sym, ap}
use Rattle.std.proofs.Common.{◌∙◌, arith, zero-add}
use Rattle.std.specs.Prelude.{flat_map}
use Rattle.std.specs.List.{range_with_len}
use Rattle.std.specs.Simd.Lanes.{chunk}
use Rattle.std.proofs.lemmas.Simd.{get_or-chunk}
use Rattle.wf_pixel.specs.declared.Rgba.{Rgba}
use Rattle.wf_pixel.specs.declared.Format.TheVariants.{Rgba8Pre}
use Rattle.wf_image.specs.Bitmap.{stored, read_at, drawn_row}
use Rattle.wf_row.specs.Gather.{reversed}
pub use Rattle.wf_image.specs.Pieces.{pieces_same, pieces_shift, pieces_split, pieces-more}
pub use Rattle.wf_image.specs.Drawn.{cell, cells, read_ahead, read_drawn}

-- a pixel of a part of some bytes
pub read_chunk : (bytes : List ℕ) (at n i to : ℕ) → i < n → to ≡ at + 4 * i
    → read_at Rgba8Pre (chunk at (4 * n) bytes) (4 * i) ≡ read_at Rgba8Pre bytes to
read_chunk bytes at n i to within to_is =
    let one : at + (4 * i + 1) ≡ to + 1 = omega arith in
    let two : at + (4 * i + 2) ≡ to + 2 = omega arith in
    let three : at + (4 * i + 3) ≡ to + 3 = omega arith in
    λ j. record {
      r = (get_or-chunk at (4 * n) bytes (4 * i) 0 (omega arith) ∙ ap (λ (k : ℕ). get_or bytes k 0) (sym to_is)) j;
      g = (get_or-chunk at (4 * n) bytes (4 * i + 1) 0 (omega arith) ∙ ap (λ (k : ℕ). get_or bytes k 0) one) j;
      b = (get_or-chunk at (4 * n) bytes (4 * i + 2) 0 (omega arith) ∙ ap (λ (k : ℕ). get_or bytes k 0) two) j;
      a = (get_or-chunk at (4 * n) bytes (4 * i + 3) 0 (omega arith) ∙ ap (λ (k : ℕ). get_or bytes k 0) three) j;
    }

-- a drawn row from its last pixel to its first
pub reversed_drawn : (n : ℕ) (colour : ℕ → Rgba) → reversed (drawn_row n Rgba8Pre colour) ≡ drawn_row n Rgba8Pre (λ i. colour (n - 1 - i))
reversed_drawn zero colour = refl
reversed_drawn (suc n) colour =
    let cell_of : ℕ → List ℕ = λ i. stored Rgba8Pre (colour i) in
    let back : ℕ → List ℕ = λ i. stored Rgba8Pre (colour (suc n - 1 - i)) in
    let first : List ℕ = cell_of 0 in
    let front : reversed (flat_map cell_of (range_with_len 1 n)) ≡ flat_map back (range_with_len 0 n) =
    ap reversed (pieces_shift cell_of 1 0 n)
    ∙ reversed_drawn n (λ i. colour (1 + i))
    ∙ pieces_same (λ i. stored Rgba8Pre (colour (1 + (n - 1 - i)))) back 0 n
    (λ i low high. let at : 1 + (n - 1 - i) ≡ suc n - 1 - i = omega arith in ap cell_of at) in
    let last : first ≡ back n = let at : 0 ≡ suc n - 1 - n = omega arith in ap cell_of at in
    (λ i. front i ++ last i)
    ∙ sym (pieces-more back 0 n n (sym (zero-add n)))
    ∙ (let count : n + 1 ≡ suc n = omega arith in ap (λ (j : ℕ). flat_map back (range_with_len 0 j)) count)

-- pixels taken one by one at chosen places
pub gathered_drawn : (take_at : ℕ → List ℕ) (places : List ℕ) (n : ℕ) (colour : ℕ → Rgba) → length places ≡ n
    → ((i : ℕ) → i < n → take_at (get_or places i 0) ≡ stored Rgba8Pre (colour i)) → flat_map take_at places ≡ drawn_row n Rgba8Pre colour
gathered_drawn take_at [] zero colour len is = refl
gathered_drawn take_at [] (suc n) colour len is = absurd (omega arith)
gathered_drawn take_at (p ∷ places) zero colour len is = absurd (omega arith)
gathered_drawn take_at (p ∷ places) (suc n) colour len is =
    let cell_of : ℕ → List ℕ = λ i. stored Rgba8Pre (colour i) in
    let rest : flat_map take_at places ≡ flat_map cell_of (range_with_len 1 n) =
    gathered_drawn take_at places n (λ i. colour (1 + i)) (omega arith)
    (λ i less. let next : suc i ≡ 1 + i = omega arith in is (suc i) (omega arith) ∙ ap cell_of next)
    ∙ sym (pieces_shift cell_of 1 0 n) in
    λ j. is 0 (omega arith) j ++ rest j
