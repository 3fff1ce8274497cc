-- Pixels that are gathered.
use Rattle.std.proofs.Common.{◌≡◌, ℕ, zero, suc, ◌+◌, ◌*◌, ◌<◌, ◌≤◌, List, [], ◌∷◌, ◌++◌, length, take, drop, get_or, refl, sym, ap, ◌∙◌}
use Rattle.std.proofs.Common.{arith, length-append}
use Rattle.std.specs.Simd.Lanes.{Each1, chunk}
use Rattle.std.proofs.Math.Seq.{drop-append_seam}
use Rattle.std.proofs.lemmas.List.{drop-drop, take_at}
use Rattle.std.proofs.lemmas.Simd.{Each1-chunk, length-chunk}
use Rattle.wf_row.specs.Gather.{gathered_row}
use Rattle.wf_row.proofs.Reversals.{each_append}

-- each column has a pixel in the row
abbrev AreWithin : List ℕ → List ℕ → Type 0
AreWithin src columns = (i : ℕ) → i < length columns → 4 * get_or columns i 0 + 4 ≤ length src

module _ (src : List ℕ) where
  pub gathered_count : (columns : List ℕ) → AreWithin src columns → length (gathered_row src columns) ≡ 4 * length columns
  gathered_count [] within = refl
  gathered_count (c ∷ columns) within = omega (
    arith,
    length-append (chunk (4 * c) 4 src) (gathered_row src columns),
    length-chunk (4 * c) 4 src (within 0 (omega arith)),
    gathered_count columns (λ i less. within (suc i) (omega arith)),
  )

  -- the pixel at a place is that of the column there
  pub gathered_at : (i : ℕ) (columns : List ℕ) → AreWithin src columns → i < length columns
      → chunk (4 * i) 4 (gathered_row src columns) ≡ chunk (4 * get_or columns i 0) 4 src
  gathered_at i [] within less = absurd (omega arith)
  gathered_at zero (c ∷ columns) within less =
      take_at (chunk (4 * c) 4 src) (gathered_row src columns) 4 (length-chunk (4 * c) 4 src (within 0 (omega arith)))
  gathered_at (suc i) (c ∷ columns) within less =
      let first : List ℕ = chunk (4 * c) 4 src in
      let rest : List ℕ = gathered_row src columns in
      let next : 4 * suc i ≡ 4 + 4 * i = omega arith in
      let count : 4 ≡ length first = sym (length-chunk (4 * c) 4 src (within 0 (omega arith))) in
      ap (λ (n : ℕ). take 4 (drop n (first ++ rest))) next
      ∙ ap (take 4) (sym (drop-drop (4 * i) 4 (first ++ rest)))
      ∙ ap (λ (n : ℕ). take 4 (drop (4 * i) (drop n (first ++ rest)))) count
      ∙ ap (λ (xs : List ℕ). take 4 (drop (4 * i) xs)) (drop-append_seam first rest)
      ∙ gathered_at i columns (λ j low. within (suc j) (omega arith)) (omega arith)

  pub each_gathered : (P : ℕ → Type 0) (columns : List ℕ) → Each1 P src → Each1 P (gathered_row src columns)
  each_gathered P [] each = tt
  each_gathered P (c ∷ columns) each =
      each_append P (chunk (4 * c) 4 src) (gathered_row src columns) (Each1-chunk P (4 * c) 4 src each) (each_gathered P columns each)
