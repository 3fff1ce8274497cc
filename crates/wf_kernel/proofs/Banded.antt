-- Bands of whole rows.
use Rattle.std.proofs.Common.{◌≡◌, ℕ, ◌+◌, ◌-◌, ◌*◌, ◌/◌, ◌%◌, ◌≤◌, List, ◌++◌, length, take, drop, refl, sym, ap, ◌∙◌, arith, add-zero}
use Rattle.std.proofs.Common.{append_assoc, zero-add}
use Rattle.std.specs.Prelude.{flat_map, IsTrue}
use Rattle.std.specs.List.{range_with_len}
use Rattle.std.proofs.lemmas.Nat.{div-add-mod', div-mul-add}
use Rattle.std.proofs.lemmas.Bool.Decides.{nat_tests}
use Rattle.std.proofs.lemmas.List.{drop_all, take_all, length-drop, drop-drop, append-nil}
use Rattle.wf_pixel.specs.declared.Rgba.{Rgba}
use Rattle.wf_pixel.specs.Choice.{is_side}
use Rattle.wf_kernel.specs.declared.splitting.Band.{Band}
use Rattle.wf_kernel.specs.Bands.{AreShares}
use Rattle.wf_kernel.specs.Bound.{Bound, bound_row, bound_rows}
use borrow.Rule.Slice.PartMut.{put_mid}
use Rattle.wf_kernel.proofs.Pieces.{length-pieces, step}
use Rattle.wf_kernel.proofs.Pixels.{pieces_split, pieces_shift}

-- ---- the two shares of a band
-- the bytes of both shares are as many as those of the band
pub shares_bytes : (upper lower all s : ℕ) → upper + lower ≡ all → upper * s + lower * s ≡ all * s
shares_bytes upper lower all s sum =
    let both : upper * s + lower * s ≡ (upper + lower) * s = grind arith in
    both ∙ ap (λ (n : ℕ). n * s) sum

-- the rows of a band are those of its upper share, and behind them those of its lower one
pub shares_joined : (w : ℕ) (layers : List Bound) (background : Rgba) (band upper lower : Band) → AreShares band upper lower
    → bound_rows w layers background upper.first upper.rows ++ bound_rows w layers background lower.first lower.rows
    ≡ bound_rows w layers background band.first band.rows
shares_joined w layers background band upper lower shares =
    (λ i. bound_rows w layers background (shares.upper_first i) upper.rows
    ++ bound_rows w layers background (shares.lower_first i) lower.rows)
    ∙ sym (pieces_split (bound_row w layers background) band.first upper.rows lower.rows)
    ∙ ap (bound_rows w layers background band.first) shares.rows

-- ---- how many rows there are
turned_end : (w h : ℕ) → w * h * 4 ≡ h * (4 * w)
turned_end w h = grind arith

-- whole rows divide without a rest
rows_of : (n w : ℕ) → 1 ≤ w → n * (4 * w) / (4 * w) ≡ n
rows_of n w some = ap (λ (j : ℕ). j / (4 * w)) (sym (add-zero (n * (4 * w)))) ∙ div-mul-add n (4 * w) 0 (omega arith)

-- all rows are written, and nothing is behind them
pub all_rows : (row : ℕ → List ℕ) (first n i s : ℕ) (bytes old : List ℕ) → length old % s ≡ 0 → n ≡ length old / s → i ≡ n
    → bytes ≡ flat_map (λ i. row (first + i)) (range_with_len 0 i) ++ drop (i * s) old → bytes ≡ flat_map row (range_with_len first n)
all_rows row first n i s bytes old whole n_is all written =
    let count : length old / s * s + length old % s ≡ length old = div-add-mod' (length old) s in
    let room : n * s ≡ length old / s * s = ap (λ (k : ℕ). k * s) n_is in
    written
    ∙ (λ j. flat_map (λ i. row (first + i)) (range_with_len 0 (all j)) ++ drop (all j * s) old)
    ∙ ap (λ (l : List ℕ). flat_map (λ i. row (first + i)) (range_with_len 0 n) ++ l) (drop_all (n * s) old (omega arith))
    ∙ append-nil (flat_map (λ i. row (first + i)) (range_with_len 0 n))
    ∙ sym (pieces_shift row first 0 n)
    ∙ ap (λ (j : ℕ). flat_map row (range_with_len j n)) (add-zero first)

-- how many bytes the rows behind the first i of n have
pub rows_left : (n i s : ℕ) (bytes : List ℕ) → length bytes ≡ n * s → i ≤ n
    → length (take (length bytes - i * s) (drop (i * s) bytes)) ≡ (n - i) * s
rows_left n i s bytes all few =
    let at : ℕ = i * s in
    let rest : List ℕ = drop at bytes in
    let len : length rest ≡ length bytes - at = length-drop at bytes in
    let k : ℕ = n - i in
    let sum : n ≡ i + k = omega arith in
    let split : (i + k) * s ≡ i * s + k * s = grind arith in
    let both : n * s ≡ i * s + k * s = ap (λ (j : ℕ). j * s) sum ∙ split in
    ap (λ (l : List ℕ). length l) (take_all (length bytes - at) rest (omega arith)) ∙ len ∙ omega arith

-- rows written at the front of the bytes behind a place
front_written : (old rows : List ℕ) (at m : ℕ)
    → put_mid at (length old - at) old (rows ++ drop m (take (length old - at) (drop at old))) ≡ take at old ++ rows ++ drop (at + m) old
front_written old rows at m =
    let k : ℕ = length old - at in
    let rest : List ℕ = drop at old in
    let len : length rest ≡ k = length-drop at old in
    ap (λ (l : List ℕ). take at old ++ ((rows ++ drop m l) ++ drop k rest)) (take_all k rest (omega arith))
    ∙ ap (λ (l : List ℕ). take at old ++ ((rows ++ drop m rest) ++ l)) (drop_all k rest (omega arith))
    ∙ ap (λ (l : List ℕ). take at old ++ l) (append-nil (rows ++ drop m rest) ∙ ap (λ (l : List ℕ). rows ++ l) (drop-drop m at old))
    ∙ sym (append_assoc (take at old) rows (drop (at + m) old))

-- n more rows behind the first i
pub rows_more : (row : ℕ → List ℕ) (first i n s : ℕ) (old part bytes : List ℕ) → ((y : ℕ) → length (row y) ≡ s)
    → old ≡ flat_map (λ i. row (first + i)) (range_with_len 0 i) ++ drop (i * s) bytes
    → part ≡ flat_map row (range_with_len (first + i) n) ++ drop (n * s) (take (length old - i * s) (drop (i * s) old))
    → put_mid (i * s) (length old - i * s) old part
    ≡ flat_map (λ i. row (first + i)) (range_with_len 0 (i + n)) ++ drop ((i + n) * s) bytes
rows_more row first i n s old part bytes same before part_is =
    let f : ℕ → List ℕ = λ i. row (first + i) in
    let at : ℕ = i * s in
    let done : List ℕ = flat_map f (range_with_len 0 i) in
    let next : List ℕ = flat_map f (range_with_len i n) in
    let turned : s * i ≡ i * s = grind arith in
    let len : length done ≡ at = length-pieces f s 0 i (λ x. same (first + x)) ∙ turned in
    let both : done ++ next ≡ flat_map f (range_with_len 0 (i + n)) =
    ap (λ (j : ℕ). done ++ flat_map f (range_with_len j n)) (sym (zero-add i)) ∙ sym (pieces_split f 0 i n) in
    let end : at + n * s ≡ (i + n) * s = grind arith in
    let piece : part ≡ next ++ drop (n * s) (take (length old - at) (drop at old)) =
    part_is ∙ ap (λ (l : List ℕ). l ++ drop (n * s) (take (length old - at) (drop at old))) (pieces_shift row first i n) in
    step done next old (put_mid at (length old - at) old part) bytes at (n * s) (at + n * s) len refl before
    (ap (put_mid at (length old - at) old) piece ∙ front_written old next at (n * s))
    ∙ (λ j. both j ++ drop (end j) bytes)

-- how many rows a target has
pub row_count : (w h n : ℕ) → IsTrue (is_side w) → n ≡ w * h * 4 → n / (4 * w) ≡ h
row_count w h n side count =
    let some : 1 ≤ w = grind (arith, nat_tests) in
    ap (λ (k : ℕ). k / (4 * w)) (count ∙ turned_end w h) ∙ rows_of h w some
