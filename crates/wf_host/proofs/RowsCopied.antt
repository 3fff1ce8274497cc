-- Rows that are copied, one more, and pixels of a row, one more.
use Rattle.std.proofs.Common.{◌≡◌, ◌∙◌, ℕ, zero, suc, ◌+◌, ◌-◌, ◌*◌, ◌≤◌, List, ◌++◌, length, take, drop, refl, sym, ap, arith}
use Rattle.std.proofs.Common.{append_assoc, length-append, length-drop}
use Rattle.std.proofs.lemmas.List.{append-nil, drop-drop, drop_at, length-take-le, take-append-drop, take_at}
use Rattle.std.proofs.lemmas.Simd.{put_chunk_is}
use Rattle.std.specs.Simd.Lanes.{put_chunk}
use Rattle.wf_host.specs.declared.order.Order.{Order}
use Rattle.wf_host.specs.Rows.{copied, ordered, put_at, row_at, swapped_pixel, swapped_to}

pub none : (o : Order) (to from row : ℕ) (bytes out : List ℕ) → out ≡ copied o to from row 0 bytes out
none o to from row bytes out = refl

pub next : (o : Order) (to from row n : ℕ) (bytes out : List ℕ)
    → copied o to from row (n + 1) bytes out ≡ put_at (n * to) (ordered o (row_at (n * from) row bytes)) (copied o to from row n bytes out)
next o to from row n bytes out = let e : n + 1 ≡ suc n = omega arith in rw e refl

-- where the row that was put is as wide as it is
pub more : (o : Order) (to from row n : ℕ) (bytes out now new : List ℕ) → now ≡ copied o to from row n bytes out
    → new ≡ put_at (n * to) (ordered o (take (n * from + row - n * from) (drop (n * from) bytes))) now
    → new ≡ copied o to from row (n + 1) bytes out
more o to from row n bytes out now new before put =
    let width : n * from + row - n * from ≡ row = omega arith in
    put ∙ ap (λ (k : ℕ). put_at (n * to) (ordered o (take k (drop (n * from) bytes))) now) width
    ∙ ap (put_at (n * to) (ordered o (row_at (n * from) row bytes))) before ∙ sym (next o to from row n bytes out)

-- how many bytes the first pixels have
pub length-swapped : (row : List ℕ) (n : ℕ) → length (swapped_to row n) ≡ 4 * n
length-swapped row zero = refl
length-swapped row (suc n) =
    length-append (swapped_to row n) (swapped_pixel row n) ∙ ap (λ (k : ℕ). k + 4) (length-swapped row n) ∙ omega arith

-- one pixel more, of which the vector is stored
pub pixel_more : (row : List ℕ) (at n to : ℕ) (now old new : List ℕ) → now ≡ put_at at (swapped_to row n) old → to ≡ at + 4 * n
    → to + 4 ≤ length old → new ≡ put_chunk to now (swapped_pixel row n) → new ≡ put_at at (swapped_to row (n + 1)) old
pixel_more row at n to now old new before place within put =
    let done : List ℕ = swapped_to row n in
    let piece : List ℕ = swapped_pixel row n in
    let next : n + 1 ≡ suc n = omega arith in
    let front : length (take at old ++ done) ≡ to =
    length-append (take at old) done ∙ (λ i. length-take-le at old (omega (arith, place, within)) i + length-swapped row n i) ∙ sym place in
    let rest : at + length done ≡ to = ap (λ (k : ℕ). at + k) (length-swapped row n) ∙ sym place in
    let parts : now ≡ take at old ++ done ++ drop to old = before ∙ ap (λ (k : ℕ). take at old ++ done ++ drop k old) rest in
    let room : to + 4 ≤ length now =
    omega (arith, ap length parts, length-append (take at old ++ done) (drop to old), front, length-drop to old, within) in
    let last : at + length (done ++ piece) ≡ to + 4 = omega (arith, length-append done piece, rest) in
    rw next (put ∙ put_chunk_is to now piece room ∙ sym (append_assoc (take to now) piece (drop 4 (drop to now)))
    ∙ ap (λ (l : List ℕ). take to l ++ piece ++ drop 4 (drop to l)) parts
    ∙ (λ i. take_at (take at old ++ done) (drop to old) to front i ++ piece
    ++ drop 4 (drop_at (take at old ++ done) (drop to old) to front i))
    ∙ ap (λ (l : List ℕ). take at old ++ done ++ piece ++ l) (drop-drop 4 to old)
    ∙ ap (λ (l : List ℕ). l ++ drop (to + 4) old) (append_assoc (take at old) done piece)
    ∙ ap (λ (k : ℕ). take at old ++ (done ++ piece) ++ drop k old) (sym last))

-- the place of no pixel
pub no_pixel : (row : List ℕ) (at : ℕ) (old : List ℕ) → old ≡ put_at at (swapped_to row 0) old
no_pixel row at old =
    let here : at + 0 ≡ at = omega arith in
    rw here (sym (ap (λ (l : List ℕ). l ++ drop at old) (append-nil (take at old)) ∙ take-append-drop at old))
