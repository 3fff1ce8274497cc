-- A row that is written piece by piece, with a mask of one byte a pixel beside it.
use Rattle.std.proofs.Common.{◌≡◌, ℕ, zero, suc, ◌+◌, ◌*◌, ◌≤◌, List, [], ◌∷◌, ◌++◌, length, take, drop, Option, refl, sym, ap, ◌∙◌}
use Rattle.std.proofs.Common.{append_assoc, arith}
use Rattle.std.specs.Simd.Lanes.{chunk, put_chunk}
use Rattle.std.proofs.Math.Seq.{take-add, drop-append_seam}
use Rattle.std.proofs.lemmas.List.{take_at, take_all, drop_all, drop-drop, length-take-le, append-nil}
use Rattle.std.proofs.lemmas.Simd.{length-chunk, put_chunk_is}
use borrow.Rule.Slice.PartMut.{put_mid}
use Rattle.wf_pixel.specs.Arithmetic.{mul}
use Rattle.wf_row.specs.declared.AlphaMode.{AlphaMode}
use Rattle.wf_row.specs.Bytes.{masked_bytes, over_bytes, lifted, blended_masked}
use Rattle.wf_row.proofs.Rows.{lifted_append, lifted_count, over_append, over_count}

-- a function of a mask and of the pixels of two rows that takes each pixel alone
pub record Maskwise (f : List ℕ → List ℕ → List ℕ → List ℕ) : Type 0 where
  pub append : (m : ℕ) (ms xs ys ns us vs : List ℕ) → length ms ≡ m → length xs ≡ 4 * m → length ys ≡ 4 * m
      → f (ms ++ ns) (xs ++ us) (ys ++ vs) ≡ f ms xs ys ++ f ns us vs
  pub count : (m : ℕ) (ms xs ys : List ℕ) → length ms ≡ m → length xs ≡ 4 * m → length ys ≡ 4 * m → length (f ms xs ys) ≡ 4 * m

-- the first m pixels written, and the others as they were
abbrev pub written : (List ℕ → List ℕ → List ℕ → List ℕ) → ℕ → List ℕ → List ℕ → List ℕ → List ℕ
written f m mask src old = f (take m mask) (take (4 * m) src) (take (4 * m) old) ++ drop (4 * m) old

-- j more pixels
pub written_more : (f : List ℕ → List ℕ → List ℕ → List ℕ) → Maskwise f → (m j n k next : ℕ) (mask src old row new piece : List ℕ)
    → n ≡ 4 * m → k ≡ 4 * j → next ≡ m + j → next ≤ length mask → length src ≡ 4 * length mask → length old ≡ length src
    → row ≡ written f m mask src old → new ≡ take n row ++ (piece ++ drop (n + k) row)
    → piece ≡ f (chunk m j mask) (chunk n k src) (chunk n k row) → new ≡ written f next mask src old
written_more f p m j n k next mask src old row new piece n_is k_is next_is room len same before after piece_is =
    let mask_len : length (take m mask) ≡ m = length-take-le m mask (omega arith) in
    let src_len : length (take n src) ≡ 4 * m = length-take-le n src (omega arith) ∙ n_is in
    let old_len : length (take n old) ≡ 4 * m = length-take-le n old (omega arith) ∙ n_is in
    let done : List ℕ = f (take m mask) (take n src) (take n old) in
    let start : row ≡ done ++ drop n old = before ∙ ap (λ (i : ℕ). f (take m mask) (take i src) (take i old) ++ drop i old) (sym n_is) in
    let done_len : n ≡ length done = n_is ∙ sym (p.count m (take m mask) (take n src) (take n old) mask_len src_len old_len) in
    let front : take n row ≡ done = ap (take n) start ∙ take_at done (drop n old) n (sym done_len) in
    let rest : drop n row ≡ drop n old = ap (drop n) start ∙ ap (λ (i : ℕ). drop i (done ++ drop n old)) done_len
    ∙ drop-append_seam done (drop n old) in
    let further : drop (n + k) row ≡ drop (n + k) old = sym (drop-drop k n row) ∙ ap (drop k) rest ∙ drop-drop k n old in
    let piece_of : piece ≡ f (chunk m j mask) (chunk n k src) (chunk n k old) = piece_is
    ∙ ap (λ (xs : List ℕ). f (chunk m j mask) (chunk n k src) (take k xs)) rest in
    let end : n + k ≡ 4 * next = omega arith in
    let all_mask : take m mask ++ chunk m j mask ≡ take next mask = sym (take-add m j mask) ∙ ap (λ (i : ℕ). take i mask) (sym next_is) in
    let all_src : take n src ++ chunk n k src ≡ take (4 * next) src = sym (take-add n k src) ∙ ap (λ (i : ℕ). take i src) end in
    let all_old : take n old ++ chunk n k old ≡ take (4 * next) old = sym (take-add n k old) ∙ ap (λ (i : ℕ). take i old) end in
    after
    ∙ (λ i. front i ++ (piece_of i ++ further i))
    ∙ sym (append_assoc done (f (chunk m j mask) (chunk n k src) (chunk n k old)) (drop (n + k) old))
    ∙ ap (λ (xs : List ℕ). xs ++ drop (n + k) old) (sym
    (p.append m (take m mask) (take n src) (take n old) (chunk m j mask) (chunk n k src) (chunk n k old) mask_len src_len old_len))
    ∙ (λ i. f (all_mask i) (all_src i) (all_old i) ++ drop (end i) old)

-- a vector's bytes written at n
pub chunk_written : (f : List ℕ → List ℕ → List ℕ → List ℕ) → Maskwise f → (m n next : ℕ) (mask src old row piece : List ℕ)
    → n ≡ 4 * m → next ≡ m + 8 → next ≤ length mask → length src ≡ 4 * length mask → length old ≡ length src → length row ≡ length src
    → row ≡ written f m mask src old → piece ≡ f (chunk m 8 mask) (chunk n 32 src) (chunk n 32 row)
    → put_chunk n row piece ≡ written f next mask src old
chunk_written f p m n next mask src old row piece n_is next_is room len same rows before piece_is =
    let piece_len : length piece ≡ 32 =
    ap length piece_is ∙ p.count 8 (chunk m 8 mask) (chunk n 32 src) (chunk n 32 row) (length-chunk m 8 mask (omega arith))
    (length-chunk n 32 src (omega arith)) (length-chunk n 32 row (omega arith)) in
    let new_is : put_chunk n row piece ≡ take n row ++ (piece ++ drop (n + 32) row) =
    put_chunk_is n row piece (omega arith)
    ∙ ap (λ (xs : List ℕ). take n row ++ (piece ++ xs)) (ap (λ (i : ℕ). drop i (drop n row)) piece_len ∙ drop-drop 32 n row) in
    written_more f p m 8 n 32 next mask src old row (put_chunk n row piece) piece n_is (omega arith) next_is room len same before new_is
    piece_is

-- the pixels from m on written as one piece
pub rest_written : (f : List ℕ → List ℕ → List ℕ → List ℕ) → Maskwise f → (m j n k : ℕ) (mask src old row piece : List ℕ)
    → n ≡ 4 * m → m + j ≡ length mask → n + k ≡ length src → length src ≡ 4 * length mask → length old ≡ length src
    → row ≡ written f m mask src old → piece ≡ f (chunk m j mask) (chunk n k src) (chunk n k row) → put_mid n k row piece ≡ f mask src old
rest_written f p m j n k mask src old row piece n_is end stop len same before piece_is =
    let new_is : put_mid n k row piece ≡ take n row ++ (piece ++ drop (n + k) row) =
    ap (λ (xs : List ℕ). take n row ++ (piece ++ xs)) (drop-drop k n row) in
    written_more f p m j n k (length mask) mask src old row (put_mid n k row piece) piece n_is (omega arith) (sym end) (omega arith) len
    same before new_is piece_is
    ∙ (λ i. f (take_all (length mask) mask (omega arith) i) (take_all (4 * length mask) src (omega arith) i)
    (take_all (4 * length mask) old (omega arith) i) ++ drop_all (4 * length mask) old (omega arith) i)
    ∙ append-nil (f mask src old)

-- of padded pixels the first are those that were asked for
pub rest_masked : (f : List ℕ → List ℕ → List ℕ → List ℕ) → Maskwise f → (m n : ℕ) (ms xs ys ns us vs : List ℕ) → n ≡ 4 * m → length ms ≡ m
    → length xs ≡ n → length ys ≡ n
    → take n (f (ms ++ ns) (xs ++ us) (ys ++ vs)) ≡ f ms xs ys
rest_masked f p m n ms xs ys ns us vs n_is s x y =
    ap (take n) (p.append m ms xs ys ns us vs s (x ∙ n_is) (y ∙ n_is))
    ∙ take_at (f ms xs ys) (f ns us vs) n (p.count m ms xs ys s (x ∙ n_is) (y ∙ n_is) ∙ sym n_is)

-- ---- blending through a mask is such a function
masked_append : (m : ℕ) (ms xs ns us : List ℕ) → length ms ≡ m → length xs ≡ 4 * m
    → masked_bytes (ms ++ ns) (xs ++ us) ≡ masked_bytes ms xs ++ masked_bytes ns us
masked_append zero [] [] ns us s x = refl
masked_append zero [] (r ∷ xs) ns us s x = absurd (omega arith)
masked_append zero (k ∷ ms) xs ns us s x = absurd (omega arith)
masked_append (suc m) [] xs ns us s x = absurd (omega arith)
masked_append (suc m) (k ∷ ms) [] ns us s x = absurd (omega arith)
masked_append (suc m) (k ∷ ms) (r ∷ []) ns us s x = absurd (omega arith)
masked_append (suc m) (k ∷ ms) (r ∷ g ∷ []) ns us s x = absurd (omega arith)
masked_append (suc m) (k ∷ ms) (r ∷ g ∷ b ∷ []) ns us s x = absurd (omega arith)
masked_append (suc m) (k ∷ ms) (r ∷ g ∷ b ∷ a ∷ xs) ns us s x =
    λ i. mul r k ∷ mul g k ∷ mul b k ∷ mul a k ∷ masked_append m ms xs ns us (omega arith) (omega arith) i

masked_count : (m : ℕ) (ms xs : List ℕ) → length ms ≡ m → length xs ≡ 4 * m → length (masked_bytes ms xs) ≡ 4 * m
masked_count zero [] xs s x = refl
masked_count zero (k ∷ ms) xs s x = absurd (omega arith)
masked_count (suc m) [] xs s x = absurd (omega arith)
masked_count (suc m) (k ∷ ms) [] s x = absurd (omega arith)
masked_count (suc m) (k ∷ ms) (r ∷ []) s x = absurd (omega arith)
masked_count (suc m) (k ∷ ms) (r ∷ g ∷ []) s x = absurd (omega arith)
masked_count (suc m) (k ∷ ms) (r ∷ g ∷ b ∷ []) s x = absurd (omega arith)
masked_count (suc m) (k ∷ ms) (r ∷ g ∷ b ∷ a ∷ xs) s x = let rest : length (masked_bytes ms xs) ≡ 4 * m =
    masked_count m ms xs (omega arith) (omega arith) in omega arith

pub blended_masked-Maskwise : (mode : AlphaMode) (fade : Option ℕ) → Maskwise (blended_masked mode fade)
blended_masked-Maskwise mode fade = record {
  append = λ m ms xs ys ns us vs s x y.
      ap (λ (l : List ℕ). over_bytes (masked_bytes (ms ++ ns) l) (ys ++ vs)) (lifted_append mode fade m xs us x)
      ∙ ap (λ (l : List ℕ). over_bytes l (ys ++ vs)) (masked_append m ms (lifted mode fade xs) ns (lifted mode fade us) s
      (lifted_count mode fade m xs x))
      ∙ over_append m (masked_bytes ms (lifted mode fade xs)) ys (masked_bytes ns (lifted mode fade us)) vs
      (masked_count m ms (lifted mode fade xs) s (lifted_count mode fade m xs x)) y;
  count = λ m ms xs ys s x y. over_count m (masked_bytes ms (lifted mode fade xs)) ys
      (masked_count m ms (lifted mode fade xs) s (lifted_count mode fade m xs x)) y;
}
