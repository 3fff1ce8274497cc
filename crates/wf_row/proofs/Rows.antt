-- A row that is written piece by piece.
use Rattle.std.proofs.Common.{◌≡◌, ℕ, zero, suc, ◌+◌, ◌-◌, ◌*◌, ◌≤◌, List, [], ◌∷◌, ◌++◌, length, take, drop, get_or, replicate, Fits, w8}
use Rattle.std.proofs.Common.{◌<◌, length-append, length-drop, Option, Some, None, refl, sym, ap, ◌∙◌, append_assoc, arith}
use Rattle.std.specs.Simd.Lanes.{chunk, put_chunk, Each1}
use Rattle.std.proofs.Math.Seq.{take-add, drop-append_seam}
use Rattle.std.proofs.lemmas.List.{take_at, take_all, drop_all, drop-drop, length-take-le, map-append, length-map, append-nil}
use Rattle.std.proofs.lemmas.Simd.{length-replicate, length-chunk, put_chunk_is, Each1-from_get_or}
use borrow.Rule.Slice.PartMut.{put_mid}
use Rattle.wf_pixel.specs.Arithmetic.{mul, channel_over}
use Rattle.wf_row.specs.declared.AlphaMode.{AlphaMode}
use Rattle.wf_row.specs.declared.AlphaMode.TheVariants.{Premultiplied, Straight, Opaque}
use Rattle.wf_row.specs.Bytes.{AreBytes, premultiplied_bytes, faded_bytes, over_bytes, lifted, blended}

-- a function of the pixels of two rows that takes each pixel alone
pub record Pixelwise (f : List ℕ → List ℕ → List ℕ) : Type 0 where
  pub append : (m : ℕ) (xs ys us vs : List ℕ) → length xs ≡ 4 * m → length ys ≡ 4 * m → f (xs ++ us) (ys ++ vs) ≡ f xs ys ++ f us vs
  pub count : (m : ℕ) (xs ys : List ℕ) → length xs ≡ 4 * m → length ys ≡ 4 * m → length (f xs ys) ≡ 4 * m

-- the first n bytes written, and the others as they were
abbrev pub written : (List ℕ → List ℕ → List ℕ) → ℕ → List ℕ → List ℕ → List ℕ
written f n src old = f (take n src) (take n old) ++ drop n old

-- one more piece
pub written_more : (f : List ℕ → List ℕ → List ℕ) → Pixelwise f → (m n k next : ℕ) (src old row new piece : List ℕ)
    → n ≡ 4 * m → next ≡ n + k → next ≤ length src → length old ≡ length src
    → row ≡ written f n src old → new ≡ take n row ++ (piece ++ drop next row) → piece ≡ f (chunk n k src) (chunk n k row)
    → new ≡ written f next src old
written_more f p m n k next src old row new piece n_is next_is room same before after piece_is =
    let src_len : length (take n src) ≡ 4 * m = length-take-le n src (omega arith) ∙ n_is in
    let old_len : length (take n old) ≡ 4 * m = length-take-le n old (omega arith) ∙ n_is in
    let done : List ℕ = f (take n src) (take n old) in
    let done_len : n ≡ length done = n_is ∙ sym (p.count m (take n src) (take n old) src_len old_len) in
    let front : take n row ≡ done = ap (take n) before ∙ take_at done (drop n old) n (sym done_len) in
    let rest : drop n row ≡ drop n old = ap (drop n) before ∙ ap (λ (j : ℕ). drop j (done ++ drop n old)) done_len
    ∙ drop-append_seam done (drop n old) in
    let further : drop next row ≡ drop next old =
    ap (λ (j : ℕ). drop j row) next_is ∙ sym (drop-drop k n row) ∙ ap (drop k) rest ∙ drop-drop k n old
    ∙ ap (λ (j : ℕ). drop j old) (sym next_is) in
    let piece_of : piece ≡ f (chunk n k src) (chunk n k old) = piece_is ∙ ap (λ (xs : List ℕ). f (chunk n k src) (take k xs)) rest in
    let all_src : take n src ++ chunk n k src ≡ take next src = sym (take-add n k src) ∙ ap (λ (j : ℕ). take j src) (sym next_is) in
    let all_old : take n old ++ chunk n k old ≡ take next old = sym (take-add n k old) ∙ ap (λ (j : ℕ). take j old) (sym next_is) in
    after
    ∙ (λ i. front i ++ (piece_of i ++ further i))
    ∙ sym (append_assoc done (f (chunk n k src) (chunk n k old)) (drop next old))
    ∙ ap (λ (xs : List ℕ). xs ++ drop next old) (sym (p.append m (take n src) (take n old) (chunk n k src) (chunk n k old) src_len old_len))
    ∙ (λ i. f (all_src i) (all_old i) ++ drop next old)

-- ---- blending is such a function
pub premultiplied_append : (mode : AlphaMode) (m : ℕ) (xs us : List ℕ) → length xs ≡ 4 * m
    → premultiplied_bytes mode (xs ++ us) ≡ premultiplied_bytes mode xs ++ premultiplied_bytes mode us
premultiplied_append Premultiplied m xs us len = refl
premultiplied_append Straight zero [] us len = refl
premultiplied_append Straight (suc m) [] us len = absurd (omega arith)
premultiplied_append Straight zero (r ∷ xs) us len = absurd (omega arith)
premultiplied_append Straight (suc m) (r ∷ []) us len = absurd (omega arith)
premultiplied_append Straight (suc m) (r ∷ g ∷ []) us len = absurd (omega arith)
premultiplied_append Straight (suc m) (r ∷ g ∷ b ∷ []) us len = absurd (omega arith)
premultiplied_append Straight (suc m) (r ∷ g ∷ b ∷ a ∷ xs) us len = λ i. mul r a ∷ mul g a ∷ mul b a ∷ a
    ∷ premultiplied_append Straight m xs us (omega arith) i
premultiplied_append Opaque zero [] us len = refl
premultiplied_append Opaque (suc m) [] us len = absurd (omega arith)
premultiplied_append Opaque zero (r ∷ xs) us len = absurd (omega arith)
premultiplied_append Opaque (suc m) (r ∷ []) us len = absurd (omega arith)
premultiplied_append Opaque (suc m) (r ∷ g ∷ []) us len = absurd (omega arith)
premultiplied_append Opaque (suc m) (r ∷ g ∷ b ∷ []) us len = absurd (omega arith)
premultiplied_append Opaque (suc m) (r ∷ g ∷ b ∷ a ∷ xs) us len = λ i. r ∷ g ∷ b ∷ 255 ∷ premultiplied_append Opaque m xs us (omega arith) i

pub premultiplied_count : (mode : AlphaMode) (m : ℕ) (xs : List ℕ) → length xs ≡ 4 * m → length (premultiplied_bytes mode xs) ≡ 4 * m
premultiplied_count Premultiplied m xs len = len
premultiplied_count Straight zero [] len = len
premultiplied_count Straight (suc m) [] len = absurd (omega arith)
premultiplied_count Straight zero (r ∷ xs) len = absurd (omega arith)
premultiplied_count Straight (suc m) (r ∷ []) len = absurd (omega arith)
premultiplied_count Straight (suc m) (r ∷ g ∷ []) len = absurd (omega arith)
premultiplied_count Straight (suc m) (r ∷ g ∷ b ∷ []) len = absurd (omega arith)
premultiplied_count Straight (suc m) (r ∷ g ∷ b ∷ a ∷ xs) len = let rest = premultiplied_count Straight m xs (omega arith) in omega arith
premultiplied_count Opaque zero [] len = len
premultiplied_count Opaque (suc m) [] len = absurd (omega arith)
premultiplied_count Opaque zero (r ∷ xs) len = absurd (omega arith)
premultiplied_count Opaque (suc m) (r ∷ []) len = absurd (omega arith)
premultiplied_count Opaque (suc m) (r ∷ g ∷ []) len = absurd (omega arith)
premultiplied_count Opaque (suc m) (r ∷ g ∷ b ∷ []) len = absurd (omega arith)
premultiplied_count Opaque (suc m) (r ∷ g ∷ b ∷ a ∷ xs) len = let rest = premultiplied_count Opaque m xs (omega arith) in omega arith

pub lifted_append : (mode : AlphaMode) (fade : Option ℕ) (m : ℕ) (xs us : List ℕ) → length xs ≡ 4 * m
    → lifted mode fade (xs ++ us) ≡ lifted mode fade xs ++ lifted mode fade us
lifted_append mode (Some k) m xs us len = ap (faded_bytes k) (premultiplied_append mode m xs us len)
    ∙ map-append (λ x. mul x k) (premultiplied_bytes mode xs) (premultiplied_bytes mode us)
lifted_append mode None m xs us len = premultiplied_append mode m xs us len

pub lifted_count : (mode : AlphaMode) (fade : Option ℕ) (m : ℕ) (xs : List ℕ) → length xs ≡ 4 * m → length (lifted mode fade xs) ≡ 4 * m
lifted_count mode (Some k) m xs len = length-map (premultiplied_bytes mode xs) (λ x. mul x k) ∙ premultiplied_count mode m xs len
lifted_count mode None m xs len = premultiplied_count mode m xs len

-- two lists of four bytes a pixel
pub over_append : (m : ℕ) (ps ds us vs : List ℕ) → length ps ≡ 4 * m → length ds ≡ 4 * m
    → over_bytes (ps ++ us) (ds ++ vs) ≡ over_bytes ps ds ++ over_bytes us vs
over_append zero [] [] us vs l d = refl
over_append zero [] (x ∷ ds) us vs l d = absurd (omega arith)
over_append zero (r ∷ ps) ds us vs l d = absurd (omega arith)
over_append (suc m) [] ds us vs l d = absurd (omega arith)
over_append (suc m) (r ∷ []) ds us vs l d = absurd (omega arith)
over_append (suc m) (r ∷ g ∷ []) ds us vs l d = absurd (omega arith)
over_append (suc m) (r ∷ g ∷ b ∷ []) ds us vs l d = absurd (omega arith)
over_append (suc m) (r ∷ g ∷ b ∷ a ∷ ps) [] us vs l d = absurd (omega arith)
over_append (suc m) (r ∷ g ∷ b ∷ a ∷ ps) (x ∷ []) us vs l d = absurd (omega arith)
over_append (suc m) (r ∷ g ∷ b ∷ a ∷ ps) (x ∷ y ∷ []) us vs l d = absurd (omega arith)
over_append (suc m) (r ∷ g ∷ b ∷ a ∷ ps) (x ∷ y ∷ z ∷ []) us vs l d = absurd (omega arith)
over_append (suc m) (r ∷ g ∷ b ∷ a ∷ ps) (x ∷ y ∷ z ∷ w ∷ ds) us vs l d =
    λ i. channel_over a r x ∷ channel_over a g y ∷ channel_over a b z ∷ channel_over a a w
    ∷ over_append m ps ds us vs (omega arith) (omega arith) i

pub over_count : (m : ℕ) (ps ds : List ℕ) → length ps ≡ 4 * m → length ds ≡ 4 * m → length (over_bytes ps ds) ≡ 4 * m
over_count zero [] ds l d = refl
over_count zero (r ∷ ps) ds l d = absurd (omega arith)
over_count (suc m) [] ds l d = absurd (omega arith)
over_count (suc m) (r ∷ []) ds l d = absurd (omega arith)
over_count (suc m) (r ∷ g ∷ []) ds l d = absurd (omega arith)
over_count (suc m) (r ∷ g ∷ b ∷ []) ds l d = absurd (omega arith)
over_count (suc m) (r ∷ g ∷ b ∷ a ∷ ps) [] l d = absurd (omega arith)
over_count (suc m) (r ∷ g ∷ b ∷ a ∷ ps) (x ∷ []) l d = absurd (omega arith)
over_count (suc m) (r ∷ g ∷ b ∷ a ∷ ps) (x ∷ y ∷ []) l d = absurd (omega arith)
over_count (suc m) (r ∷ g ∷ b ∷ a ∷ ps) (x ∷ y ∷ z ∷ []) l d = absurd (omega arith)
over_count (suc m) (r ∷ g ∷ b ∷ a ∷ ps) (x ∷ y ∷ z ∷ w ∷ ds) l d = let rest = over_count m ps ds (omega arith) (omega arith) in omega arith

pub blended-Pixelwise : (mode : AlphaMode) (fade : Option ℕ) → Pixelwise (blended mode fade)
blended-Pixelwise mode fade = record {
  append = λ m xs ys us vs x y.
      ap (λ (l : List ℕ). over_bytes l (ys ++ vs)) (lifted_append mode fade m xs us x)
      ∙ over_append m (lifted mode fade xs) ys (lifted mode fade us) vs (lifted_count mode fade m xs x) y;
  count = λ m xs ys x y. over_count m (lifted mode fade xs) ys (lifted_count mode fade m xs x) y;
}

-- a vector's bytes written at n
pub chunk_written : (f : List ℕ → List ℕ → List ℕ) → Pixelwise f → (m n next : ℕ) (src old row piece : List ℕ)
    → n ≡ 4 * m → next ≡ n + 32 → next ≤ length src → length old ≡ length src → length row ≡ length src
    → row ≡ written f n src old → piece ≡ f (chunk n 32 src) (chunk n 32 row) → put_chunk n row piece ≡ written f next src old
chunk_written f p m n next src old row piece n_is next_is room same rows before piece_is =
    let piece_len : length piece ≡ 32 = ap length piece_is
    ∙ p.count 8 (chunk n 32 src) (chunk n 32 row) (length-chunk n 32 src (omega arith)) (length-chunk n 32 row (omega arith)) in
    let new_is : put_chunk n row piece ≡ take n row ++ (piece ++ drop next row) =
    put_chunk_is n row piece (omega arith)
    ∙ ap (λ (xs : List ℕ). take n row ++ (piece ++ xs)) (ap (λ (j : ℕ). drop j (drop n row)) piece_len ∙ drop-drop 32 n row
    ∙ ap (λ (j : ℕ). drop j row) (sym next_is)) in
    written_more f p m n 32 next src old row (put_chunk n row piece) piece n_is next_is room same before new_is piece_is

-- the bytes from n on written as one piece
pub rest_written : (f : List ℕ → List ℕ → List ℕ) → Pixelwise f → (m n k : ℕ) (src old row piece : List ℕ)
    → n ≡ 4 * m → n + k ≡ length src → length old ≡ length src
    → row ≡ written f n src old → piece ≡ f (chunk n k src) (chunk n k row) → put_mid n k row piece ≡ f src old
rest_written f p m n k src old row piece n_is end same before piece_is =
    let new_is : put_mid n k row piece ≡ take n row ++ (piece ++ drop (length src) row) =
    ap (λ (xs : List ℕ). take n row ++ (piece ++ xs)) (drop-drop k n row ∙ ap (λ (j : ℕ). drop j row) end) in
    written_more f p m n k (length src) src old row (put_mid n k row piece) piece n_is (sym end) (omega arith) same before new_is piece_is
    ∙ (λ i. f (take_all (length src) src (omega arith) i) (take_all (length src) old (omega arith) i)
    ++ drop_all (length src) old (omega arith) i)
    ∙ append-nil (f src old)

-- ---- the last pixels, padded
pads : (n m : ℕ) → Each1 (λ x. x < 256) (drop n (replicate m 0))
pads zero zero = tt
pads zero (suc m) = (omega arith, pads zero m)
pads (suc n) zero = tt
pads (suc n) (suc m) = pads n m

both_bytes : (xs ys : List ℕ) → Each1 (λ x. x < 256) xs → Each1 (λ x. x < 256) ys → Each1 (λ x. x < 256) (xs ++ ys)
both_bytes [] ys x y = y
both_bytes (a ∷ xs) ys x y = (x.0, both_bytes xs ys x.1 y)

pub pad_length : (k n : ℕ) → length (drop n (replicate {A = ℕ} k 0)) ≡ k - n
pad_length k n = length-drop n (replicate k 0) ∙ ap (λ (j : ℕ). j - n) (length-replicate k 0)

pub padded-Bytes : (k : ℕ) (xs : List ℕ) → length xs ≤ k → ((i : ℕ) → Fits w8 (get_or xs i 0))
    → AreBytes k (xs ++ drop (length xs) (replicate k 0))
padded-Bytes k xs le fits = record {
  count = omega (arith, length-append xs (drop (length xs) (replicate k 0)), pad_length k (length xs));
  below = both_bytes xs (drop (length xs) (replicate k 0)) (Each1-from_get_or (λ x. x < 256) xs 0 (λ i _. (fits i).fits))
      (pads (length xs) k);
}

-- of padded pixels the first are those that were asked for
pub rest_blended : (f : List ℕ → List ℕ → List ℕ) → Pixelwise f → (m n : ℕ) (xs ys us vs : List ℕ) → n ≡ 4 * m → length xs ≡ n
    → length ys ≡ n
    → take n (f (xs ++ us) (ys ++ vs)) ≡ f xs ys
rest_blended f p m n xs ys us vs n_is x y =
    ap (take n) (p.append m xs ys us vs (x ∙ n_is) (y ∙ n_is))
    ∙ take_at (f xs ys) (f us vs) n (p.count m xs ys (x ∙ n_is) (y ∙ n_is) ∙ sym n_is)
