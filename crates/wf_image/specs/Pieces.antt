-- Bytes that are made piece by piece, each piece from its place.
use Rattle.std.proofs.Common.{◌≡◌, ℕ, zero, suc, ◌+◌, ◌*◌, ◌<◌, ◌≤◌, List, ◌++◌, length, drop, refl, sym, ap, ◌∙◌, append_assoc, arith}
use Rattle.std.proofs.Common.{length-append}
use Rattle.std.specs.Prelude.{flat_map}
use Rattle.std.specs.List.{range_with_len}
use Rattle.std.proofs.Math.Seq.{drop-append_seam}
use Rattle.std.proofs.Math.Nat.{zero-add, add-zero, suc-add}
use Rattle.std.proofs.lemmas.List.{append-nil, drop-drop}

-- one more piece after the others
pub pieces-more : (f : ℕ → List ℕ) (from n at : ℕ) → at ≡ from + n
    → flat_map f (range_with_len from (n + 1)) ≡ flat_map f (range_with_len from n) ++ f at
pieces-more f from zero at e = append-nil (f from) ∙ ap f (sym (e ∙ add-zero from))
pieces-more f from (suc n) at e =
    rw suc-add
    (ap (λ (bytes : List ℕ). f from ++ bytes) (pieces-more f (from + 1) n at (omega arith))
    ∙ sym (append_assoc (f from) (flat_map f (range_with_len (from + 1) n)) (f at)))

-- n pieces of k bytes
pub length-pieces : (f : ℕ → List ℕ) (k from n : ℕ) → ((x : ℕ) → length (f x) ≡ k) → length (flat_map f (range_with_len from n)) ≡ k * n
length-pieces f k from zero same = omega arith
length-pieces f k from (suc n) same =
    omega (arith, length-append (f from) (flat_map f (range_with_len (from + 1) n)), same from, length-pieces f k (from + 1) n same)

-- the same pieces, at the places that count
pub pieces_same : (f g : ℕ → List ℕ) (from n : ℕ) → ((x : ℕ) → from ≤ x → x < from + n → f x ≡ g x)
    → flat_map f (range_with_len from n) ≡ flat_map g (range_with_len from n)
pieces_same f g from zero same = refl
pieces_same f g from (suc n) same =
    λ i. same from (omega arith) (omega arith) i ++ pieces_same f g (from + 1) n (λ x low high. same x (omega arith) (omega arith)) i

-- without the first pieces, each of four bytes
pub drop_pieces : (f : ℕ → List ℕ) → ((x : ℕ) → length (f x) ≡ 4) → (from n i m : ℕ) → n ≡ i + m
    → drop (4 * i) (flat_map f (range_with_len from n)) ≡ flat_map f (range_with_len (from + i) m)
drop_pieces f same from n zero m sum =
    let all : n ≡ m = omega arith in
    λ j. flat_map f (range_with_len (sym (add-zero from) j) (all j))
drop_pieces f same from zero (suc i) m sum = absurd (omega arith)
drop_pieces f same from (suc n) (suc i) m sum =
    let rest : List ℕ = flat_map f (range_with_len (from + 1) n) in
    let split : 4 * suc i ≡ length (f from) + 4 * i = omega (arith, same from) in
    let front : drop (length (f from) + 4 * i) (f from ++ rest) ≡ drop (4 * i) rest =
    sym (drop-drop (4 * i) (length (f from)) (f from ++ rest)) ∙ ap (drop (4 * i)) (drop-append_seam (f from) rest) in
    let next : from + 1 + i ≡ from + suc i = omega arith in
    ap (λ (j : ℕ). drop j (f from ++ rest)) split ∙ front ∙ drop_pieces f same (from + 1) n i m (omega arith)
    ∙ ap (λ (j : ℕ). flat_map f (range_with_len j m)) next

-- two runs of pieces
pub pieces_split : (f : ℕ → List ℕ) (from m n : ℕ)
    → flat_map f (range_with_len from (m + n)) ≡ flat_map f (range_with_len from m) ++ flat_map f (range_with_len (from + m) n)
pieces_split f from zero n = λ i. flat_map f (range_with_len (sym (add-zero from) i) (zero-add n i))
pieces_split f from (suc m) n =
    let count : suc m + n ≡ suc (m + n) = omega arith in
    let next : from + 1 + m ≡ from + suc m = omega arith in
    ap (λ (j : ℕ). flat_map f (range_with_len from j)) count
    ∙ ap (λ (l : List ℕ). f from ++ l) (pieces_split f (from + 1) m n
    ∙ ap (λ (j : ℕ). flat_map f (range_with_len (from + 1) m) ++ flat_map f (range_with_len j n)) next)
    ∙ sym (append_assoc (f from) (flat_map f (range_with_len (from + 1) m)) (flat_map f (range_with_len (from + suc m) n)))

-- pieces by their distance from the first
pub pieces_shift : (f : ℕ → List ℕ) (a from n : ℕ)
    → flat_map f (range_with_len (a + from) n) ≡ flat_map (λ i. f (a + i)) (range_with_len from n)
pieces_shift f a from zero = refl
pieces_shift f a from (suc n) =
    let next : a + from + 1 ≡ a + (from + 1) = omega arith in
    ap (λ (l : List ℕ). f (a + from) ++ l) (ap (λ (j : ℕ). flat_map f (range_with_len j n)) next ∙ pieces_shift f a (from + 1) n)
