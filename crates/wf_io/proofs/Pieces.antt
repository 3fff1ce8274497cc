-- Bytes that go piece by piece.
use Rattle.std.proofs.Common.{◌≡◌, ℕ, ◌+◌, ◌-◌, ◌<◌, min, List, [], ◌++◌, length, take, drop, sym, subst, append_assoc, arith, length-drop}
use Rattle.std.proofs.Common.{length-take, length-append}
use Rattle.std.proofs.Math.Seq.{take-add}
use Rattle.std.proofs.lemmas.List.{take_all, take_at, take-append-drop, drop-drop, nil_from_length}
use Rattle.wf_io.specs.Bytes.{Puts}

-- what is left of a list, as a range of it
pub rest_of : (xs : List ℕ) (w : ℕ) → take (length xs - w) (drop w xs) ≡ drop w xs
rest_of xs w = take_all (length xs - w) (drop w xs) (omega (arith, length-drop w xs))

-- a front, and then a front of the rest
pub puts_next : {S : Type 0} (took : S → List ℕ → Type 0) (a b c : S) (xs : List ℕ) (w n : ℕ)
    → Puts took a b (take w xs) → Puts took b c (take n (take (length xs - w) (drop w xs))) → Puts took a c (take (w + n) xs)
puts_next took a b c xs w n first second before t =
    let joined : (before ++ take w xs) ++ take n (take (length xs - w) (drop w xs)) ≡ before ++ take (w + n) xs =
    rw (rest_of xs w, take-add w n xs) (append_assoc before (take w xs) (take n (drop w xs))) in
    subst (took c) joined (second (before ++ take w xs) (first before t))

-- n bytes went from the front of what was left into the front of a piece; none only at the end
pub moved : (left bytes copied into : List ℕ) (at step n : ℕ) → left ≡ drop at bytes → copied ≡ take n left
    → n ≡ min (min step (length into)) (length left) → 0 < step
    → (left ≡ take n (copied ++ drop n into) ++ drop (at + n) bytes)
    × (n ≡ 0 → 0 < length (copied ++ drop n into) → drop (at + n) bytes ≡ [])
moved left bytes copied into at step n left-is copied-is count some =
    let len : length copied ≡ n = rw copied-is (omega (arith, length-take n left)) in
    let rest-is : drop (at + n) bytes ≡ drop n left = rw left-is (sym (drop-drop n at bytes)) in (
      rw (take_at copied (drop n into) n len, rest-is, copied-is) (sym (take-append-drop n left)),
      λ none room. rw rest-is (nil_from_length (drop n left)
          (omega (arith, length-drop n left, length-append copied (drop n into), length-drop n into))),
    )
