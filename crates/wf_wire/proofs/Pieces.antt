-- What a piece holds that is filled bit by bit.
use Rattle.std.proofs.Common.{◌≡◌, ◌∙◌, ℕ, ◌+◌, ◌<◌, ◌≤◌, List, ◌++◌, length, take, Option, Some, None, subst, sym, ap, refl, arith}
use Rattle.std.proofs.Math.Seq.{take-append-add}
use Rattle.std.proofs.lemmas.List.{take-take, length-take-le}
use Rattle.std.proofs.lemmas.Slice.{take-put_mid}
use Rattle.std.proofs.KnownBytes.{Consumes-trans}
use Rattle.std.specs.Io.KnownBytes.{Consumes, Keeps}
use Rattle.wf_wire.specs.Taking.{TakesFewer}
use borrow.Rule.Slice.PartMut.{put_mid}

-- what was there, and the first of what is put behind it
pub take_more : (a k n : ℕ) (xs ys : List ℕ) → a ≤ length xs → n ≤ length ys → take (a + n) (put_mid a k xs ys) ≡ take a xs ++ take n ys
take_more a k n xs ys some few =
    sym (take-take (a + n) (a + length ys) (put_mid a k xs ys) (omega arith))
    ∙ ap (take (a + n)) (take-put_mid a k xs ys (a + length ys) refl some)
    ∙ ap (λ m. take (m + n) (take a xs ++ ys)) (sym (length-take-le a xs some))
    ∙ take-append-add (take a xs) ys n

-- and so of what a source gave
pub fills_more : (old mid new : Option (List ℕ)) (a k n : ℕ) (xs ys : List ℕ) → a ≤ length xs → n ≤ length ys
    → Consumes old mid (take a xs) → Consumes mid new (take n ys) → Consumes old new (take (a + n) (put_mid a k xs ys))
fills_more old mid new a k n xs ys some few first second =
    subst (Consumes old new) (sym (take_more a k n xs ys some few)) (Consumes-trans old mid new (take a xs) (take n ys) first second)

-- a source that fails gives nothing more
consumes_no_more : (old mid new : Option (List ℕ)) (xs : List ℕ) → Consumes old mid xs → Keeps mid new → Consumes old new xs
consumes_no_more None mid new xs taken kept = tt
consumes_no_more (Some bytes) None new xs taken kept = absurd taken
consumes_no_more (Some bytes) (Some left) None xs taken kept = absurd kept
consumes_no_more (Some bytes) (Some left) (Some rest) xs taken kept = taken ∙ ap (λ ys. xs ++ ys) (sym kept)

-- and so fewer bytes came than the piece has room for
pub takes_fewer : (old mid new : Option (List ℕ)) (a n : ℕ) (xs : List ℕ) → Consumes old mid (take a xs) → Keeps mid new → a < length xs
    → length xs ≡ n → TakesFewer old new n
takes_fewer old mid new a n xs first kept inside long = (
  take a xs,
  consumes_no_more old mid new (take a xs) first kept,
  let few : length (take a xs) ≡ a = length-take-le a xs (omega arith) in omega arith,
)
