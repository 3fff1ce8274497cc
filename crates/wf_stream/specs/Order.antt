-- In which order images go through a queue stream: those that frames take are those that were posted, in their order, and none is
-- left out or comes twice.
use Rattle.std.proofs.Common.{◌≡◌, ◌∙◌, false, List, [], ◌∷◌, ◌++◌, Option, Some, None, refl, sym, ap, append_assoc, append-nil}
use Rattle.std.specs.Prelude.{take}
use Rattle.wf_image.specs.Bitmap.{Bitmap}
use Rattle.wf_stream.specs.Buffers.{Buffers, acquired, discarded, home_image, is_plain, latched, posted, returned}

-- what a call on one stream does
pub data Deed : Type 0 where
  acquires : Deed
  posts : Bitmap → Deed
  discards : Deed
  latches : Deed
  returns : Bitmap → Deed

abbrev pub after : Buffers → Deed → Buffers
after b acquires = acquired b
after b (posts image) = posted image b
after b discards = discarded b
after b latches = latched b
after b (returns image) = returned image b

-- the image that it puts behind the others
abbrev pub put_in : Deed → List Bitmap
put_in (posts image) = image ∷ []
put_in _ = []

-- the waiting image that it takes out
abbrev pub taken_out : Buffers → Deed → List Bitmap
taken_out b latches = take 1 b.waiting
taken_out b _ = []

-- calls one after another

unfoldable pub after_all : Buffers → List Deed → Buffers
after_all b [] = b
after_all b (d ∷ ds) = after_all (after b d) ds

unfoldable pub all_put_in : List Deed → List Bitmap
all_put_in [] = []
all_put_in (d ∷ ds) = put_in d ++ all_put_in ds

unfoldable pub all_taken_out : Buffers → List Deed → List Bitmap
all_taken_out b [] = []
all_taken_out b (d ∷ ds) = taken_out b d ++ all_taken_out (after b d) ds

-- one call
pub once_in_order : (b : Buffers) (d : Deed) → is_plain b ≡ false
    → (b.waiting ++ put_in d ≡ taken_out b d ++ (after b d).waiting) × (is_plain (after b d) ≡ false)
once_in_order b acquires queue = (append-nil b.waiting, queue)
once_in_order b (posts image) queue = (rw queue refl, queue)
once_in_order b discards queue = (append-nil b.waiting, queue)
once_in_order b (returns image) queue = (append-nil b.waiting, queue)
once_in_order b latches queue = of_waiting b.waiting refl
  where
    Goal : Type 0
    Goal = (b.waiting ++ [] ≡ take 1 b.waiting ++ (latched b).waiting) × (is_plain (latched b) ≡ false)

    of_read : b.waiting ≡ [] → (o : Option Bitmap) → home_image b.read ≡ o → Goal
    of_read none None at = rw (none, at) (refl, queue)
    of_read none (Some image) at = rw (none, at) (refl, queue)

    of_waiting : (xs : List Bitmap) → b.waiting ≡ xs → Goal
    of_waiting [] none = of_read none (home_image b.read) refl
    of_waiting (image ∷ rest) at = rw at (append-nil (image ∷ rest), queue)

-- what waited and what was posted is what frames took and what waits still, in one order
pub in_order : (b : Buffers) (ds : List Deed) → is_plain b ≡ false
    → b.waiting ++ all_put_in ds ≡ all_taken_out b ds ++ (after_all b ds).waiting
unfolding all_put_in all_taken_out after_all
in_order b [] queue = append-nil b.waiting
in_order b (d ∷ ds) queue =
    let one = once_in_order b d queue in
    let later = in_order (after b d) ds one.1 in
    sym (append_assoc b.waiting (put_in d) (all_put_in ds))
    ∙ ap (λ xs. xs ++ all_put_in ds) one.0
    ∙ append_assoc (taken_out b d) (after b d).waiting (all_put_in ds)
    ∙ ap (λ xs. taken_out b d ++ xs) later
    ∙ sym (append_assoc (taken_out b d) (all_taken_out (after b d) ds) (after_all (after b d) ds).waiting)
