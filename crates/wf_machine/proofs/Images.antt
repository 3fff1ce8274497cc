-- The images that ports keep for their frames.
use Rattle.wf_machine.proofs.Common.{◌≡◌, ℕ, zero, suc, ◌-◌, ◌≤◌, List, [], ◌∷◌, ◌++◌, Option, Some, ap, sym, subst, ◌∙◌, ◌<◌, ◌+◌, length}
use Rattle.wf_machine.proofs.Common.{take, get_or, None, refl, arith, slice_set, take_more, Size, Rgba8Pre, Bitmap, blank, mode_size}
use Rattle.wf_machine.proofs.Common.{HoldsBut}
use Rattle.wf_machine.proofs.Common.{IsFrameImage}

pub holds_more : (sizes : List Size) (places : List (Option Bitmap)) (size : Size) (place : Option Bitmap) → HoldsBut 0 sizes places
    → IsFrameImage size place → HoldsBut 0 (sizes ++ size ∷ []) (places ++ place ∷ [])
holds_more [] [] size place all one = (one, tt)
holds_more [] (p ∷ places) size place all one = absurd all
holds_more (s ∷ sizes) [] size place all one = absurd all
holds_more (s ∷ sizes) (p ∷ places) size place all one = (all.0, holds_more sizes places size place all.1 one)

-- a new image is one for a frame
pub is_frame_image : (size : Size) (image : Bitmap) → image ≡ blank size Rgba8Pre → IsFrameImage size (Some image)
is_frame_image size image is = (ap (λ i. i.size) is, ap (λ i. i.format) is)

-- one element more of a list that is copied
pub taken_more : {A : Type 0} (xs items new : List A) (i : ℕ) (d : A) → i < length xs → items ≡ take i xs
    → new ≡ items ++ get_or xs i d ∷ [] → new ≡ take (i + 1) xs
taken_more xs items new i d within is more = more ∙ ap (λ ys. ys ++ get_or xs i d ∷ []) is ∙ sym (take_more xs i d within)

-- there is a place for the image of each mode
pub as_many : (away : ℕ) (sizes : List Size) (places : List (Option Bitmap)) → HoldsBut away sizes places → length places ≡ length sizes
as_many away [] [] holds = refl
as_many away [] (p ∷ places) holds = absurd holds
as_many away (s ∷ sizes) [] holds = absurd holds
as_many away (s ∷ sizes) (p ∷ places) holds = omega (arith, as_many (away - 1) sizes places holds.1)

-- the image at a place, which is taken and comes back

there_at : (i : ℕ) (sizes : List Size) (places : List (Option Bitmap)) (d : Option Bitmap) → HoldsBut 0 sizes places → i < length sizes
    → IsFrameImage (mode_size (suc i) sizes) (get_or places i d)
there_at i [] places d holds within = absurd (omega (arith, within))
there_at i (s ∷ sizes) [] d holds within = absurd holds
there_at zero (s ∷ sizes) (p ∷ places) d holds within = holds.0
there_at (suc i) (s ∷ sizes) (p ∷ places) d holds within = there_at i sizes places d holds.1 (omega (arith, within))

taken_at : (i : ℕ) (sizes : List Size) (places : List (Option Bitmap)) → HoldsBut 0 sizes places → i < length sizes
    → HoldsBut (suc i) sizes (slice_set places i None)
taken_at i [] places holds within = absurd (omega (arith, within))
taken_at i (s ∷ sizes) [] holds within = absurd holds
taken_at zero (s ∷ sizes) (p ∷ places) holds within = (refl, holds.1)
taken_at (suc i) (s ∷ sizes) (p ∷ places) holds within =
    let lower : suc i ≡ suc (suc i) - 1 = omega arith in
    (holds.0, subst (λ m. HoldsBut m sizes (slice_set places i None)) lower (taken_at i sizes places holds.1 (omega (arith, within))))

put_at : (i : ℕ) (sizes : List Size) (places : List (Option Bitmap)) (image : Bitmap) → HoldsBut (suc i) sizes places → i < length sizes
    → IsFrameImage (mode_size (suc i) sizes) (Some image) → HoldsBut 0 sizes (slice_set places i (Some image))
put_at i [] places image holds within shape = absurd (omega (arith, within))
put_at i (s ∷ sizes) [] image holds within shape = absurd holds
put_at zero (s ∷ sizes) (p ∷ places) image holds within shape = (shape, holds.1)
put_at (suc i) (s ∷ sizes) (p ∷ places) image holds within shape =
    let lower : suc (suc i) - 1 ≡ suc i = omega arith in
    (holds.0, put_at i sizes places image (subst (λ m. HoldsBut m sizes places) lower holds.1) (omega (arith, within)) shape)

-- the image of a mode, which is counted from 1

module _ (mode : ℕ) (sizes : List Size) (places : List (Option Bitmap)) (some : 1 ≤ mode) (within : mode ≤ length sizes) where
  next : suc (mode - 1) ≡ mode
  next = omega (arith, some)

  inside : mode - 1 < length sizes
  inside = omega (arith, some, within)

  pub image_there : (place : Option Bitmap) → HoldsBut 0 sizes places → place ≡ get_or places (mode - 1) place
      → IsFrameImage (mode_size mode sizes) place
  image_there place holds is =
      subst (λ o. IsFrameImage (mode_size mode sizes) o) (sym is)
      (subst (λ m. IsFrameImage (mode_size m sizes) (get_or places (mode - 1) place)) next
      (there_at (mode - 1) sizes places place holds inside))

  pub image_taken : HoldsBut 0 sizes places → HoldsBut mode sizes (slice_set places (mode - 1) None)
  image_taken holds = subst (λ m. HoldsBut m sizes (slice_set places (mode - 1) None)) next
      (taken_at (mode - 1) sizes places holds inside)

  pub image_put : (image : Bitmap) → HoldsBut mode sizes places → IsFrameImage (mode_size mode sizes) (Some image)
      → HoldsBut 0 sizes (slice_set places (mode - 1) (Some image))
  image_put image holds shape =
      put_at (mode - 1) sizes places image (subst (λ m. HoldsBut m sizes places) (sym next) holds) inside
      (subst (λ m. IsFrameImage (mode_size m sizes) (Some image)) (sym next) shape)
