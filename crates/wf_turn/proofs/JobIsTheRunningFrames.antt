-- The Job of a frame that begins is that frame's, painted or not.
use Rattle.wf_turn.proofs.Common.{◌≡◌, ℕ, ◌+◌, true, false, ◌==◌, List, [], ◌∷◌, map, length, Option, Some, None, refl, subst, arith}
use Rattle.wf_turn.proofs.Common.{list_all, eq-eqb, nat_tests, length-map, is_in, Format, Size, same_format, same_size, Bitmap, drawn}
use Rattle.wf_turn.proofs.Common.{image_of, KeptStream, stream_at, JobKind, Beginning, is_of_frame, job_of, next_images, next_image_of}
use Rattle.wf_turn.proofs.Common.{running_of, same_kind, scene_streams, Images, State, painted_job}
use Rattle.wf_pixel.specs.declared.Format.TheVariants as format
use Rattle.wf_calls.specs.declared.call.JobKind.TheVariants as kind
use Rattle.wf_model.specs.Frames.{content_shape, has_shape}
use Rattle.wf_words.specs.Once.{NoneTwice, once_none_twice}

-- no stream has two images
abbrev Apart : Images → Type 0
Apart [] = Unit {0}
Apart (p ∷ xs) = (image_of p.0 xs ≡ None) × Apart xs

no_image : (n : ℕ) (ns : List ℕ) (streams : List KeptStream) → is_in n ns ≡ false → image_of n (next_images ns streams) ≡ None
no_image n [] streams absent = refl
no_image n (k ∷ ns) streams absent =
    elim (k == n) as (λ b. (k == n) ≡ b → image_of n (next_images (k ∷ ns) streams) ≡ None) [
      | true ↦ λ here. absurd (let no : true ≡ false = rw here at absent in cc)
      | false ↦ λ apart. of_next_image apart (no_image n ns streams (rw apart at absent)) (next_image_of (stream_at k streams)) refl
    ] refl
  where
    of_next_image : (k == n) ≡ false → image_of n (next_images ns streams) ≡ None → (o : Option Bitmap)
        → next_image_of (stream_at k streams) ≡ o
        → image_of n (next_images (k ∷ ns) streams) ≡ None
    of_next_image apart rest None is = rw is rest
    of_next_image apart rest (Some image) is = rw (is, apart) rest

next_images_apart : (ns : List ℕ) (streams : List KeptStream) → NoneTwice ns → Apart (next_images ns streams)
next_images_apart [] streams none = tt
next_images_apart (n ∷ ns) streams none = of_next_image (next_images_apart ns streams none.1) (next_image_of (stream_at n streams)) refl
  where
    of_next_image : Apart (next_images ns streams) → (o : Option Bitmap) → next_image_of (stream_at n streams) ≡ o
        → Apart (next_images (n ∷ ns) streams)
    of_next_image rest None is = rw is rest
    of_next_image rest (Some image) is = rw is (no_image n ns streams none.0, rest)

same_sizes : (s : Size) → same_size s s ≡ true
same_sizes s = rw (eq-eqb s.w s.w refl, eq-eqb s.h s.h refl) refl

same_formats : (f : Format) → same_format f f ≡ true
same_formats format.Rgba8 = refl
same_formats format.Rgba8Pre = refl
same_formats format.Rgbx8 = refl
same_formats format.A8 = refl

same_kinds : (k : JobKind) → same_kind k k ≡ true
same_kinds (kind.Context handle target) = rw (eq-eqb handle handle refl, eq-eqb target target refl) refl
same_kinds (kind.Port p) = eq-eqb p p refl

-- of images that stand apart, each has its own shape, among more images too
all_shaped : (xs : Images) → Apart xs → (whole : Images) → ((n : ℕ) (i : Bitmap) → image_of n xs ≡ Some i → image_of n whole ≡ Some i)
    → list_all (λ c. has_shape (image_of c.stream whole) c) (map content_shape xs) ≡ true
all_shaped [] apart whole within = refl
all_shaped (p ∷ xs) apart whole within =
    let here : (p.0 == p.0) ≡ true = eq-eqb p.0 p.0 refl in
    let this : image_of p.0 whole ≡ Some p.1 = within p.0 p.1 (rw here refl) in
    let rest = all_shaped xs apart.1 whole (λ n i found. within n i (more n i found)) in
    rw (this, same_sizes p.1.size, same_formats p.1.format) rest
  where
    more : (n : ℕ) (i : Bitmap) → image_of n xs ≡ Some i → image_of n (p ∷ xs) ≡ Some i
    more n i found =
        elim (p.0 == n) as (λ b. (p.0 == n) ≡ b → image_of n (p ∷ xs) ≡ Some i) [
          | true ↦ λ here. absurd (let same : p.0 ≡ n = grind (arith, nat_tests, here) in
              let no : image_of n xs ≡ None = subst (λ k. image_of k xs ≡ None) same apart.0 in cc)
          | false ↦ λ other. rw other found
        ] refl

-- the Job of a frame that begins, painted
pub own_job : (b : Beginning) (h : State) → is_of_frame (painted_job (job_of b h)) (running_of (job_of b h)) ≡ true
unfolding drawn
own_job b h =
    let streams = scene_streams b.scene in
    let images = next_images streams h.streams in
    let shaped = all_shaped images (next_images_apart streams h.streams (once_none_twice _)) images (λ n i found. found) in
    rw (
      eq-eqb (h.begun + 1) (h.begun + 1) refl,
      same_kinds b.kind,
      same_sizes b.scene.size,
      same_formats b.format,
      length-map images content_shape,
      eq-eqb (length images) (length images) refl,
    ) shaped
