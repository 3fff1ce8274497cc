-- What holds of the streams once a frame has taken their images.
use Rattle.wf_machine.proofs.Common.{◌≡◌, ℕ, ◌+◌, ◌<◌, ◌≤◌, Bool, true, false, cond, ◌==◌, List, [], ◌∷◌, map, Option, Some, None, refl}
use Rattle.wf_machine.proofs.Common.{sym, ap, subst, ◌∙◌, arith, find, option_map, IsSomeAnd, eq-eqb, nat_tests, is_in, once}
use Rattle.wf_machine.proofs.Common.{Bitmap, image_of, Buffers, HasShape, latched, next_image}
use Rattle.wf_machine.proofs.Common.{KeptStream, IsNumbered, buffers_at, stream_at}
use Rattle.wf_machine.proofs.Common.{Content, content_shape, latch, latched_among, next_images, next_image_of, Images, AreAtHome}
use Rattle.wf_machine.proofs.Common.{AreShapedAs, IsShapedAs, Inside, AllFit, AreNumbered, AreOnce, IsRead, StreamFits}
use Rattle.wf_machine.proofs.Common.{content_at, contents_of, Holds, running_of, by_number, NoneTwice, once_none_twice}
use Rattle.wf_machine.proofs.StreamsLatched.{image_is_next, latched_keeps}
use Rattle.wf_machine.proofs.StreamsMapped.{found_mapped, latch_keeps}

-- the shape of a stream's image among the contents
pub content_of_image : (n : ℕ) (contents : Images)
    → content_at n (map content_shape contents) ≡ option_map (λ image. content_shape (n, image)) (image_of n contents)
content_of_image n [] = refl
content_of_image n (pair ∷ contents) =
    let shape : Bitmap → Content = λ image. content_shape (n, image) in
    by_number (cond (pair.0 == n) (Some (content_shape pair)) (content_at n (map content_shape contents))
    ≡ option_map shape (option_map (λ p. p.1)
    (cond (pair.0 == n) (Some pair) (find (λ p. p.0 == n) contents)))) pair.0 n
    (λ here same. rw here (ap (λ k. Some (content_shape (k, pair.1))) same))
    (λ apart. rw apart (content_of_image n contents))

pub shaped_at : (n : ℕ) (image : Bitmap) (streams : List KeptStream) (contents : Images) → AreShapedAs streams contents
    → image_of n contents ≡ Some image → IsShapedAs n streams image
shaped_at n image streams [] shaped found = absurd cc
shaped_at n image streams (pair ∷ contents) shaped found =
    by_number (IsShapedAs n streams image) pair.0 n
    (λ here same. (
    let is : Some pair.1 ≡ Some image = rw here at found in
    let this : pair.1 ≡ image = cc in
    subst (λ k. IsShapedAs k streams image) same (subst (λ i. IsShapedAs pair.0 streams i) this shaped.0)))
    (λ apart. shaped_at n image streams contents shaped.1 (rw apart at found))

stream_latched : (ns : List ℕ) (n : ℕ) (streams : List KeptStream)
    → stream_at n (latch ns streams) ≡ option_map (latched_among ns) (stream_at n streams)
stream_latched ns n streams = found_mapped (latched_among ns) (latch_keeps ns) n streams

latched_size : (b : Buffers) → (latched b).size ≡ b.size
latched_size b = latched_keeps.size b

-- the read image of a stream that is latched
read_latched : (b : Buffers) (n : ℕ) (o : Option Bitmap) → next_image b ≡ o → IsRead b None
    → ((image : Bitmap) → o ≡ Some image → HasShape (latched b).size (latched b).format image)
    → IsRead (latched b) (option_map (λ image. content_shape (n, image)) o)
read_latched b n None is home shape = rw is home
read_latched b n (Some image) is home shape =
    let has = shape image refl in
    (rw is refl, sym has.size_is, sym has.format_is)

module _ (ns : List ℕ) (whole : List KeptStream) (shaped : AreShapedAs (latch ns whole) (next_images ns whole)) where
  abbrev taken : List Content
  taken = map content_shape (next_images ns whole)

  one_fits : (s : KeptStream) → stream_at s.number whole ≡ Some s → StreamFits [] s → StreamFits taken (latched_among ns s)
  one_fits s found fits = by_member (is_in s.number ns) refl
    where
      Fits : Bool → Type 0
      Fits b = StreamFits taken (cond b (record s { buffers = latched s.buffers }) s)

      image_is : (b : Bool) → is_in s.number ns ≡ b → image_of s.number (next_images ns whole) ≡ cond b (next_image s.buffers) None
      image_is b is = image_is_next ns s.number whole ∙ ap (λ c. cond c (next_image_of (stream_at s.number whole)) None) is
          ∙ ap (λ o. cond b (next_image_of o) None) found

      content_is : (b : Bool) → is_in s.number ns ≡ b → content_at s.number taken
          ≡ option_map (λ image. content_shape (s.number, image)) (cond b (next_image s.buffers) None)
      content_is b is = content_of_image s.number (next_images ns whole)
          ∙ ap (λ o. option_map (λ image. content_shape (s.number, image)) o) (image_is b is)

      shape : is_in s.number ns ≡ true → (image : Bitmap) → next_image s.buffers ≡ Some image
          → HasShape (latched s.buffers).size (latched s.buffers).format image
      shape within image is =
          let has = shaped_at s.number image (latch ns whole) (next_images ns whole) shaped (image_is true within ∙ is) in
          let here : stream_at s.number (latch ns whole) ≡ Some (record s { buffers = latched s.buffers }) =
          stream_latched ns s.number whole ∙ ap (λ o. option_map (latched_among ns) o) found
          ∙ ap (λ b. Some (cond b (record s { buffers = latched s.buffers }) s)) within in
          rw here at has

      by_member : (b : Bool) → is_in s.number ns ≡ b → Fits b
      by_member false is = record { sides = fits.sides; read = rw (content_is false is) fits.read }
      by_member true is =
          record {
            sides = rw (latched_size s.buffers) fits.sides;
            read = rw (content_is true is) (read_latched s.buffers s.number (next_image s.buffers) refl fits.read (shape is));
          }

-- each stream is found by its number
abbrev pub AllFound : List KeptStream → List KeptStream → Type 0
AllFound whole [] = Unit {0}
AllFound whole (s ∷ streams) = (stream_at s.number whole ≡ Some s) × AllFound whole streams

found_behind : (s : KeptStream) (low high : ℕ) (whole streams : List KeptStream) → s.number < low + 1 → IsNumbered low streams high
    → AllFound whole streams → AllFound (s ∷ whole) streams
found_behind s low high whole [] under rising found = tt
found_behind s low high whole (t ∷ streams) under rising found =
    let apart : (s.number == t.number) ≡ false = grind (arith, nat_tests, rising.0) in
    (rw apart found.0, found_behind s t.number high whole streams (omega (arith, rising.0)) rising.1 found.1)

pub all_found : (low high : ℕ) (streams : List KeptStream) → IsNumbered low streams high → AllFound streams streams
all_found low high [] rising = tt
all_found low high (s ∷ streams) rising =
    let here : (s.number == s.number) ≡ true = eq-eqb s.number s.number refl in
    (rw here refl, found_behind s s.number high streams streams (omega arith) rising.1 (all_found s.number high streams rising.1))

-- all streams fit beside the frame that took their images
pub all_latched : (ns : List ℕ) (high : ℕ) (streams : List KeptStream) → IsNumbered 0 streams high
    → AreShapedAs (latch ns streams) (next_images ns streams) → AllFit [] streams
    → AllFit (map content_shape (next_images ns streams)) (latch ns streams)
all_latched ns high streams rising shaped fit = each streams (all_found 0 high streams rising) fit
  where
    each : (ss : List KeptStream) → AllFound streams ss → AllFit [] ss
        → AllFit (map content_shape (next_images ns streams)) (latch ns ss)
    each [] found fits = tt
    each (s ∷ ss) found fits = (one_fits ns streams shaped s found.0 fits.0, each ss found.1 fits.1)

contents_once : (ns : List ℕ) (streams : List KeptStream) → NoneTwice ns → AreOnce (map content_shape (next_images ns streams))
contents_once [] streams none = tt
contents_once (n ∷ ns) streams none = of_next_image (contents_once ns streams none.1) (next_image_of (stream_at n streams)) refl
  where
    of_next_image : AreOnce (map content_shape (next_images ns streams)) → (o : Option Bitmap) → next_image_of (stream_at n streams) ≡ o
        → AreOnce (map content_shape (next_images (n ∷ ns) streams))
    of_next_image later None is = rw is later
    of_next_image later (Some image) is =
        let absent : content_at n (map content_shape (next_images ns streams)) ≡ None = content_of_image n (next_images ns streams)
        ∙ ap (λ o. option_map (λ i. content_shape (n, i)) o) (image_is_next ns n streams
        ∙ ap (λ b. cond b (next_image_of (stream_at n streams)) None) none.0) in
        rw is (absent, later)

pub taken_once : (ns : List ℕ) (streams : List KeptStream) → AreOnce (map content_shape (next_images (once ns) streams))
taken_once ns streams = contents_once (once ns) streams (once_none_twice ns)

-- a stream that is kept was numbered
within_high : (n low high : ℕ) (streams : List KeptStream) (b : Buffers) → IsNumbered low streams high → buffers_at n streams ≡ Some b
    → n ≤ high
within_high n low high [] b rising found = absurd cc
within_high n low high (s ∷ streams) b rising found =
    by_number (n ≤ high) s.number n
    (λ here same. omega (arith, same, under s.number high streams rising.1))
    (λ apart. within_high n s.number high streams b rising.1 (rw apart at found))
  where
    under : (low high : ℕ) (streams : List KeptStream) → IsNumbered low streams high → low ≤ high
    under low high [] rising = rising
    under low high (s ∷ streams) rising = omega (arith, rising.0, under s.number high streams rising.1)

shaped_numbered : (n high : ℕ) (image : Bitmap) (streams : List KeptStream) → IsNumbered 0 streams high → IsShapedAs n streams image
    → n ≤ high
shaped_numbered n high image streams rising shaped = of_buffers (buffers_at n streams) refl shaped
  where
    of_buffers : (o : Option Buffers) → buffers_at n streams ≡ o → IsSomeAnd o (λ b. HasShape b.size b.format image) → n ≤ high
    of_buffers None is shape = absurd shape
    of_buffers (Some b) is shape = within_high n 0 high streams b rising is

pub all_numbered : (high : ℕ) (streams : List KeptStream) (contents : Images) → IsNumbered 0 streams high → AreShapedAs streams contents
    → AreNumbered high (map content_shape contents)
all_numbered high streams [] rising shaped = tt
all_numbered high streams (pair ∷ contents) rising shaped =
    (shaped_numbered pair.0 high pair.1 streams rising shaped.0, all_numbered high streams contents rising shaped.1)

-- while no frame runs all streams are at home
pub all_home : (streams : List KeptStream) → AllFit [] streams → AreAtHome streams
all_home [] fit = tt
all_home (s ∷ streams) fit = (fit.0.read, all_home streams fit.1)

pub home_without : (m : Inside) → m.frame ≡ None → Holds m → AreAtHome m.store.streams
home_without m free sound =
    all_home m.store.streams
    (subst (λ f. AllFit (contents_of (option_map running_of f)) m.store.streams) free sound.streams)
