-- The images that wait in a stream's ring, once one more is put into it or the oldest is taken.
use Rattle.std.proofs.Common.{◌≡◌, ℕ, suc, zero, ◌+◌, ◌<◌, ◌≤◌, true, false, List, [], ◌∷◌, ◌++◌, length, drop, nat_lt, refl, ap}
use Rattle.std.proofs.Common.{◌∙◌, arith, Option, Some, None, slice_get, subst, inl, inr, length-append}
use Rattle.std.specs.Prelude.{if◌then◌else◌, ◌≢◌}
use Rattle.std.specs.List.{All}
use Rattle.std.proofs.lemmas.Bool.Decides.{nat_tests}
use Rattle.std.proofs.lemmas.Grind.{common_steps}
use Rattle.std.proofs.lemmas.List.Elements.{All-head, All-push}
use Rattle.circular_buffer.specs.Buffer.{buffer, keep_last}
use Rattle.wf_image.specs.Bitmap.{Bitmap}
use Rattle.wf_stream.specs.Buffers.{HasShape, ReadBuffer, away, home, home_image, never, read_count}
use Rattle.wf_stream.specs.Inside.{HasBuffers, IsSound, most_waiting}
use Rattle.wf_stream.specs.declared.stream.Stream.TheInside.{Inside}

-- what a ring gives up for one more image
abbrev pub given_up : List Bitmap → ℕ → Bitmap → Option Bitmap
given_up images most image = if nat_lt (length images) most then None else slice_get (images ++ image ∷ []) 0

-- a ring that gives up none had room
pub had_room : (images : List Bitmap) (most : ℕ) (image : Bitmap) → given_up images most image ≡ None → length images < most
had_room [] most image none = grind (arith, nat_tests, none)
had_room (x ∷ images) most image none = grind (arith, nat_tests, none)

-- one that gives up an image was full
pub was_full : (images : List Bitmap) (most : ℕ) (image old : Bitmap) → given_up images most image ≡ Some old → most ≤ length images
was_full images most image old given = grind (arith, nat_tests, given)

-- where there is room, all stay
pub all_kept : (images : List Bitmap) (most : ℕ) (image : Bitmap) → length images < most
    → keep_last most (images ++ image ∷ []) ≡ images ++ image ∷ []
all_kept images most image room = grind (arith, common_steps, room)

-- a ring of one that is full changes its image
pub one_kept : (images : List Bitmap) (image : Bitmap) → length images ≡ 1 → keep_last 1 (images ++ image ∷ []) ≡ image ∷ []
one_kept (x ∷ []) image one = refl
one_kept [] image one = absurd cc
one_kept (x ∷ y ∷ images) image one = absurd (omega (arith, one))

-- the image that it gives up is one that waited
pub one_given : (P : Bitmap → Type 0) (images : List Bitmap) (image old : Bitmap) → length images ≡ 1
    → given_up images 1 image ≡ Some old → All P images → P old
one_given P (x ∷ []) image old one given all = (let same : x ≡ old = cc in subst P same (All-head P x [] all))
one_given P [] image old one given all = absurd cc
one_given P (x ∷ y ∷ images) image old one given all = absurd (omega (arith, one))

-- the oldest image is one that waited, and leaves one fewer
pub oldest_of : (P : Bitmap → Type 0) (images : List Bitmap) (image : Bitmap) → slice_get images 0 ≡ Some image → All P images → P image
oldest_of P [] image is all = absurd cc
oldest_of P (x ∷ images) image is all = (let same : x ≡ image = cc in subst P same (All-head P x images all))

pub one_fewer : (images : List Bitmap) (image : Bitmap) → slice_get images 0 ≡ Some image → length (drop 1 images) + 1 ≡ length images
one_fewer [] image is = absurd cc
one_fewer (x ∷ images) image is = omega arith

-- a full ring whose stream has its write buffer out is a plain stream's, with one image
pub full_is_plain : (depth buffers most waiting : ℕ) → HasBuffers depth buffers → most ≡ most_waiting depth → waiting ≤ most
    → (0 < depth → waiting < depth) → most ≤ waiting → (most ≡ 1) × (waiting ≡ 1)
full_is_plain depth buffers most waiting (inl plain) ring fits next full =
    let one : most ≡ 1 = ring ∙ ap most_waiting plain.0 in
    (one, omega (arith, one, fits, full))
full_is_plain zero buffers most waiting (inr queue) ring fits next full = absurd (omega (arith, queue.0))
full_is_plain (suc depth) buffers most waiting (inr queue) ring fits next full =
    absurd (let most_is : most ≡ suc depth = grind (arith, nat_tests, ring) in
    let room = next (omega arith) in
    omega (arith, most_is, room, full))

-- a read buffer that is neither away nor home is not there
pub not_read : (r : ReadBuffer) → r ≢ away → home_image r ≡ None → read_count r ≡ 0
not_read r apart none = of_read r refl
  where
    of_read : (q : ReadBuffer) → r ≡ q → read_count r ≡ 0
    of_read never is = rw is refl
    of_read away is = absurd (apart is)
    of_read (home image) is = absurd (let no : Some image ≡ None = rw is at none in cc)

-- the stream whose write buffer waits now
pub posted_sound : (s : Inside) (image : Bitmap) → IsSound s → s.out ≡ true → HasShape s.size s.format image
    → length s.waiting.items < s.waiting.capacity
    → IsSound (record s { out = false; waiting = buffer (s.waiting.items ++ image ∷ []) s.waiting.capacity })
posted_sound s image sound out shape room =
    let count = rw out at sound.count in
    let more = length-append s.waiting.items (image ∷ []) in
    record {
      sides = sound.sides;
      has = sound.has;
      count = omega (arith, count, more);
      room = sound.room;
      ring = sound.ring;
      fits = omega (arith, more, room);
      next = λ no. absurd cc;
      free = sound.free;
      waiting = All-push (HasShape s.size s.format) s.waiting.items image sound.waiting shape;
      read = sound.read;
    }
