-- What calls on streams and frames change of the names that streams have of their own, and of the counts.
use Rattle.wf_machine.proofs.Common.{◌≡◌, ℕ, ◌+◌, Bool, true, false, not, cond, ◌&&◌, ◌==◌, List, [], ◌∷◌, ◌++◌, map, Option, Some}
use Rattle.wf_machine.proofs.Common.{None, refl, ap, ◌∙◌, arith, flat_map, is_some, option_map, nat_tests, and_parts, IsSomeAnd}
use Rattle.wf_machine.proofs.Common.{Canvas, Buffers, acquired, posted, Bitmap, KeptStream, StoreView, IsNumbered, buffers_at}
use Rattle.wf_machine.proofs.Common.{change_stream}
use Rattle.wf_machine.proofs.Common.{stream_at, stream_of, JobKind, own_names, target_names, latch, latched_among, latched, brought_home}
use Rattle.wf_machine.proofs.Common.{drawing}
use Rattle.wf_machine.proofs.Common.{delivered, home_if, image_of, Images, is_in, is_target, is_out_at_client, same_format, same_size}
use Rattle.wf_machine.proofs.Common.{State}
use Rattle.wf_calls.specs.declared.call.JobKind.TheVariants as kind
use Rattle.wf_stream.specs.Counts.{times}
use Rattle.wf_stream.specs.Names.{AreCounted, times_append, times_one}
use Rattle.wf_stream.specs.Streams.{hand_over, under_handle}
use Rattle.wf_model.specs.Counting.{counts_if, own_changed, own_count, own_same}
use Rattle.wf_model.specs.Streams.{is_out_of}
use Rattle.wf_words.specs.Found.{passes}
use Rattle.wf_machine.specs.Naming.{drawn_names}
use Rattle.wf_machine.proofs.StreamsMapped.{KeepsStream, found_mapped, home_among}

-- a name where two numbers are one
one_if : (n k : ℕ) → times n (k ∷ []) ≡ counts_if (k == n) 1
one_if n k = times_one n k

-- the write buffer of a stream goes out, or comes home
module _ (high k : ℕ) (f : Buffers → Buffers) (ss : List KeptStream) (s : KeptStream) (rising : IsNumbered 0 ss high)
    (at : stream_at k ss ≡ Some s) (n : ℕ) where
  change : times n (flat_map own_names (change_stream k f ss)) + counts_if (k == n) (own_count s)
      ≡ times n (flat_map own_names ss) + counts_if (k == n) (own_count (record s { buffers = f s.buffers }))
  change = own_changed 0 high k n (λ t. record t { buffers = f t.buffers }) ss s (λ t. refl) rising at

  -- the count of a handle, beside a write buffer
  abbrev handle : ℕ
  handle = counts_if (not (s.handle == 0)) 1

  split : (b o : Bool) → counts_if b (handle + counts_if o 1) ≡ counts_if b handle + counts_if b (counts_if o 1)
  split true o = refl
  split false o = refl

  pub out_more : s.buffers.out ≡ false → (f s.buffers).out ≡ true
      → times n (flat_map own_names (change_stream k f ss)) ≡ times n (flat_map own_names ss) + times n (k ∷ [])
  out_more home out =
      let before : counts_if (k == n) (own_count s) ≡ counts_if (k == n) handle + counts_if (k == n) 0 =
      ap (λ o. counts_if (k == n) (handle + counts_if o 1)) home ∙ split (k == n) false in
      let after : counts_if (k == n) (own_count (record s { buffers = f s.buffers }))
      ≡ counts_if (k == n) handle + counts_if (k == n) 1 =
      ap (λ o. counts_if (k == n) (handle + counts_if o 1)) out ∙ split (k == n) true in
      let none : counts_if (k == n) 0 ≡ 0 = zero (k == n) in
      omega (arith, change, before, after, none, one_if n k)
    where
      zero : (b : Bool) → counts_if b 0 ≡ 0
      zero true = refl
      zero false = refl

  pub out_less : s.buffers.out ≡ true → (f s.buffers).out ≡ false
      → times n (flat_map own_names (change_stream k f ss)) + times n (k ∷ []) ≡ times n (flat_map own_names ss)
  out_less out home =
      let before : counts_if (k == n) (own_count s) ≡ counts_if (k == n) handle + counts_if (k == n) 1 =
      ap (λ o. counts_if (k == n) (handle + counts_if o 1)) out ∙ split (k == n) true in
      let after : counts_if (k == n) (own_count (record s { buffers = f s.buffers }))
      ≡ counts_if (k == n) handle + counts_if (k == n) 0 =
      ap (λ o. counts_if (k == n) (handle + counts_if o 1)) home ∙ split (k == n) false in
      let none : counts_if (k == n) 0 ≡ 0 = zero (k == n) in
      omega (arith, change, before, after, none, one_if n k)
    where
      zero : (b : Bool) → counts_if b 0 ≡ 0
      zero true = refl
      zero false = refl

-- the handle of a stream dies
pub handle_less : (high k h n : ℕ) (ss : List KeptStream) (s : KeptStream) → IsNumbered 0 ss high → stream_at k ss ≡ Some s
    → stream_of h ss ≡ Some s
    → times n (flat_map own_names (hand_over k 0 ss)) + times n (k ∷ []) ≡ times n (flat_map own_names ss)
handle_less high k h n ss s rising at found =
    let change = own_changed 0 high k n (under_handle 0) ss s (λ t. refl) rising at in
    let both = and_parts (s.handle == h) (not (h == 0)) (passes (λ t. (t.handle == h) && not (h == 0)) ss s found) in
    let live : (s.handle == 0) ≡ false = grind (arith, nat_tests, both) in
    let out : ℕ = counts_if s.buffers.out 1 in
    let before : counts_if (k == n) (own_count s) ≡ counts_if (k == n) (1 + out) =
    ap (λ b. counts_if (k == n) (counts_if (not b) 1 + out)) live in
    let parts : counts_if (k == n) (1 + out) ≡ counts_if (k == n) 1 + counts_if (k == n) (0 + out) = split (k == n) out in
    omega (arith, change, before, parts, one_if n k)
  where
    split : (b : Bool) (more : ℕ) → counts_if b (1 + more) ≡ counts_if b 1 + counts_if b (0 + more)
    split true more = omega arith
    split false more = refl

-- frames

-- what goes into a frame, and comes home from it, leaves the own names
pub own_latched : (ns : List ℕ) (ss : List KeptStream) → flat_map own_names (latch ns ss) ≡ flat_map own_names ss
own_latched ns ss = own_same (latched_among ns) ss same
  where
    out : (b : Buffers) → (latched b).out ≡ b.out
    out b = of_next_image _
      where
        of_next_image : (o : Option Bitmap) → (Rattle.wf_stream.specs.Buffers.away_if o b).out ≡ b.out
        of_next_image None = refl
        of_next_image (Some image) = refl

    same : (s : KeptStream) → own_names (latched_among ns s) ≡ own_names s
    same s = elim (is_in s.number ns) as (λ b. own_names (cond b (record s { buffers = latched s.buffers }) s) ≡ own_names s) [
      | true ↦ ap (λ o. cond (s.handle == 0) [] (s.number ∷ []) ++ cond o (s.number ∷ []) []) (out s.buffers)
      | false ↦ refl
    ]

pub own_home : (xs : Images) (ss : List KeptStream) → flat_map own_names (brought_home xs ss) ≡ flat_map own_names ss
own_home xs ss = own_same (home_among xs) ss (λ s. same s (image_of s.number xs))
  where
    same : (s : KeptStream) (o : Option Bitmap) → own_names (home_if o s) ≡ own_names s
    same s None = refl
    same s (Some image) = refl

-- the write buffer that a frame draws into, where it was at home
pub own_drawn : (k : JobKind) (high n : ℕ) (ss : List KeptStream) → IsNumbered 0 ss high
    → ((m : ℕ) → is_in m (target_names k) ≡ true → IsSomeAnd (buffers_at m ss) (λ b. b.out ≡ false))
    → times n (flat_map own_names (drawing k ss)) ≡ times n (flat_map own_names ss) + times n (target_names k)
own_drawn (kind.Context handle target) high n ss rising home = of_stream (stream_at target ss) refl
  where
    first : is_in target (target ∷ []) ≡ true
    first = (let same : (target == target) ≡ true = grind (arith, nat_tests) in rw same refl)

    of_stream : (o : Option KeptStream) → stream_at target ss ≡ o
        → times n (flat_map own_names (change_stream target acquired ss)) ≡ times n (flat_map own_names ss) + times n (target ∷ [])
    of_stream None at = absurd (rw at at (home target first))
    of_stream (Some s) at = out_more high target acquired ss s rising at n (rw at at (home target first)) refl
own_drawn (kind.Port port) high n ss rising home = omega arith

-- and where it is out and comes home
pub own_delivered : (k : JobKind) (image : Bitmap) (high n : ℕ) (ss : List KeptStream) → IsNumbered 0 ss high
    → ((m : ℕ) → is_in m (target_names k) ≡ true → IsSomeAnd (buffers_at m ss) (λ b. b.out ≡ true))
    → times n (flat_map own_names (delivered k image ss)) + times n (target_names k) ≡ times n (flat_map own_names ss)
own_delivered (kind.Context handle target) image high n ss rising out = of_stream (stream_at target ss) refl
  where
    first : is_in target (target ∷ []) ≡ true
    first = (let same : (target == target) ≡ true = grind (arith, nat_tests) in rw same refl)

    of_stream : (o : Option KeptStream) → stream_at target ss ≡ o
        → times n (flat_map own_names (change_stream target (posted image) ss)) + times n (target ∷ []) ≡ times n (flat_map own_names ss)
    of_stream None at = absurd (rw at at (out target first))
    of_stream (Some s) at = out_less high target (posted image) ss s rising at n (rw at at (out target first)) refl
own_delivered (kind.Port port) image high n ss rising out = omega arith

-- its two names
pub drawn_times : (n : ℕ) (k : JobKind) → times n (drawn_names k) ≡ times n (target_names k) + times n (target_names k)
drawn_times n (kind.Context handle target) = times_append n (target ∷ []) (target ∷ [])
drawn_times n (kind.Port port) = omega arith

-- streams that change under their numbers are counted as before
pub counted_mapped : (g : KeptStream → KeptStream) (v : StoreView) → KeepsStream g → AreCounted v
    → AreCounted (record v { streams = map g v.streams })
counted_mapped g v keeps counted n = ap is_some (found_mapped g keeps n v.streams) ∙ some (stream_at n v.streams) ∙ counted n
  where
    some : (o : Option KeptStream) → is_some (option_map g o) ≡ is_some o
    some None = refl
    some (Some s) = refl

-- a canvas that is out at a client is one of a stream that has it out
pub out_at : (canvas : Canvas) (h : State) → is_out_at_client canvas h ≡ true
    → (s : KeptStream) × (stream_at canvas.stream h.streams ≡ Some s) × (s.buffers.out ≡ true)
out_at canvas h out = of_stream (stream_at canvas.stream h.streams) refl
    (and_parts (not (is_target canvas.stream h.frame)) (is_out_of canvas (stream_at canvas.stream h.streams)) out).1
  where
    of_stream : (o : Option KeptStream) → stream_at canvas.stream h.streams ≡ o → is_out_of canvas o ≡ true
        → (s : KeptStream) × (stream_at canvas.stream h.streams ≡ Some s) × (s.buffers.out ≡ true)
    of_stream None at is = absurd cc
    of_stream (Some s) at is = (
      s,
      at,
      (and_parts s.buffers.out (same_size canvas.image.size s.buffers.size)
          (and_parts (s.buffers.out && same_size canvas.image.size s.buffers.size)
          (same_format canvas.image.format s.buffers.format) is).0).0,
    )
