-- The names that a frame is, as it begins and as it ends.
use Rattle.wf_machine.proofs.Common.{◌≡◌, ℕ, ◌+◌, ◌<◌, true, false, ◌==◌, ◌||◌, List, [], ◌∷◌, ◌++◌, map, Option, Some, None, refl, ap}
use Rattle.wf_machine.proofs.Common.{IsOfTarget, subst, ◌∙◌, arith, flat_map, option_map, eqb-true, IsSomeAnd, is_in, Size, Format, Buffers}
use Rattle.wf_machine.proofs.Common.{acquired, posted}
use Rattle.wf_machine.proofs.Common.{KeptStream, StoreView, buffers_at, stream_at, Job, JobKind, all_names, core_names, display_names}
use Rattle.wf_machine.proofs.Common.{frame_names, own_names, target_names}
use Rattle.wf_machine.proofs.Common.{Beginning, brought_home, content_shape, delivered, drawing, latch, latched_among, scene_streams}
use Rattle.wf_machine.proofs.Common.{settle, Images}
use Rattle.wf_machine.proofs.Common.{Frame, Inside, Holds, IsSound, KindFits, AreShapedAs, IsReady, running_of, sizes_of, state_of}
use Rattle.std.specs.List.{AllByRecursion}
use Rattle.std.specs.Option.{IsSome}
use Rattle.wf_calls.specs.declared.call.JobKind.TheVariants as kind
use Rattle.wf_stream.specs.Counts.{times}
use Rattle.wf_stream.specs.Names.{AreCounted, NamesFit, times_append}
use Rattle.wf_stream.specs.Renames.{Renames}
use Rattle.wf_stream.specs.Streams.{count_of}
use Rattle.wf_model.specs.Counting.{all_times}
use Rattle.wf_machine.specs.declared.port.Port as declared
use Rattle.wf_machine.specs.Naming.{drawn_names, held_names}
use Rattle.wf_machine.proofs.FrameBegunKeepsInvariant.{HasBegun, sound_begun, streams_are}
use Rattle.wf_machine.proofs.Counts.{settles, sound_renamed}
use Rattle.wf_machine.proofs.StreamsLatched.{numbered_latch}
use Rattle.wf_machine.proofs.StreamsMapped.{changed_at, changed_keeps, found_mapped, home_among, home_keeps, latch_keeps, numbered_mapped}
use Rattle.wf_machine.proofs.OwnNames.{counted_mapped, drawn_times, own_delivered, own_drawn, own_home, own_latched}
use Rattle.wf_machine.proofs.StreamNames.{ending_fit, names_seen}
use Rattle.wf_machine.proofs.StreamsStillFit.{acquired_keeps, posted_keeps, shape_kept}

-- the target of a frame is its one target
only_target : (target n : ℕ) → is_in n (target ∷ []) ≡ true → target ≡ n
only_target target n within = elim (target == n) as (λ b. (target == n) ≡ b → (b || false) ≡ true → target ≡ n) [
  | true ↦ λ is yes. eqb-true target n is
  | false ↦ λ other no. absurd cc
] refl within

first_of : (A B : Buffers → Type 0) (o : Option Buffers) → IsSomeAnd o (λ b. A b × B b) → IsSomeAnd o A
first_of A B None is = absurd is
first_of A B (Some b) is = is.0

-- its write buffer is at home before
pub targets_home : (k : JobKind) (ss : List KeptStream) (ports : List declared.Port) (mode : ℕ) → IsReady ss ports mode k → (n : ℕ)
    → is_in n (target_names k) ≡ true → IsSomeAnd (buffers_at n ss) (λ b. b.out ≡ false)
targets_home (kind.Context handle target) ss ports mode ready n within =
    subst (λ j. IsSomeAnd (buffers_at j ss) (λ b. b.out ≡ false)) (only_target target n within)
    (first_of (λ b. b.out ≡ false) _ (buffers_at target ss) ready.1)
targets_home (kind.Port port) ss ports mode ready n within = absurd cc

-- and out while it runs
pub targets_out : (k : JobKind) (modes : List (List Size)) (mode : ℕ) (ss : List KeptStream) (size : Size) (format : Format)
    → KindFits modes mode ss size format k → (n : ℕ) → is_in n (target_names k) ≡ true
    → IsSomeAnd (buffers_at n ss) (λ b. b.out ≡ true)
targets_out (kind.Context handle target) modes mode ss size format fits n within =
    subst (λ j. IsSomeAnd (buffers_at j ss) (λ b. b.out ≡ true)) (only_target target n within)
    (of_buffers (buffers_at target ss) fits)
  where
    of_buffers : (o : Option Buffers) → IsOfTarget o size format → IsSomeAnd o (λ b. b.out ≡ true)
    of_buffers None is = absurd is
    of_buffers (Some b) is = is.0
targets_out (kind.Port port) modes mode ss size format fits n within = absurd cc

-- streams while a frame draws are those before

drawn_kept_at : (k : JobKind) (n : ℕ) (ss : List KeptStream) → IsSome (stream_at n ss) → IsSome (stream_at n (drawing k ss))
drawn_kept_at (kind.Context handle target) n ss kept =
    of_stream (stream_at n ss) refl kept
  where
    of_stream : (o : Option KeptStream) → stream_at n ss ≡ o → IsSome o → IsSome (stream_at n (drawing (kind.Context handle target) ss))
    of_stream None at is = absurd cc
    of_stream (Some s) at is =
        rw (found_mapped (changed_at target acquired) (changed_keeps target acquired (shape_kept acquired acquired_keeps)) n ss, at) refl
drawn_kept_at (kind.Port port) n ss kept = kept

some_stream : (P : Buffers → Type 0) (n : ℕ) (ss : List KeptStream) → IsSomeAnd (buffers_at n ss) P → IsSome (stream_at n ss)
some_stream P n ss is = of_stream (stream_at n ss) is
  where
    of_stream : (o : Option KeptStream) → IsSomeAnd (option_map (λ s. s.buffers) o) P → IsSome o
    of_stream None is = absurd is
    of_stream (Some s) is = refl

pub drawn_kept : (k : JobKind) (ss : List KeptStream) (ports : List declared.Port) (mode : ℕ) → IsReady ss ports mode k
    → AllByRecursion (λ n. IsSome (stream_at n (drawing k ss))) (drawn_names k)
drawn_kept (kind.Context handle target) ss ports mode ready =
    let there = drawn_kept_at (kind.Context handle target) target ss (some_stream _ target ss ready.1) in (there, (there, tt))
drawn_kept (kind.Port port) ss ports mode ready = tt

pub contents_kept : (k : JobKind) (xs : Images) (ss : List KeptStream) → AreShapedAs ss xs
    → AllByRecursion (λ c. IsSome (stream_at c.stream (drawing k ss))) (map content_shape xs)
contents_kept k [] ss shaped = tt
contents_kept k (x ∷ xs) ss shaped = (drawn_kept_at k x.0 ss (some_stream _ x.0 ss shaped.0), contents_kept k xs ss shaped.1)

drawn_counted : (k : JobKind) (v : StoreView) → AreCounted v → AreCounted (record v { streams = drawing k v.streams })
drawn_counted (kind.Context handle target) v counted =
    counted_mapped (changed_at target acquired) v (changed_keeps target acquired (shape_kept acquired acquired_keeps)) counted
drawn_counted (kind.Port port) v counted = counted

-- a frame has begun, and the store is not told of it yet
pub counted_begun : (k : JobKind) (ns : List ℕ) (was : StoreView) → AreCounted was
    → AreCounted (record was { streams = drawing k (latch ns was.streams) })
counted_begun k ns was counted =
    drawn_counted k (record was { streams = latch ns was.streams }) (counted_mapped (latched_among ns) was (latch_keeps ns) counted)

module _ (was now : Inside) (b : Beginning) (frame : Frame) (contents : Images) (begun : HasBegun was now b frame contents)
    (sound : IsSound was) (ports : List declared.Port) (mode : ℕ)
    (ready : IsReady (latch (scene_streams b.scene) was.store.streams) ports mode b.kind) where
  abbrev after : List KeptStream
  after = latch (scene_streams b.scene) was.store.streams

  pub begun_counted : AreCounted now.store
  begun_counted = rw begun.store (counted_begun b.kind (scene_streams b.scene) was.store sound.counted)

  own : (n : ℕ) → times n (flat_map own_names now.store.streams)
      ≡ times n (flat_map own_names was.store.streams) + times n (target_names b.kind)
  own n =
      ap (λ ss. times n (flat_map own_names ss)) (streams_are was now b frame contents begun sound.holds)
      ∙ own_drawn b.kind was.store.numbered n after
      (numbered_latch (scene_streams b.scene) 0 was.store.numbered was.store.streams sound.holds.numbered)
      (targets_home b.kind after ports mode ready)
      ∙ ap (λ os. times n os + times n (target_names b.kind)) (own_latched (scene_streams b.scene) was.store.streams)

  -- so many names come
  pub begun_come : (n : ℕ) → 0 < n
      → count_of n now.store + times n (held_names frame.contents.items b.kind) ≡ times n (all_names (state_of now)) + times n []
  begun_come n some =
      let count = sound.counts n some in
      let same : count_of n now.store ≡ count_of n was.store = ap (count_of n) begun.store in
      let before = all_times n (state_of was) in
      let later = all_times n (state_of now) in
      let core : times n (core_names now.core) ≡ times n (core_names was.core) = ap (λ c. times n (core_names c)) begun.core in
      let display : times n (display_names now.display) ≡ times n (display_names was.display) =
      ap (λ d. times n (display_names d)) begun.display in
      let free : times n (frame_names (option_map running_of was.frame)) ≡ 0 =
      ap (λ f. times n (frame_names (option_map running_of f))) begun.free in
      let runs : times n (frame_names (option_map running_of now.frame))
      ≡ times n (map (λ c. c.stream) frame.contents.items ++ target_names b.kind) =
      ap (λ f. times n (frame_names (option_map running_of f))) begun.frame_is
      ∙ ap (λ k. times n (map (λ c. c.stream) frame.contents.items ++ target_names k)) begun.kind_is in
      let of_frame = times_append n (map (λ c. c.stream) frame.contents.items) (target_names b.kind) in
      let of_held = times_append n (map (λ c. c.stream) frame.contents.items) (drawn_names b.kind) in
      omega (arith, count, same, before, later, core, display, free, runs, of_frame, of_held, own n, drawn_times n b.kind)

  -- the machine once the store is told of the frame
  module _ (v : StoreView) (told : Renames [] (held_names frame.contents.items b.kind) now.store v) (streams : v.streams
      ≡ now.store.streams) where
    pub sound_told : IsSound (record now { store = v })
    sound_told = sound_renamed now (sound_begun was now b frame contents begun sound.holds) begun_counted v []
        (held_names frame.contents.items b.kind) told begun_come

    pub told_seen : state_of (record now { store = v }) ≡ state_of now
    told_seen = names_seen now v streams told.rest

-- a frame has ended, and the store is not told of it yet
module _ (was now : Inside) (job : Job) (f : Frame) (sound : IsSound was) (runs : was.frame ≡ Some f) (kind_is : f.kind ≡ job.kind)
    (fits : KindFits (map sizes_of was.ports.items) f.mode (brought_home job.contents was.store.streams) f.size f.format job.kind)
    (store : now.store ≡ record was.store { streams = delivered job.kind job.image (brought_home job.contents was.store.streams) })
    (core-is : now.core ≡ was.core) (display-is : now.display ≡ was.display) (free : now.frame ≡ None) where
  abbrev home : List KeptStream
  home = brought_home job.contents was.store.streams

  pub ended_counted : AreCounted now.store
  ended_counted =
      rw store (back job.kind (counted_mapped (home_among job.contents) was.store (home_keeps job.contents) sound.counted))
    where
      back : (k : JobKind) → AreCounted (record was.store { streams = home })
          → AreCounted (record was.store { streams = delivered k job.image home })
      back (kind.Context handle target) counted =
          counted_mapped (changed_at target (posted job.image)) (record was.store { streams = home })
          (changed_keeps target (posted job.image) (shape_kept (posted job.image) (posted_keeps job.image))) counted
      back (kind.Port port) counted = counted

  own_after : (n : ℕ) → times n (flat_map own_names now.store.streams) + times n (target_names job.kind)
      ≡ times n (flat_map own_names was.store.streams)
  own_after n =
      ap (λ (v : StoreView). times n (flat_map own_names v.streams) + times n (target_names job.kind)) store
      ∙ own_delivered job.kind job.image was.store.numbered n home
      (numbered_mapped (home_among job.contents) (home_keeps job.contents) 0 was.store.numbered was.store.streams sound.holds.numbered)
      (targets_out job.kind (map sizes_of was.ports.items) f.mode home f.size f.format fits)
      ∙ ap (times n) (own_home job.contents was.store.streams)

  -- so many names go
  pub ended_come : (n : ℕ) → 0 < n
      → count_of n now.store + times n [] ≡ times n (all_names (state_of now)) + times n (held_names f.contents.items job.kind)
  ended_come n some =
      let count = sound.counts n some in
      let same : count_of n now.store ≡ count_of n was.store = ap (count_of n) store in
      let before = all_times n (state_of was) in
      let later = all_times n (state_of now) in
      let core : times n (core_names now.core) ≡ times n (core_names was.core) = ap (λ c. times n (core_names c)) core-is in
      let display : times n (display_names now.display) ≡ times n (display_names was.display) =
      ap (λ d. times n (display_names d)) display-is in
      let none : times n (frame_names (option_map running_of now.frame)) ≡ 0 =
      ap (λ o. times n (frame_names (option_map running_of o))) free in
      let ran : times n (frame_names (option_map running_of was.frame))
      ≡ times n (map (λ c. c.stream) f.contents.items ++ target_names job.kind) =
      ap (λ o. times n (frame_names (option_map running_of o))) runs
      ∙ ap (λ k. times n (map (λ c. c.stream) f.contents.items ++ target_names k)) kind_is in
      let of_frame = times_append n (map (λ c. c.stream) f.contents.items) (target_names job.kind) in
      let of_held = times_append n (map (λ c. c.stream) f.contents.items) (drawn_names job.kind) in
      omega (arith, count, same, before, later, core, display, none, ran, of_frame, of_held, own_after n, drawn_times n job.kind)

  pub ended_fit : NamesFit (held_names f.contents.items job.kind) now.store
  ended_fit = ending_fit now (held_names f.contents.items job.kind) ended_counted ended_come

  -- the machine once the store is told that it ended
  module _ (holds : Holds now) (v : StoreView) (told : Renames (held_names f.contents.items job.kind) [] now.store v) where
    pub sound_untold : IsSound (record now { store = v })
    sound_untold = sound_renamed now holds ended_counted v (held_names f.contents.items job.kind) [] told ended_come

    pub untold_seen : state_of (record now { store = v }) ≡ settle (state_of now)
    untold_seen = settles now holds ended_counted v (held_names f.contents.items job.kind) [] told ended_come
