-- The names that streams have of their own changed, and then the store is told of it: what the machine is.
use Rattle.wf_machine.proofs.Common.{◌≡◌, ℕ, ◌+◌, ◌<◌, true, false, ◌==◌, List, [], ◌∷◌, map, Some, None, refl, sym, ap, subst, ◌∙◌, arith}
use Rattle.wf_machine.proofs.Common.{flat_map, nat_tests, IfSome, Buffers, KeptStream, StoreView, change_stream, stream_at, stream_of}
use Rattle.wf_machine.proofs.Common.{unnamed}
use Rattle.wf_machine.proofs.Common.{Canvas, is_out_at_client, State, zero, suc, settle, not, acquired, ◌++◌, ◌||◌, cond, is_some, nat_lt}
use Rattle.wf_machine.proofs.Common.{with_live_stream, all_names, own_names, FrameFits, Holds, Inside, IsSound}
use Rattle.wf_machine.proofs.Common.{sizes_of, state_of}
use Rattle.std.specs.Option.{IsSome}
use Rattle.wf_stream.specs.Counts.{counted, times, without_count}
use Rattle.wf_stream.specs.Names.{AreCounted, HasRoom, IsReleasable, NamesFit, Recounts, but_names, has_count, pushed_count}
use Rattle.wf_stream.specs.Names.{released_counts, released_other, times_one}
use Rattle.wf_stream.specs.Renames.{Renames}
use Rattle.wf_stream.specs.Streams.{count_of, hand_over, released}
use Rattle.wf_model.specs.Counting.{all_times, counts_if, own_count, own_pushed}
use Rattle.wf_machine.proofs.BufferCalls.{out_apart}
use Rattle.wf_machine.proofs.ImageOfRunningFrame.{frame_acquired, frame_apart}
use Rattle.wf_machine.proofs.DropsKeepInvariant.{none_at_zero}
use Rattle.wf_machine.proofs.FrameNames.{may_end}
use Rattle.wf_machine.proofs.StreamsMapped.{changed_at, changed_keeps, found_mapped, unnamed_keeps}
use Rattle.wf_machine.proofs.OwnNames.{counted_mapped, handle_less, out_at, out_less, out_more}
use Rattle.wf_machine.proofs.Counts.{may_end_names, settles, sound_renamed}
use Rattle.wf_machine.proofs.StreamCallsKeepInvariant.{sound_kept, sound_unnamed, with_buffers}
use Rattle.wf_machine.proofs.StreamsStillFit.{KeepsRead, acquired_keeps, shape_kept}

-- names alone changed, and no stream went
pub names_seen : (m : Inside) (v : StoreView) → v.streams ≡ m.store.streams → but_names v ≡ but_names m.store
    → state_of (record m { store = v }) ≡ state_of m
names_seen m v streams rest =
    let state : ℕ → ℕ → List KeptStream → State = λ made numbered ss.
    record (state_of m) { made = made; numbered = numbered; streams = ss } in
    ap (λ n. state n v.numbered v.streams) (ap (λ (w : StoreView). w.made) rest)
    ∙ ap (λ n. state m.store.made n v.streams) (ap (λ (w : StoreView). w.numbered) rest)
    ∙ ap (λ ss. state m.store.made m.store.numbered ss) streams

-- as many names come as the streams have more of their own
pub own_come : (m : Inside) → IsSound m → (ss : List KeptStream) (ended began : List ℕ)
    → ((n : ℕ) → times n (flat_map own_names ss) + times n ended ≡ times n (flat_map own_names m.store.streams) + times n began)
    → (n : ℕ) → 0 < n
    → count_of n m.store + times n began
    ≡ times n (all_names (state_of (record m { store = record m.store { streams = ss } }))) + times n ended
own_come m sound ss ended began own n some =
    let count = sound.counts n some in
    let before = all_times n (state_of m) in
    let after = all_times n (state_of (record m { store = record m.store { streams = ss } })) in
    let more = own n in
    omega (arith, count, before, after, more)

-- the buffers of a stream that is kept change
module _ (m : Inside) (sound : IsSound m) (k : ℕ) (s : KeptStream) (at : stream_at k m.store.streams ≡ Some s) (f : Buffers → Buffers)
    (keeps : KeepsRead f) (frame : IfSome m.frame (FrameFits (map sizes_of m.ports.items) (change_stream k f m.store.streams))) where
  pub still_holds : Holds (with_buffers m k f)
  still_holds = sound_kept m k f keeps frame sound.holds

  pub still_counts : AreCounted (with_buffers m k f).store
  still_counts = counted_mapped (changed_at k f) m.store (changed_keeps k f (shape_kept f keeps)) sound.counted

  pub still_kept : IsSome (stream_at k (with_buffers m k f).store.streams)
  still_kept = rw (found_mapped (changed_at k f) (changed_keeps k f (shape_kept f keeps)) k m.store.streams, at) refl

  -- its write buffer goes out
  pub goes_out : s.buffers.out ≡ false → (f s.buffers).out ≡ true → (n : ℕ) → 0 < n
      → count_of n m.store + times n (k ∷ []) ≡ times n (all_names (state_of (with_buffers m k f))) + times n []
  goes_out home out =
      own_come m sound (change_stream k f m.store.streams) [] (k ∷ [])
      (λ n. (let more = out_more m.store.numbered k f m.store.streams s sound.holds.numbered at n home out in omega (arith, more)))

  -- or comes home
  pub comes_home : s.buffers.out ≡ true → (f s.buffers).out ≡ false → (n : ℕ) → 0 < n
      → count_of n m.store + times n [] ≡ times n (all_names (state_of (with_buffers m k f))) + times n (k ∷ [])
  comes_home out home =
      own_come m sound (change_stream k f m.store.streams) (k ∷ []) []
      (λ n. (let less = out_less m.store.numbered k f m.store.streams s sound.holds.numbered at n out home in omega (arith, less)))

-- names that are to end are counted
pub ending_fit : (m : Inside) (ended : List ℕ) → AreCounted m.store
    → ((n : ℕ) → 0 < n → count_of n m.store + times n [] ≡ times n (all_names (state_of m)) + times n ended) → NamesFit ended m.store
ending_fit m ended counted come = may_end_names m ended counted (λ n some. (let all = come n some in omega (arith, all)))

-- the write buffer of a stream goes out, and then the store is told of its name
module _ (m : Inside) (sound : IsSound m) (k : ℕ) (s : KeptStream) (at : stream_at k m.store.streams ≡ Some s)
    (home : s.buffers.out ≡ false) (u : StoreView) (is : u ≡ (with_buffers m k acquired).store) where
  frame_left : IfSome m.frame (FrameFits (map sizes_of m.ports.items) (change_stream k acquired m.store.streams))
  frame_left = frame_acquired k (map sizes_of m.ports.items) m.store.streams m.frame (shape_kept acquired acquired_keeps) sound.holds.frame

  pub acquired_counted : AreCounted u
  acquired_counted = subst AreCounted (sym is) (still_counts m sound k s at acquired acquired_keeps frame_left)

  pub acquired_kept : IsSome (stream_at k u.streams)
  acquired_kept = subst (λ (v : StoreView). IsSome (stream_at k v.streams)) (sym is)
      (still_kept m sound k s at acquired acquired_keeps frame_left)

  pub acquired_room : HasRoom m.store → count_of k u < 4294967295
  acquired_room room = (let same : count_of k u ≡ count_of k m.store = ap (count_of k) is in omega (arith, same, room k))

  module _ (v : StoreView) (names : Recounts [] (k ∷ []) u v) (none : count_of 0 v ≡ count_of 0 u) (streams : v.streams ≡ u.streams)
      (rest : but_names v ≡ but_names u) where
    begins : Renames [] (k ∷ []) (with_buffers m k acquired).store v
    begins = subst (λ w. Renames [] (k ∷ []) w v) is (record { names = names; none = none; rest = rest })

    pub sound_acquired : IsSound (record m { store = v })
    sound_acquired =
        sound_renamed (with_buffers m k acquired) (still_holds m sound k s at acquired acquired_keeps frame_left)
        (still_counts m sound k s at acquired acquired_keeps frame_left) v [] (k ∷ []) begins
        (goes_out m sound k s at acquired acquired_keeps frame_left home refl)

    pub acquired_seen : state_of (record m { store = v }) ≡ state_of (with_buffers m k acquired)
    acquired_seen = names_seen (with_buffers m k acquired) v (streams ∙ ap (λ (w : StoreView). w.streams) is) begins.rest

-- a write buffer that is out at a client comes home, by a change of its stream's buffers, and then the store is told
module _ (m : Inside) (sound : IsSound m) (canvas : Canvas) (away : is_out_at_client canvas (state_of m) ≡ true) (f : Buffers → Buffers)
    (keeps : KeepsRead f) (home : (b : Buffers) → (f b).out ≡ false) (u : StoreView) (is : u ≡ (with_buffers m canvas.stream f).store) where
  abbrev k : ℕ
  k = canvas.stream

  out : (s : KeptStream) × (stream_at k m.store.streams ≡ Some s) × (s.buffers.out ≡ true)
  out = out_at canvas (state_of m) away

  frame_beside : IfSome m.frame (FrameFits (map sizes_of m.ports.items) (change_stream k f m.store.streams))
  frame_beside =
      frame_apart k f (map sizes_of m.ports.items) m.store.streams m.frame (shape_kept f keeps) (out_apart canvas (state_of m) away)
      sound.holds.frame

  left_holds : Holds (with_buffers m k f)
  left_holds = still_holds m sound k out.0 out.1 f keeps frame_beside

  left_counted : AreCounted (with_buffers m k f).store
  left_counted = still_counts m sound k out.0 out.1 f keeps frame_beside

  come : (n : ℕ) → 0 < n → count_of n m.store + times n [] ≡ times n (all_names (state_of (with_buffers m k f))) + times n (k ∷ [])
  come = comes_home m sound k out.0 out.1 f keeps frame_beside out.2 (home out.0.buffers)

  pub back_counted : AreCounted u
  back_counted = subst AreCounted (sym is) left_counted

  pub back_named : 0 < k → IsReleasable k u
  back_named some =
      subst (λ v. IsReleasable k v) (sym is)
      (may_end k (with_buffers m k f).store (ending_fit (with_buffers m k f) (k ∷ []) left_counted come) some)

  module _ (v : StoreView) (names : Recounts (k ∷ []) [] u v) (none : count_of 0 v ≡ count_of 0 u) (rest : but_names v ≡ but_names u) where
    ends : Renames (k ∷ []) [] (with_buffers m k f).store v
    ends = subst (λ w. Renames (k ∷ []) [] w v) is (record { names = names; none = none; rest = rest })

    pub sound_back : IsSound (record m { store = v })
    sound_back = sound_renamed (with_buffers m k f) left_holds left_counted v (k ∷ []) [] ends come

    pub back_seen : state_of (record m { store = v }) ≡ settle (state_of (with_buffers m k f))
    back_seen = settles (with_buffers m k f) left_holds left_counted v (k ∷ []) [] ends come

-- the streams are numbered from 1
pub numbers_from_one : (m : Inside) → IsSound m → (k : ℕ) (s : KeptStream) → stream_at k m.store.streams ≡ Some s → 0 < k
numbers_from_one m sound zero s at =
    absurd (let none : None ≡ Some s = sym (none_at_zero 0 m.store.numbered m.store.streams sound.holds.numbered) ∙ at in cc)
numbers_from_one m sound (suc k) s at = omega arith

-- the handle of a stream dies
module _ (m : Inside) (sound : IsSound m) (h k : ℕ) (s : KeptStream) (found : stream_of h m.store.streams ≡ Some s)
    (at : stream_at k m.store.streams ≡ Some s) (alone : map (unnamed h) m.store.streams ≡ hand_over k 0 m.store.streams) where
  abbrev pub nameless : Inside
  nameless = record m { store = record m.store { streams = map (unnamed h) m.store.streams } }

  pub nameless_holds : Holds nameless
  nameless_holds = sound_unnamed m h m.store.counts sound.holds

  pub nameless_counted : AreCounted nameless.store
  nameless_counted = counted_mapped (unnamed h) m.store (unnamed_keeps h) sound.counted

  nameless_kept : IsSome (stream_at k nameless.store.streams)
  nameless_kept = rw (found_mapped (unnamed h) (unnamed_keeps h) k m.store.streams, at) refl

  handle_ends : 0 < k → Renames (k ∷ []) [] nameless.store (released k nameless.store)
  handle_ends some =
      let other : (k == 0) ≡ false = grind (arith, nat_tests, some) in
      record {
        names = released_counts k nameless.store (has_count k nameless.store nameless_counted nameless_kept);
        none = released_other k 0 nameless.store other;
        rest = refl;
      }

  handle_comes : (n : ℕ) → 0 < n → count_of n m.store + times n [] ≡ times n (all_names (state_of nameless)) + times n (k ∷ [])
  handle_comes =
      own_come m sound (map (unnamed h) m.store.streams) (k ∷ []) []
      (λ n. (let less = handle_less m.store.numbered k h n m.store.streams s sound.holds.numbered at found in
      let same : times n (flat_map own_names (map (unnamed h) m.store.streams))
      ≡ times n (flat_map own_names (hand_over k 0 m.store.streams)) =
      ap (λ ss. times n (flat_map own_names ss)) alone in
      omega (arith, less, same)))

  module _ (v : StoreView) (is : v ≡ released k nameless.store) (some : 0 < k) where
    pub sound_nameless : IsSound (record m { store = v })
    sound_nameless =
        subst (λ w. IsSound (record m { store = w })) (sym is)
        (sound_renamed nameless nameless_holds nameless_counted (released k nameless.store) (k ∷ []) [] (handle_ends some) handle_comes)

    pub nameless_seen : state_of (record m { store = v }) ≡ settle (state_of nameless)
    nameless_seen =
        ap (λ w. state_of (record m { store = w })) is
        ∙ settles nameless nameless_holds nameless_counted (released k nameless.store) (k ∷ []) [] (handle_ends some) handle_comes

-- a stream that is made has one name, its handle
pub sound_pushed : (m : Inside) → IsSound m → (b : Buffers) → b.out ≡ false
    → without_count (m.store.numbered + 1) m.store.counts ≡ m.store.counts
    → Holds (record m { store = with_live_stream b m.store })
    → IsSound (record m { store = with_live_stream b m.store })
sound_pushed m sound b home none holds =
    let k : ℕ = m.store.numbered + 1 in
    let new : KeptStream = record { number = k; handle = m.store.made + 1; buffers = b } in
    record {
      holds = holds;
      counted = λ n. (
          let count = pushed_count n k m.store.counts none in
          pushed_some n m.store.streams new ∙ ap (λ b. b || (k == n)) (sound.counted n) ∙ either n k count);
      counts = λ n some. (
          let count = pushed_count n k m.store.counts none in
          let was = sound.counts n some in
          let before = all_times n (state_of m) in
          let after = all_times n (state_of (record m { store = with_live_stream b m.store })) in
          let own = own_pushed n m.store.streams new in
          let one = times_one n k in
          let live : (m.store.made + 1 == 0) ≡ false = grind (arith, nat_tests) in
          let named : counts_if (k == n) (own_count new) ≡ cond (k == n) 1 0 =
          ap (λ x. counts_if (k == n) (counts_if (not x) 1 + counts_if b.out 1)) live
          ∙ ap (λ x. counts_if (k == n) (1 + counts_if x 1)) home in
          omega (arith, count, was, before, after, own, one, named));
    }
  where
    pushed_some : (n : ℕ) (ss : List KeptStream) (s : KeptStream)
        → is_some (stream_at n (ss ++ s ∷ [])) ≡ (is_some (stream_at n ss) || (s.number == n))
    pushed_some n [] s = elim (s.number == n) as (λ b. is_some (cond b (Some s) None) ≡ b) [ true ↦ refl | false ↦ refl ]
    pushed_some n (t ∷ ss) s = elim (t.number == n) as (λ b. is_some (cond b (Some t) (stream_at n (ss ++ s ∷ [])))
        ≡ (is_some (cond b (Some t) (stream_at n ss)) || (s.number == n))) [ true ↦ refl | false ↦ pushed_some n ss s ]

    either : (n k : ℕ) → counted n (m.store.counts ++ (k, 1) ∷ []) ≡ counted n m.store.counts + times n (k ∷ [])
        → (nat_lt 0 (counted n m.store.counts) || (k == n)) ≡ nat_lt 0 (counted n (m.store.counts ++ (k, 1) ∷ []))
    either n k count = (let one = times_one n k in grind (arith, nat_tests, count, one))
