-- What the counts of the names of a machine tell of what it keeps.
use Rattle.wf_machine.proofs.Common.{◌≡◌, ℕ, zero, suc, ◌+◌, ◌<◌, ◌≤◌, true, false, cond, ◌==◌, List, [], ◌∷◌, map, length}
use Rattle.wf_machine.proofs.Common.{Option, Some, None, refl, sym, ap, subst, ◌∙◌, arith, flat_map, is_some, nat_lt, option_map, nat_tests}
use Rattle.wf_machine.proofs.Common.{KeptStream, StoreView, stream_at, JobKind, Content, Running, State, all_names, core_names}
use Rattle.wf_machine.proofs.Common.{display_names, frame_names, kept, own_names, settle, target_names, Inside, Holds, IsSound, IsSettled}
use Rattle.wf_machine.proofs.Common.{AreOnce, contents_of, content_at, state_of, running_of}
use Rattle.wf_calls.specs.declared.call.JobKind.TheVariants as kind
use Rattle.wf_stream.specs.Counts.{times}
use Rattle.wf_stream.specs.Names.{AreCounted, HasRoom, NamesFit, all_have_counts, left_have_counts}
use Rattle.wf_stream.specs.Names.{still_counted, times_append, times_cons, times_few}
use Rattle.wf_stream.specs.Renames.{Renames}
use Rattle.wf_stream.specs.Streams.{count_of}
use Rattle.wf_model.specs.Counting.{CountsNames, all_times, handle_own, kept_is, own_few, settled_counts}
use Rattle.wf_machine.proofs.DropsKeepInvariant.{none_at_zero, sound_settled}
use Rattle.wf_model.specs.declared.TheConstants.{MOST_CORE_NAMES, MOST_DISPLAY_NAMES}

-- the names of a frame

-- a stream is among the contents once at most
once_at_most : (n : ℕ) (cs : List Content) → AreOnce cs → times n (map (λ c. c.stream) cs) ≤ 1
once_at_most n [] once = omega arith
once_at_most n (c ∷ cs) once =
    let later = once_at_most n cs once.1 in
    let whole = times_cons n c.stream (map (λ x. x.stream) cs) in
    elim (c.stream == n) as (λ b. (c.stream == n) ≡ b → times n (map (λ x. x.stream) (c ∷ cs)) ≤ 1) [
      | true ↦ λ is. (
          let none = absent cs (subst (λ k. content_at k cs ≡ None) (number is) once.0) in
          let here : cond (c.stream == n) 1 0 ≤ 1 = (rw is (omega arith)) in
          omega (arith, whole, none, here))
      | false ↦ λ is. (
          let here : cond (c.stream == n) 1 0 ≤ 0 = (rw is (omega arith)) in
          omega (arith, whole, later, here))
    ] refl
  where
    number : (c.stream == n) ≡ true → c.stream ≡ n
    number is = grind (arith, nat_tests, is)

    absent : (ds : List Content) → content_at n ds ≡ None → times n (map (λ x. x.stream) ds) ≡ 0
    absent [] none = refl
    absent (d ∷ ds) none =
        let more = times_cons n d.stream (map (λ x. x.stream) ds) in
        elim (d.stream == n) as (λ b. (d.stream == n) ≡ b → cond b (Some d) (content_at n ds) ≡ None
        → times n (map (λ x. x.stream) (d ∷ ds)) ≡ 0) [
          | true ↦ λ is no. cc
          | false ↦ λ is no. (
              let rest = absent ds no in
              let here : cond (d.stream == n) 1 0 ≤ 0 = (rw is (omega arith)) in
              omega (arith, more, rest, here))
        ] refl none

frame_few : (n : ℕ) (o : Option Running) → AreOnce (contents_of o) → times n (frame_names o) ≤ 2
frame_few n None once = omega arith
frame_few n (Some f) once =
    let both = times_append n (map (λ c. c.stream) f.contents) (target_names f.kind) in
    let one = once_at_most n f.contents once in
    let target = few f.kind in
    omega (arith, both, one, target)
  where
    few : (k : JobKind) → times n (target_names k) ≤ 1
    few (kind.Context handle target) = times_few n (target ∷ [])
    few (kind.Port port) = omega arith

-- a sound machine
module _ (m : Inside) (sound : IsSound m) where
  -- keeps no stream without a name
  pub sound_settles : IsSettled (state_of m)
  sound_settles = all_have_counts m.store sound.counted
      ∙ kept_is (state_of m) m.store m.store.numbered sound.holds.numbered sound.counts

  -- counts the names of each side
  fits : (ns : List ℕ)
      → ((n : ℕ) → times n ns + times n (flat_map own_names m.store.streams) ≤ times n (all_names (state_of m))) → NamesFit ns m.store
  fits ns among =
      record {
        counted = sound.counted;
        named = λ n some. (
            let all = among n in
            let count = sound.counts n some in
            let handle = handle_own n m.store.streams in
            omega (arith, all, count, handle));
      }

  pub core_fits : NamesFit (core_names m.core) m.store
  core_fits = fits (core_names m.core) (λ n. (let parts = all_times n (state_of m) in omega (arith, parts)))

  pub display_fits : NamesFit (display_names m.display) m.store
  display_fits = fits (display_names m.display) (λ n. (let parts = all_times n (state_of m) in omega (arith, parts)))

  -- and has room for further names, since there are few
  pub room : length (core_names m.core) ≤ MOST_CORE_NAMES → length (display_names m.display) ≤ MOST_DISPLAY_NAMES → HasRoom m.store
  room core display zero =
      let absent : is_some (stream_at 0 m.store.streams) ≡ false =
      rw (none_at_zero 0 m.store.numbered m.store.streams sound.holds.numbered) refl in
      let none : nat_lt 0 (count_of 0 m.store) ≡ false = sym (sound.counted 0) ∙ absent in
      grind (arith, nat_tests, none)
  room core display (suc k) =
      let n : ℕ = suc k in
      let count = sound.counts (suc k) (omega arith) in
      let parts = all_times (suc k) (state_of m) in
      let own = own_few 0 m.store.numbered (suc k) m.store.streams sound.holds.numbered in
      let cores = times_few (suc k) (core_names m.core) in
      let displays = times_few (suc k) (display_names m.display) in
      let frames = frame_few (suc k) (option_map running_of m.frame) sound.holds.once in
      omega (arith, count, parts, own, cores, displays, frames, core, display)

-- so the state that is seen of it keeps none
pub seen_settled : (m : Inside) (h : State) → state_of m ≡ h → IsSound m → IsSettled h
seen_settled m h seen sound = subst IsSettled seen (sound_settles m sound)

-- and the same machine where its store is as it was
pub same_settled : (m : Inside) (store : StoreView) → store ≡ m.store → IsSound m → IsSettled (state_of (record m { store = store }))
same_settled m store same sound = subst (λ v. IsSettled (state_of (record m { store = v }))) (sym same) (sound_settles m sound)

-- a machine of which the streams are changed and not yet their counts, and the store once the names were told to it
module _ (m : Inside) (holds : Holds m) (counted : AreCounted m.store) (v : StoreView) (ended began : List ℕ)
    (renames : Renames ended began m.store v)
    (come : (n : ℕ) → 0 < n → count_of n m.store + times n began ≡ times n (all_names (state_of m)) + times n ended) where
  now : CountsNames v (state_of m)
  now n some =
      let change = renames.names.counts n some in
      let all = come n some in
      omega (arith, change, all)

  streams_are : v.streams ≡ kept (state_of m)
  streams_are = left_have_counts m.store v ended began counted renames.names
      ∙ kept_is (state_of m) v m.store.numbered holds.numbered now

  -- the streams without a name are dropped
  pub settles : state_of (record m { store = v }) ≡ settle (state_of m)
  settles =
      let state : ℕ → ℕ → List KeptStream → State = λ made numbered streams.
      record (state_of m) { made = made; numbered = numbered; streams = streams } in
      ap (λ n. state n v.numbered v.streams) (ap (λ (w : StoreView). w.made) renames.rest)
      ∙ ap (λ n. state m.store.made n v.streams) (ap (λ (w : StoreView). w.numbered) renames.rest)
      ∙ ap (λ ss. state m.store.made m.store.numbered ss) streams_are

  -- and then the machine is sound
  pub sound_renamed : IsSound (record m { store = v })
  sound_renamed =
      record {
        holds = sound_settled m v streams_are (ap (λ (w : StoreView). w.others) renames.rest)
            (ap (λ (w : StoreView). w.made) renames.rest) (ap (λ (w : StoreView). w.numbered) renames.rest) holds;
        counted = still_counted m.store v ended began counted renames.names;
        counts = subst (CountsNames v) (sym settles) (settled_counts (state_of m) v m.store.numbered holds.numbered now);
      }

  pub settles_so : IsSettled (state_of (record m { store = v }))
  settles_so = sound_settles (record m { store = v }) sound_renamed

-- the names that are to end may end
pub may_end_names : (m : Inside) (ended : List ℕ) → AreCounted m.store
    → ((n : ℕ) → 0 < n → count_of n m.store ≡ times n (all_names (state_of m)) + times n ended) → NamesFit ended m.store
may_end_names m ended counted come =
    record {
      counted = counted;
      named = λ n some. (
          let count = come n some in
          let parts = all_times n (state_of m) in
          let handle = handle_own n m.store.streams in
          omega (arith, count, parts, handle));
    }
