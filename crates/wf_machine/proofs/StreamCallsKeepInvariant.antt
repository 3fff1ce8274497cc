-- What holds of the machine holds after each call on streams.
use Rattle.wf_machine.proofs.Common.{◌≡◌, ℕ, ◌+◌, ◌≤◌, Bool, true, false, ◌||◌, ◌==◌, List, [], ◌∷◌, ◌++◌, length, map, cond}
use Rattle.wf_machine.proofs.Common.{Option, Some, None}
use Rattle.wf_machine.proofs.Common.{refl, sym, ap, subst, ◌∙◌, arith, nat_le, nat_lt, ℤ, pos, negsuc, option_map, IfSome, and_parts}
use Rattle.wf_machine.proofs.Common.{count_of, Size, Format, has_sides, is_side, Buffers, buffer_bytes, KeptStream}
use Rattle.wf_machine.proofs.Common.{StoreView, buffers_at, change_stream, held, stream_at, unnamed, with_live_stream, JobKind, Reply}
use Rattle.wf_machine.proofs.Common.{Frame}
use Rattle.wf_machine.proofs.Common.{State, bare, done, refusal, refused, new_buffers, size_from, stream_new, stream_step, Inside}
use Rattle.wf_machine.proofs.Common.{FrameFits, IsOfTarget, KindFits, contents_of, Holds, state_of, running_of, sizes_of}
use Rattle.std.specs.Prelude.{◌&&◌}
use Rattle.std.proofs.lemmas.Bool.{and_from, ltb-false}
use Rattle.std.proofs.lemmas.List.Sums.{sum_by_push}
use Rattle.wf_life.specs.Handles.{is_full}
use Rattle.wf_stream.specs.Buffers.{never}
use Rattle.wf_stream.specs.Counts.{Counts}
use Rattle.wf_stream.specs.Streams.{has_no_room}
use Rattle.wf_calls.specs.declared.code.Code.TheVariants as code
use Rattle.wf_calls.specs.declared.call.JobKind.TheVariants as kind
use Rattle.wf_model.specs.Streams.{is_buffer_count, is_wide_side, may_make, stream_made}
use Rattle.wf_machine.proofs.ImageOfRunningFrame.{frame_unnamed}
use Rattle.wf_machine.specs.Fitting.{AllFit}
use Rattle.wf_machine.proofs.StreamsMapped.{KeepsStream, bytes_mapped, changed_at, changed_keeps, numbered_mapped, seen_mapped}
use Rattle.wf_machine.proofs.StreamsMapped.{unnamed_keeps}
use Rattle.wf_machine.proofs.StreamsStillFit.{KeepsRead, all_kept, all_push, all_unnamed, known_more, new_fits, numbered_push, shape_kept}
use Rattle.wf_model.specs.Named.{SeenSame}
use Rattle.wf_objects.specs.Named.{still_fits}
use Rattle.wf_display.specs.Named.{still_shown, zero_unseen}
use Rattle.wf_stream.specs.declared.TheConstants.{MOST_BYTES, MOST_STREAMS}

-- the machine with a change of each of its streams, whatever its store counts then
abbrev pub with_mapped : (KeptStream → KeptStream) → Counts → Inside → Inside
with_mapped g counts m = record m { store = record m.store { streams = map g m.store.streams; counts = counts } }

-- where each stream keeps its shape, only what the running frame has to do with them is left to be said
holds_mapped : (g : KeptStream → KeptStream) (counts : Counts) (m : Inside) → KeepsStream g
    → AllFit (contents_of (option_map running_of m.frame)) (map g m.store.streams)
    → IfSome m.frame (FrameFits (map sizes_of m.ports.items) (map g m.store.streams)) → Holds m → Holds (with_mapped g counts m)
holds_mapped g counts m keeps streams frame holds =
    let seen : (n : ℕ) → SeenSame (buffers_at n m.store.streams) (buffers_at n (map g m.store.streams)) =
    λ n. seen_mapped g keeps n m.store.streams in
    let store : StoreView = (with_mapped g counts m).store in
    record {
      fits = still_fits m.core m.store store refl (omega arith) (λ n within. seen n) holds.fits;
      shows = still_shown m.display m.store store refl (omega arith)
          (zero_unseen 0 m.store.numbered m.store.streams (map g m.store.streams) holds.numbered) (λ n within. seen n) holds.shows;
      numbered = numbered_mapped g keeps 0 m.store.numbered m.store.streams holds.numbered;
      few = holds.few;
      modes = holds.modes;
      ports = holds.ports;
      small = omega (arith, holds.small, bytes_mapped g keeps m.store.streams);
      streams = streams;
      frame = frame;
      once = holds.once;
      known = holds.known;
    }

-- the machine with other buffers of a stream
abbrev pub with_buffers : Inside → ℕ → (Buffers → Buffers) → Inside
with_buffers m n f = record m { store = record m.store { streams = change_stream n f m.store.streams } }

pub sound_kept : (m : Inside) (n : ℕ) (f : Buffers → Buffers) → KeepsRead f
    → IfSome m.frame (FrameFits (map sizes_of m.ports.items) (change_stream n f m.store.streams)) → Holds m
    → Holds (with_buffers m n f)
sound_kept m n f keeps frame holds =
    holds_mapped (changed_at n f) m.store.counts m (changed_keeps n f (shape_kept f keeps))
    (all_kept f n (contents_of (option_map running_of m.frame)) m.store.streams keeps holds.streams) frame holds

-- the machine without a stream's handle, whatever its store counts then
abbrev pub without_handle : Inside → ℕ → Counts → Inside
without_handle m handle counts = with_mapped (unnamed handle) counts m

pub sound_unnamed : (m : Inside) (handle : ℕ) (counts : Counts) → Holds m → Holds (without_handle m handle counts)
sound_unnamed m handle counts holds =
    holds_mapped (unnamed handle) counts m (unnamed_keeps handle)
    (all_unnamed handle (contents_of (option_map running_of m.frame)) m.store.streams holds.streams)
    (frame_unnamed handle (map sizes_of m.ports.items) m.store.streams m.frame holds.frame) holds

room : (new : Buffers) (streams : List KeptStream) → has_no_room new streams ≡ false → (held streams).bytes + buffer_bytes new ≤ MOST_BYTES
room new streams free =
    elim (nat_le MOST_STREAMS (length streams)) as (λ b. (b || nat_lt MOST_BYTES ((held streams).bytes + buffer_bytes new)) ≡ false
    → (held streams).bytes + buffer_bytes new ≤ MOST_BYTES) [
      | true ↦ λ no. absurd cc
      | false ↦ λ small. ltb-false MOST_BYTES ((held streams).bytes + buffer_bytes new) small
    ] free

-- a stream that is found is found still beside one more
found_pushed : (n : ℕ) (ss : List KeptStream) (t : KeptStream) → SeenSame (buffers_at n ss) (buffers_at n (ss ++ t ∷ []))
found_pushed n [] t b found = absurd cc
found_pushed n (s ∷ ss) t b found =
    elim (s.number == n) as (λ x. option_map (λ u. u.buffers) (cond x (Some s) (stream_at n ss)) ≡ Some b
    → (c : Buffers) × (option_map (λ u. u.buffers) (cond x (Some s) (stream_at n (ss ++ t ∷ []))) ≡ Some c)
    × (c.size ≡ b.size) × (c.format ≡ b.format)) [
      | true ↦ λ is. (b, is, refl, refl)
      | false ↦ λ is. found_pushed n ss t b is
    ] found

frame_pushed : (modes : List (List Size)) (ss : List KeptStream) (t : KeptStream) (o : Option Frame) → IfSome o (FrameFits modes ss)
    → IfSome o (FrameFits modes (ss ++ t ∷ []))
frame_pushed modes ss t None fits = tt
frame_pushed modes ss t (Some f) fits = of_kind f.kind fits
  where
    of_target : (target : ℕ) (us : List KeptStream) → IsOfTarget (buffers_at target us) f.size f.format
        → IsOfTarget (buffers_at target (us ++ t ∷ [])) f.size f.format
    of_target target [] is = absurd is
    of_target target (s ∷ us) is =
        elim (s.number == target) as (λ x. IsOfTarget (option_map (λ u. u.buffers) (cond x (Some s) (stream_at target us)))
        f.size f.format
        → IsOfTarget (option_map (λ u. u.buffers) (cond x (Some s) (stream_at target (us ++ t ∷ [])))) f.size f.format) [
          | true ↦ λ at. at
          | false ↦ λ at. of_target target us at
        ] is

    of_kind : (k : JobKind) → KindFits modes f.mode ss f.size f.format k → KindFits modes f.mode (ss ++ t ∷ []) f.size f.format k
    of_kind (kind.Context handle target) is = of_target target ss is
    of_kind (kind.Port port) is = is

-- the machine with one more stream, which no frame read
pub sound_made : (m : Inside) (b : Buffers) → has_sides b.size ≡ true → b.read ≡ never → has_no_room b m.store.streams ≡ false
    → Holds m → Holds (record m { store = with_live_stream b m.store })
sound_made m b sides unread free sound =
    let new : KeptStream = record { number = m.store.numbered + 1; handle = m.store.made + 1; buffers = b } in
    let contents = contents_of (option_map running_of m.frame) in
    record {
      fits = still_fits m.core m.store (with_live_stream b m.store) refl (omega arith)
          (λ k within. found_pushed k m.store.streams new) sound.fits;
      shows = still_shown m.display m.store (with_live_stream b m.store) refl (omega arith)
          (zero_unseen 0 m.store.numbered m.store.streams (m.store.streams ++ new ∷ []) sound.numbered)
          (λ k within. found_pushed k m.store.streams new) sound.shows;
      numbered = numbered_push 0 m.store.numbered m.store.streams new sound.numbered refl;
      few = sound.few;
      modes = sound.modes;
      ports = sound.ports;
      small = omega (
        arith,
        room b m.store.streams free,
        sum_by_push (λ s. buffer_bytes s.buffers) m.store.streams new,
      );
      streams = all_push contents m.store.streams new sound.streams (new_fits contents m.store.numbered new sound.known refl sides unread);
      frame = frame_pushed (map sizes_of m.ports.items) m.store.streams new m.frame sound.frame;
      once = sound.once;
      known = known_more m.store.numbered contents sound.known;
    }

-- a call that makes a stream

module _ (w h b : ℤ) (format : Format) where
  -- no frame read the stream that it makes, and no write buffer is out
  pub made_unread : (queue : Bool) → (new_buffers queue w h format b).read ≡ never
  made_unread true = refl
  made_unread false = refl

  pub made_home : (queue : Bool) → (new_buffers queue w h format b).out ≡ false
  made_home true = refl
  made_home false = refl

  made_size : (queue : Bool) → (new_buffers queue w h format b).size ≡ size_from w h
  made_size true = refl
  made_size false = refl

  -- its sides are those of the call
  pub made_sides : (queue : Bool) → may_make queue w h b ≡ true → has_sides (new_buffers queue w h format b).size ≡ true
  made_sides queue is =
      let both = (and_parts (is_wide_side w && is_wide_side h) (is_buffer_count queue b) is).0 in
      let each = and_parts (is_wide_side w) (is_wide_side h) both in
      ap has_sides (made_size queue) ∙ and_from (is_side (count_of w)) (is_side (count_of h)) (side w each.0) (side h each.1)
    where
      side : (z : ℤ) → is_wide_side z ≡ true → is_side (count_of z) ≡ true
      side (pos n) is = is
      side (negsuc n) is = absurd cc

module _ (queue : Bool) (w h b : ℤ) (format : Format) (s : State) (is : may_make queue w h b ≡ true) where
  pub limited : (has_no_room (new_buffers queue w h format b) s.streams || is_full s.made) ≡ true
      → stream_step s (stream_new queue w h format b false s) ≡ (s, bare (refused (refusal code.Limit)))
  limited full = rw (is, full) refl

  pub unmade : (has_no_room (new_buffers queue w h format b) s.streams || is_full s.made) ≡ false
      → stream_step s (stream_new queue w h format b true s) ≡ (s, bare (refused (refusal code.OutOfMemory)))
  unmade free = rw (is, free) refl

  pub made : has_no_room (new_buffers queue w h format b) s.streams ≡ false → is_full s.made ≡ false
      → stream_step s (stream_new queue w h format b false s)
      ≡ ((stream_made (new_buffers queue w h format b) s).0, bare (done (s.made + 1)))
  made free few = rw (is, free, few) refl

-- a call of the machine as it is kept is one of the machine as it is seen

module _ (m : Inside) (s : State) (seen : state_of m ≡ s) (step : State → Reply → State × Reply) where
  -- nothing was changed in the store
  pub stays : (left : StoreView) (r was : Reply) → left ≡ m.store → r ≡ was → step (state_of m) was ≡ (state_of m, was)
      → step s r ≡ (state_of (record m { store = left }), r)
  stays left r was same answered is =
      subst (λ t. step t r ≡ (state_of (record m { store = left }), r)) seen
      (ap (λ x. step (state_of m) x) answered ∙ is
      ∙ ap (λ v. (state_of (record m { store = v }), was)) (sym same)
      ∙ ap (λ x. (state_of (record m { store = left }), x)) (sym answered))

  -- the machine was left so
  pub leaves_so : (left now : State) (r was : Reply) → left ≡ now → r ≡ was → step (state_of m) was ≡ (now, was) → step s r ≡ (left, r)
  leaves_so left now r was same answered is =
      subst (λ t. step t r ≡ (left, r)) seen
      (ap (λ x. step (state_of m) x) answered ∙ is ∙ ap (λ t. (t, was)) (sym same) ∙ ap (λ x. (left, x)) (sym answered))

  -- the store was left so
  pub leaves : (left now : StoreView) (r was : Reply) → left ≡ now → r ≡ was
      → step (state_of m) was ≡ (state_of (record m { store = now }), was) → step s r ≡ (state_of (record m { store = left }), r)
  leaves left now r was same answered is =
      leaves_so (state_of (record m { store = left })) (state_of (record m { store = now })) r was
      (ap (λ v. state_of (record m { store = v })) same) answered is
