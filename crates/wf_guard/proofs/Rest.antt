-- An app's call leaves alone what it does not name.
use Rattle.std.proofs.Common.{◌≡◌, ◌∙◌, ℕ, ◌+◌, Bool, true, false, cond, not, ◌==◌, ◌||◌, List, [], ◌∷◌, ◌++◌, map, filter, Option, Some}
use Rattle.std.proofs.Common.{None}
use Rattle.std.proofs.Common.{Ok, refl, sym, ap, subst, flat_map}
use Rattle.std.proofs.lemmas.Bool.{eqb-true}
use Rattle.std.proofs.lemmas.List.Folds.{list_any-append}
use Rattle.wf_words.specs.Found.{or_true}
use Rattle.wf_words.specs.Keyed.{is_in}
use Rattle.wf_words.specs.Refusals.{◌>>=◌}
use Rattle.wf_image.specs.declared.canvas.Canvas.{Canvas}
use Rattle.wf_life.specs.Handles.{is_full}
use Rattle.wf_stream.specs.Buffers.{Buffers, acquired, discarded, is_blocked, posted}
use Rattle.wf_stream.specs.Streams.{KeptStream, change_stream, has_no_room, stream_at, stream_of, unnamed}
use Rattle.wf_calls.specs.Codes.{is_ok_code}
use Rattle.wf_calls.specs.Replies.{bare, done, gives_back_canvas}
use Rattle.wf_calls.specs.declared.call.Call.{Call}
use Rattle.wf_calls.specs.declared.call.Call.TheVariants as call
use Rattle.wf_calls.specs.declared.code.Code.TheVariants as code
use Rattle.wf_calls.specs.declared.reply.Reply.{Reply}
use Rattle.wf_model.specs.Names.{all_names, core_names, display_names, frame_names, own_names, settle_if}
use Rattle.wf_model.specs.Named.{in_front}
use Rattle.wf_model.specs.Outcome.{found, refuse}
use Rattle.wf_model.specs.State.{State}
use Rattle.wf_model.specs.Step.{act, step}
use Rattle.wf_model.specs.Streams.{acquirable, acquire_step, canvas_back, is_out_at_client, may_make, new_buffers, stream_destroy}
use Rattle.wf_model.specs.Streams.{stream_made}
use Rattle.wf_model.specs.Streams.{stream_step, with_stream}
use Rattle.wf_guard.specs.Apps.{LeavesTheRest, is_found, is_of_apps, names_stream}

-- a change that keeps each number, and this stream
record Keeps (s : KeptStream) (g : KeptStream → KeptStream) : Type 0 where
  number : (t : KeptStream) → (g t).number ≡ t.number
  this : g s ≡ s

module _ (n : ℕ) (s : KeptStream) where
  abbrev Stands : List KeptStream → Type 0
  Stands ss = stream_at n ss ≡ Some s

  mapped : (g : KeptStream → KeptStream) → Keeps s g → (ss : List KeptStream) → Stands ss → Stands (map g ss)
  mapped g keeps [] found = absurd cc
  mapped g keeps (t ∷ ss) found =
      elim (t.number == n) as (λ b. (t.number == n) ≡ b → cond b (Some t) (stream_at n ss) ≡ Some s → Stands (map g (t ∷ ss))) [
        | true ↦ λ here same.
            let is : t ≡ s = cc in
            let at : ((g t).number == n) ≡ true = ap (λ k. k == n) (keeps.number t) ∙ here in
            rw at (ap Some (ap g is ∙ keeps.this))
        | false ↦ λ other rest.
            let past : ((g t).number == n) ≡ false = ap (λ k. k == n) (keeps.number t) ∙ other in
            rw past (mapped g keeps ss rest)
      ] refl found

  more : (new : KeptStream) (ss : List KeptStream) → Stands ss → Stands (ss ++ new ∷ [])
  more new [] found = absurd cc
  more new (t ∷ ss) found =
      elim (t.number == n)
      as (λ b. cond b (Some t) (stream_at n ss) ≡ Some s → cond b (Some t) (stream_at n (ss ++ new ∷ [])) ≡ Some s) [
        | true ↦ λ same. same
        | false ↦ λ rest. more new ss rest
      ] found

  -- a stream that something names is kept
  stays : (ns : List ℕ) → is_in n ns ≡ true → (ss : List KeptStream) → Stands ss → Stands (filter (λ t. is_in t.number ns) ss)
  stays ns named [] found = found
  stays ns named (t ∷ ss) found =
      elim (t.number == n) as (λ b. (t.number == n) ≡ b → cond b (Some t) (stream_at n ss) ≡ Some s
      → Stands (filter (λ t. is_in t.number ns) (t ∷ ss))) [
        | true ↦ λ here same.
            let stays_here : is_in t.number ns ≡ true = ap (λ k. is_in k ns) (eqb-true t.number n here) ∙ named in
            rw (stays_here, here) same
        | false ↦ λ other rest.
            elim (is_in t.number ns)
            as (λ b. Stands (cond b (t ∷ filter (λ t. is_in t.number ns) ss) (filter (λ t. is_in t.number ns) ss))) [
              | true ↦ rw other (stays ns named ss rest)
              | false ↦ stays ns named ss rest
            ]
      ] refl found

  -- a live stream is among the names
  named : (s.handle == 0) ≡ false → (ss : List KeptStream) → Stands ss → is_in n (flat_map own_names ss) ≡ true
  named live [] found = absurd cc
  named live (t ∷ ss) found =
      elim (t.number == n) as (λ b. (t.number == n) ≡ b → cond b (Some t) (stream_at n ss) ≡ Some s
      → is_in n (own_names t ++ flat_map own_names ss) ≡ true) [
        | true ↦ λ here same.
            let is : t ≡ s = cc in
            let alive : (t.handle == 0) ≡ false = ap (λ u. u.handle == 0) is ∙ live in
            rw (alive, here) refl
        | false ↦ λ other rest.
            list_any-append (λ k. k == n) (own_names t) (flat_map own_names ss)
            ∙ or_true (is_in n (own_names t)) (is_in n (flat_map own_names ss)) (named live ss rest)
      ] refl found

-- the changes of streams

unnamed_keeps : (handle : ℕ) (s : KeptStream) → (s.handle == handle) ≡ false → Keeps s (unnamed handle)
unnamed_keeps handle s other =
    record {
      number = λ t. elim (t.handle == handle) as (λ b. (cond b (record t { handle = 0 }) t).number
          ≡ t.number) [ true ↦ refl | false ↦ refl ];
      this = rw other refl;
    }

changed_keeps : (k : ℕ) (f : Buffers → Buffers) (s : KeptStream) → (s.number == k) ≡ false
    → Keeps s (λ t. cond (t.number == k) (record t { buffers = f t.buffers }) t)
changed_keeps k f s other =
    record {
      number = λ t. elim (t.number == k) as (λ b. (cond b (record t { buffers = f t.buffers }) t).number ≡ t.number) [
        | true ↦ refl
        | false ↦ refl
      ];
      this = rw other refl;
    }

-- what a call did, before the streams without a name go
record LeavesSo (c : Call) (h now : State) : Type 0 where
  core : now.core ≡ h.core
  display : now.display ≡ h.display
  frame : now.frame ≡ h.frame
  streams : (n : ℕ) (s : KeptStream) → stream_at n h.streams ≡ Some s → names_stream c h s ≡ false → stream_at n now.streams ≡ Some s

module _ (h : State) where
  same : (c : Call) → LeavesSo c h h
  same c = record { core = refl; display = refl; frame = refl; streams = λ n s found other. found }

  with_streams : (c : Call) (ss : List KeptStream)
      → ((n : ℕ) (s : KeptStream) → stream_at n h.streams ≡ Some s → names_stream c h s ≡ false → stream_at n ss ≡ Some s)
      → LeavesSo c h (record h { streams = ss })
  with_streams c ss left = record { core = refl; display = refl; frame = refl; streams = left }

  made : (c : Call) (new : Buffers) (wrong full lacking : Bool)
      → LeavesSo c h (stream_step h (refuse code.IllegalArgument wrong >>= (λ _. refuse code.Limit full >>= (λ _.
      refuse code.OutOfMemory lacking >>= (λ _. Ok (stream_made new h)))))).0
  made c new true full lacking = same c
  made c new false true lacking = same c
  made c new false false true = same c
  made c new false false false =
      record {
        core = refl;
        display = refl;
        frame = refl;
        streams = λ n s found other. more n s (record { number = h.numbered + 1; handle = h.made + 1; buffers = new }) h.streams found;
      }

  destroyed : (handle : ℕ) (o : Option KeptStream) → stream_of handle h.streams ≡ o
      → LeavesSo (call.StreamDestroy handle) h (stream_step h (stream_destroy handle h)).0
  destroyed handle None is = rw is (same (call.StreamDestroy handle))
  destroyed handle (Some t) is = rw is (with_streams (call.StreamDestroy handle) (map (unnamed handle) h.streams)
      (λ n s found other. mapped n s (unnamed handle) (unnamed_keeps handle s other) h.streams found))

  back : (c : Call) (canvas : Canvas) (f : Buffers → Buffers)
      → ((s : KeptStream) → names_stream c h s ≡ false → (s.number == canvas.stream) ≡ false)
      → LeavesSo c h (canvas_back canvas f h).0
  back c canvas f apart = of_test (is_out_at_client canvas h)
    where
      of_test : (b : Bool)
          → LeavesSo c h (cond {A = State × Reply} b (with_stream canvas.stream f h, bare (done 0)) (h, gives_back_canvas canvas)).0
      of_test true =
          with_streams c (change_stream canvas.stream f h.streams)
          (λ n s found other. mapped n s _ (changed_keeps canvas.stream f s (apart s other)) h.streams found)
      of_test false = same c

  taken : (handle : ℕ) (t : KeptStream) → stream_of handle h.streams ≡ Some t → (out blocked : Bool)
      → LeavesSo (call.Acquire handle) h
      (acquire_step h (refuse code.Busy out >>= (λ _. refuse code.NoBuffer blocked >>= (λ _. Ok t)))).0
  taken handle t is true blocked = same (call.Acquire handle)
  taken handle t is false true = same (call.Acquire handle)
  taken handle t is false false =
      with_streams (call.Acquire handle) (change_stream t.number acquired h.streams)
      (λ n s found other. mapped n s _ (changed_keeps t.number acquired s (ap (is_found s) (sym is) ∙ other)) h.streams found)

  acquires : (handle : ℕ) (o : Option KeptStream) → stream_of handle h.streams ≡ o
      → LeavesSo (call.Acquire handle) h (acquire_step h (acquirable handle h)).0
  acquires handle None is = rw is (same (call.Acquire handle))
  acquires handle (Some t) is =
      subst (λ p. LeavesSo (call.Acquire handle) h (acquire_step h (found code.BadHandle p >>= (λ x. refuse code.Busy x.buffers.out
      >>= (λ _. refuse code.NoBuffer (is_blocked x.buffers) >>= (λ _. Ok x))))).0) (sym is)
      (taken handle t is t.buffers.out (is_blocked t.buffers))

  leaves_so : (c : Call) (m : Bool) → is_of_apps c ≡ true → LeavesSo c h (act h c m).0
  unfolding act
  leaves_so (call.StreamNew width height format buffers) m may =
      let new : Buffers = new_buffers false width height format buffers in
      made (call.StreamNew width height format buffers) new (not (may_make false width height buffers))
      (has_no_room new h.streams || is_full h.made) m
  leaves_so (call.StreamQueue width height format depth) m may =
      let new : Buffers = new_buffers true width height format depth in
      made (call.StreamQueue width height format depth) new (not (may_make true width height depth))
      (has_no_room new h.streams || is_full h.made) m
  leaves_so (call.StreamDestroy stream) m may = destroyed stream (stream_of stream h.streams) refl
  leaves_so (call.Acquire stream) m may = acquires stream (stream_of stream h.streams) refl
  leaves_so (call.Post canvas) m may = back (call.Post canvas) canvas (posted canvas.image) (λ s other. other)
  leaves_so (call.Discard canvas) m may = back (call.Discard canvas) canvas discarded (λ s other. other)
  leaves_so _ m may = absurd cc

  settled : (c : Call) (x : State × Reply) → LeavesSo c h x.0 → LeavesTheRest c h (settle_if (is_ok_code x.1.code) x.0)
  settled c x so =
      record {
        core = so.core;
        display = so.display;
        frame = so.frame;
        streams = λ n s found live other.
            let left = so.streams n s found other in
            let own = flat_map own_names x.0.streams in
            let composed = own ++ core_names x.0.core in
            let shown = composed ++ display_names x.0.display in
            let within : is_in n (all_names x.0) ≡ true =
            in_front n shown (frame_names x.0.frame) (in_front n composed (display_names x.0.display)
            (in_front n own (core_names x.0.core) (named n s live x.0.streams left))) in
            elim (is_ok_code x.1.code) as (λ b. stream_at n (settle_if b x.0).streams ≡ Some s) [
              | true ↦ stays n s (all_names x.0) within x.0.streams left
              | false ↦ left
            ];
      }

pub leaves_rest : (h : State) (client : ℕ) (c : Call) (m : Bool) → is_of_apps c ≡ true → LeavesTheRest c h (step h client c m).0
unfolding step
leaves_rest h client c m may = settled h c (act h c m) (leaves_so h c m may)
