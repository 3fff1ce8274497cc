-- What an app's call is answered follows from what it names.
use Rattle.std.proofs.Common.{◌≡◌, ◌∙◌, ℕ, ◌+◌, Bool, true, false, cond, not, ◌||◌, Option, Some, None, Ok, refl, ap}
use Rattle.wf_words.specs.Refusals.{◌>>=◌}
use Rattle.wf_life.specs.Handles.{is_full}
use Rattle.wf_image.specs.declared.canvas.Canvas.{Canvas}
use Rattle.wf_stream.specs.Buffers.{Buffers, discarded, is_blocked, posted}
use Rattle.wf_stream.specs.Streams.{KeptStream, has_no_room, stream_of}
use Rattle.wf_calls.specs.Replies.{bare, done, gives_back_canvas}
use Rattle.wf_calls.specs.declared.call.Call.{Call}
use Rattle.wf_calls.specs.declared.call.Call.TheVariants as call
use Rattle.wf_calls.specs.declared.code.Code.TheVariants as code
use Rattle.wf_calls.specs.declared.reply.Reply.{Reply}
use Rattle.wf_model.specs.Outcome.{refuse}
use Rattle.wf_model.specs.State.{State}
use Rattle.wf_model.specs.Step.{act, step}
use Rattle.wf_model.specs.Streams.{acquirable, acquire_step, canvas_back, is_out_at_client, may_make, new_buffers, stream_destroy}
use Rattle.wf_model.specs.Streams.{stream_made}
use Rattle.wf_model.specs.Streams.{stream_step, with_stream}
use Rattle.wf_guard.specs.Apps.{LooksSame, RoomSame, is_of_apps}

module _ (h k : State) where
  made : (new : Buffers) → h.made ≡ k.made → (wrong full other lacking : Bool) → full ≡ other
      → (stream_step h (refuse code.IllegalArgument wrong >>= (λ _. refuse code.Limit full >>= (λ _.
      refuse code.OutOfMemory lacking >>= (λ _. Ok (stream_made new h)))))).1
      ≡ (stream_step k (refuse code.IllegalArgument wrong >>= (λ _. refuse code.Limit other >>= (λ _.
      refuse code.OutOfMemory lacking >>= (λ _. Ok (stream_made new k)))))).1
  made new same true full other lacking is = refl
  made new same false true true lacking is = refl
  made new same false true false lacking is = absurd cc
  made new same false false true lacking is = absurd cc
  made new same false false false true is = refl
  made new same false false false false is = ap (λ n. bare (done (n + 1))) same

  destroyed : (handle : ℕ) (o : Option KeptStream) → stream_of handle h.streams ≡ o → stream_of handle k.streams ≡ o
      → (stream_step h (stream_destroy handle h)).1 ≡ (stream_step k (stream_destroy handle k)).1
  destroyed handle None here there = rw (here, there) refl
  destroyed handle (Some t) here there = rw (here, there) refl

  taken : (t : KeptStream) (out blocked : Bool)
      → (acquire_step h (refuse code.Busy out >>= (λ _. refuse code.NoBuffer blocked >>= (λ _. Ok t)))).1
      ≡ (acquire_step k (refuse code.Busy out >>= (λ _. refuse code.NoBuffer blocked >>= (λ _. Ok t)))).1
  taken t true blocked = refl
  taken t false true = refl
  taken t false false = refl

  acquires : (handle : ℕ) (o : Option KeptStream) → stream_of handle h.streams ≡ o → stream_of handle k.streams ≡ o
      → (acquire_step h (acquirable handle h)).1 ≡ (acquire_step k (acquirable handle k)).1
  acquires handle None here there = rw (here, there) refl
  acquires handle (Some t) here there = rw (here, there) (taken t t.buffers.out (is_blocked t.buffers))

  back : (canvas : Canvas) (f : Buffers → Buffers) → is_out_at_client canvas h ≡ is_out_at_client canvas k
      → (canvas_back canvas f h).1 ≡ (canvas_back canvas f k).1
  back canvas f same = of_tests (is_out_at_client canvas h) (is_out_at_client canvas k) same
    where
      of_tests : (b d : Bool) → b ≡ d
          → (cond {A = State × Reply} b (with_stream canvas.stream f h, bare (done 0)) (h, gives_back_canvas canvas)).1
          ≡ (cond {A = State × Reply} d (with_stream canvas.stream f k, bare (done 0)) (k, gives_back_canvas canvas)).1
      of_tests true true is = refl
      of_tests true false is = absurd cc
      of_tests false true is = absurd cc
      of_tests false false is = refl

  full : (new : Buffers) → RoomSame new h k → (has_no_room new h.streams || is_full h.made) ≡ (has_no_room new k.streams || is_full k.made)
  full new looks = ap (λ b. b || is_full h.made) looks.0 ∙ ap (λ n. has_no_room new k.streams || is_full n) looks.1

  told : (c : Call) (m : Bool) → is_of_apps c ≡ true → LooksSame c h k → (act h c m).1 ≡ (act k c m).1
  unfolding act
  told (call.StreamNew width height format buffers) m may looks =
      let new : Buffers = new_buffers false width height format buffers in
      made new looks.1 (not (may_make false width height buffers)) (has_no_room new h.streams || is_full h.made)
      (has_no_room new k.streams || is_full k.made) m (full new looks)
  told (call.StreamQueue width height format depth) m may looks =
      let new : Buffers = new_buffers true width height format depth in
      made new looks.1 (not (may_make true width height depth)) (has_no_room new h.streams || is_full h.made)
      (has_no_room new k.streams || is_full k.made) m (full new looks)
  told (call.StreamDestroy stream) m may looks = destroyed stream (stream_of stream k.streams) looks refl
  told (call.Acquire stream) m may looks = acquires stream (stream_of stream k.streams) looks refl
  told (call.Post canvas) m may looks = back canvas (posted canvas.image) looks
  told (call.Discard canvas) m may looks = back canvas discarded looks
  told _ m may looks = absurd cc

pub told_same : (h k : State) (client : ℕ) (c : Call) (m : Bool) → is_of_apps c ≡ true → LooksSame c h k
    → (step h client c m).1 ≡ (step k client c m).1
unfolding step
told_same h k client c m may looks = told h k c m may looks
