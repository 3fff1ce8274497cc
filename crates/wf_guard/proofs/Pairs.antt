-- One call in two states, by what it meets in both.
use Rattle.std.proofs.Common.{◌≡◌, ℕ, ◌+◌, Bool, true, false, cond, map, Option, Some, None, Ok, refl}
use Rattle.wf_words.specs.Refusals.{◌>>=◌}
use Rattle.wf_image.specs.declared.canvas.Canvas.{Canvas}
use Rattle.wf_stream.specs.Buffers.{Buffers, acquired, is_blocked}
use Rattle.wf_stream.specs.Streams.{KeptStream, stream_of, unnamed}
use Rattle.wf_calls.specs.Codes.{is_ok_code}
use Rattle.wf_calls.specs.Replies.{bare, done, given_canvas, gives_back_canvas, gives_canvas, refusal, refused}
use Rattle.wf_calls.specs.declared.code.Code.TheVariants as code
use Rattle.wf_calls.specs.declared.reply.Reply.{Reply}
use Rattle.wf_host.specs.declared.told.Told.{Told}
use Rattle.wf_model.specs.Names.{settle_if}
use Rattle.wf_model.specs.Outcome.{refuse}
use Rattle.wf_model.specs.State.{State}
use Rattle.wf_model.specs.Streams.{acquirable, acquire_step, stream_destroy, stream_made, stream_step, with_stream}
use Rattle.wf_model.specs.Streams as model
use Rattle.wf_guard.specs.Alike.{LooksAlike}
use Rattle.wf_guard.specs.Serving.{Served}

-- a call's state, settled, with its reply
abbrev pub settled : State × Reply → State × Reply
settled x = (settle_if (is_ok_code x.1.code) x.0, x.1)

-- both are served the same, and look alike
pub record Both (a : ℕ) (x y : Served × Told) : Type 0 where
  pub told : x.1 ≡ y.1
  pub alike : LooksAlike a x.0 y.0

-- how a call goes in two states, by what it meets there

abbrev pub Pair : Type 1
Pair = State × Reply → State × Reply → Type 0

module _ (h g : State) (P : Pair) (refuses : (r : Reply) → is_ok_code r.code ≡ false → given_canvas r.payload ≡ None → P (h, r)
    (g, r)) where
  pub by_new : (new : Buffers) → P ((stream_made new h).0, bare (done (h.made + 1))) ((stream_made new g).0, bare (done (g.made + 1)))
      → (wrong full other lacking : Bool) → full ≡ other
      → P (stream_step h (refuse code.IllegalArgument wrong >>= (λ _. refuse code.Limit full >>= (λ _.
      refuse code.OutOfMemory lacking >>= (λ _. Ok (stream_made new h))))))
      (stream_step g (refuse code.IllegalArgument wrong >>= (λ _. refuse code.Limit other >>= (λ _.
      refuse code.OutOfMemory lacking >>= (λ _. Ok (stream_made new g))))))
  by_new new makes true full other lacking is = refuses (bare (refused (refusal code.IllegalArgument))) refl refl
  by_new new makes false true true lacking is = refuses (bare (refused (refusal code.Limit))) refl refl
  by_new new makes false true false lacking is = absurd cc
  by_new new makes false false true lacking is = absurd cc
  by_new new makes false false false true is = refuses (bare (refused (refusal code.OutOfMemory))) refl refl
  by_new new makes false false false false is = makes

  pub by_destroyed : (handle : ℕ)
      → P (record h { streams = map (unnamed handle) h.streams }, bare (done 0))
      (record g { streams = map (unnamed handle) g.streams }, bare (done 0))
      → (o : Option KeptStream) → stream_of handle h.streams ≡ o → stream_of handle g.streams ≡ o
      → P (stream_step h (stream_destroy handle h)) (stream_step g (stream_destroy handle g))
  by_destroyed handle ends None here there = rw (here, there) (refuses (bare (refused (refusal code.BadHandle))) refl refl)
  by_destroyed handle ends (Some t) here there = rw (here, there) ends

  by_taken : (t : KeptStream)
      → P (with_stream t.number acquired h, gives_canvas (model.canvas_of t))
      (with_stream t.number acquired g, gives_canvas (model.canvas_of t))
      → (out blocked : Bool)
      → P (acquire_step h (refuse code.Busy out >>= (λ _. refuse code.NoBuffer blocked >>= (λ _. Ok t))))
      (acquire_step g (refuse code.Busy out >>= (λ _. refuse code.NoBuffer blocked >>= (λ _. Ok t))))
  by_taken t takes true blocked = refuses (bare (refused (refusal code.Busy))) refl refl
  by_taken t takes false true = refuses (bare (refused (refusal code.NoBuffer))) refl refl
  by_taken t takes false false = takes

  pub by_acquired : (handle : ℕ)
      → ((t : KeptStream) → stream_of handle h.streams ≡ Some t → stream_of handle g.streams ≡ Some t
      → P (with_stream t.number acquired h, gives_canvas (model.canvas_of t))
      (with_stream t.number acquired g, gives_canvas (model.canvas_of t)))
      → (o : Option KeptStream) → stream_of handle h.streams ≡ o → stream_of handle g.streams ≡ o
      → P (acquire_step h (acquirable handle h)) (acquire_step g (acquirable handle g))
  by_acquired handle takes None here there = rw (here, there) (refuses (bare (refused (refusal code.BadHandle))) refl refl)
  by_acquired handle takes (Some t) here there =
      rw (here, there) (by_taken t (takes t here there) t.buffers.out (is_blocked t.buffers))

pub by_back : (h g : State) (P : Pair) (canvas : Canvas) (f : Buffers → Buffers)
    → P (with_stream canvas.stream f h, bare (done 0)) (with_stream canvas.stream f g, bare (done 0))
    → P (h, gives_back_canvas canvas) (g, gives_back_canvas canvas) → (b d : Bool) → b ≡ d
    → P (cond {A = State × Reply} b (with_stream canvas.stream f h, bare (done 0)) (h, gives_back_canvas canvas))
    (cond {A = State × Reply} d (with_stream canvas.stream f g, bare (done 0)) (g, gives_back_canvas canvas))
by_back h g P canvas f taken back true true is = taken
by_back h g P canvas f taken back true false is = absurd cc
by_back h g P canvas f taken back false true is = absurd cc
by_back h g P canvas f taken back false false is = back
