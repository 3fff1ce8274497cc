-- A write buffer comes with an answer where one is acquired, or where one comes back; with no other call.
use Rattle.std.proofs.Common.{◌≡◌, ℕ, Bool, true, false, cond, Option, Some, None, Result, Ok, Err, refl}
use Rattle.wf_image.specs.declared.canvas.Canvas.{Canvas}
use Rattle.wf_stream.specs.Buffers.{Buffers, discarded, posted}
use Rattle.wf_stream.specs.Streams.{KeptStream}
use Rattle.wf_calls.specs.Parts.{Register, part_of, recorded_by}
use Rattle.wf_calls.specs.Replies.{bare, done, given_canvas, gives_back_canvas}
use Rattle.wf_calls.specs.Requests.{call_of}
use Rattle.wf_calls.specs.declared.call.Call.{Call}
use Rattle.wf_calls.specs.declared.call.Call.TheVariants as call
use Rattle.wf_calls.specs.declared.part.Part.{Part}
use Rattle.wf_calls.specs.declared.part.Part.TheVariants as part
use Rattle.wf_calls.specs.declared.reply.Refusal.{Refusal}
use Rattle.wf_calls.specs.declared.reply.Reply.{Reply}
use Rattle.wf_calls.specs.declared.request.Request.{Request}
use Rattle.wf_calls.specs.declared.request.Request.TheVariants as request
use Rattle.wf_model.specs.Calls.{begin_call, buffer_call, core_call, display_call, end_call, stream_call}
use Rattle.wf_model.specs.Composing.{composed, core_side, display_side, displayed, screen_of}
use Rattle.wf_model.specs.Composition.{CoreSide}
use Rattle.wf_model.specs.DisplaySides.{DisplaySide}
use Rattle.wf_model.specs.Frames.{Beginning, started}
use Rattle.wf_model.specs.Outcome.{Outcome}
use Rattle.wf_model.specs.State.{State}
use Rattle.wf_model.specs.Step.{act, act_of, step}
use Rattle.wf_model.specs.Streams.{acquirable, acquire_step, canvas_of, is_out_at_client, stream_destroy, stream_new, stream_step}
use Rattle.wf_model.specs.Streams.{with_stream}
use Rattle.wf_wire.specs.Asked.{is_acquire}

abbrev pub given : State × Reply → Option Canvas
given x = given_canvas x.1.payload

-- the calls that move a write buffer or a Job
abbrev moves_buffer : Call → Bool
moves_buffer (call.Acquire stream) = true
moves_buffer (call.Post canvas) = true
moves_buffer (call.Discard canvas) = true
moves_buffer (call.End job) = true
moves_buffer _ = false

of_request : (r : Request) → is_acquire r ≡ false → moves_buffer (call_of r) ≡ false
of_request (request.Acquire stream) other = absurd cc
of_request _ other = refl

module _ (h : State) where
  makes : (o : Outcome State) → given (stream_step h o) ≡ None
  makes (Ok x) = refl
  makes (Err r) = refl

  of_streams : (c : Call) (m : Bool) → given (stream_call m c h) ≡ None
  of_streams (call.StreamNew width height format buffers) m = makes (stream_new false width height format buffers m h)
  of_streams (call.StreamQueue width height format depth) m = makes (stream_new true width height format depth m h)
  of_streams (call.StreamDestroy stream) m = makes (stream_destroy stream h)
  of_streams _ m = refl

  of_buffers : (c : Call) → moves_buffer c ≡ false → given (buffer_call c h) ≡ None
  of_buffers (call.Acquire stream) other = absurd cc
  of_buffers (call.Post canvas) other = absurd cc
  of_buffers (call.Discard canvas) other = absurd cc
  of_buffers _ other = refl

  of_end : (c : Call) → moves_buffer c ≡ false → given (end_call c h) ≡ None
  of_end (call.End job) other = absurd cc
  of_end _ other = refl

  composes : (d : ℕ) (o : Outcome CoreSide) → given (composed d (λ _. o) h) ≡ None
  composes d (Ok x) = refl
  composes d (Err r) = refl

  displays : (o : Outcome DisplaySide) → given (displayed (λ _. o) h) ≡ None
  displays (Ok x) = refl
  displays (Err r) = refl

  begins : (own : Register) (r : Result (Option Beginning) Refusal) → given (started own h r) ≡ None
  begins own (Ok None) = refl
  begins own (Ok (Some b)) = refl
  begins own (Err r) = refl

  by_part : (p : Part) (c : Call) (m : Bool) → moves_buffer c ≡ false → given (act_of p h c m) ≡ None
  by_part part.Streams c m other = of_streams c m
  by_part part.Buffers c m other = of_buffers c other
  by_part (part.Composition d) c m other = composes d (core_call (screen_of c h) m c (core_side h))
  by_part part.Display c m other = displays (display_call m c (display_side h))
  by_part (part.Begin d) c m other = begins (recorded_by (part.Begin d)) (begin_call c h)
  by_part part.End c m other = of_end c other

  pub gives_none : (client : ℕ) (r : Request) (m : Bool) → is_acquire r ≡ false → given (step h client (call_of r) m) ≡ None
  unfolding step act
  gives_none client r m other = by_part (part_of (call_of r)) (call_of r) m (of_request r other)

  -- what comes with an acquired write buffer
  gives_of : (r : Result KeptStream Refusal) (canvas : Canvas) → given (acquire_step h r) ≡ Some canvas
      → (s : KeptStream) × (r ≡ Ok s) × (canvas ≡ canvas_of s)
  gives_of (Ok s) canvas is = (s, refl, cc)
  gives_of (Err r) canvas is = absurd cc

  pub gives_acquired : (client : ℕ) (stream : ℕ) (m : Bool) (canvas : Canvas)
      → given (step h client (call.Acquire stream) m) ≡ Some canvas
      → (s : KeptStream) × (acquirable stream h ≡ Ok s) × (canvas ≡ canvas_of s)
  unfolding step act
  gives_acquired client stream m canvas is = gives_of (acquirable stream h) canvas is

  -- what comes back is what was brought
  brings_back : (canvas : Canvas) (f : Buffers → Buffers) (out : Bool) (other : Canvas)
      → given (cond {A = State × Reply} out (with_stream canvas.stream f h, bare (done 0)) (h, gives_back_canvas canvas)) ≡ Some other
      → other ≡ canvas
  brings_back canvas f true other is = absurd cc
  brings_back canvas f false other is = cc

  pub posts_back : (client : ℕ) (canvas other : Canvas) (m : Bool) → given (step h client (call.Post canvas) m) ≡ Some other
      → other ≡ canvas
  unfolding step act
  posts_back client canvas other m is = brings_back canvas (posted canvas.image) (is_out_at_client canvas h) other is

  pub discards_back : (client : ℕ) (canvas other : Canvas) (m : Bool) → given (step h client (call.Discard canvas) m) ≡ Some other
      → other ≡ canvas
  unfolding step act
  discards_back client canvas other m is = brings_back canvas discarded (is_out_at_client canvas h) other is
