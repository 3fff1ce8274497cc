-- Calls on the buffers of streams, as the plain machine answers them.
use Rattle.wf_machine.proofs.Common.{◌≡◌, ℕ, true, false, not, ◌&&◌, List, Option, Some, None, refl, sym, ap, ◌∙◌, option_map, and_parts}
use Rattle.wf_machine.proofs.Common.{Reply, map, stream_step, unnamed, same_format}
use Rattle.wf_machine.proofs.Common.{same_size, Canvas, Buffers, acquired, blank, has_number}
use Rattle.wf_machine.proofs.Common.{is_blocked, KeptStream, IsNumbered, stream_at, stream_of, State, bare, done, refusal, refused}
use Rattle.wf_machine.proofs.Common.{acquirable, acquire_step, canvas_back, canvas_of, is_out_at_client, with_stream, is_target}
pub use Rattle.wf_pixel.specs.Equal.{format_is, size_is}
use Rattle.wf_stream.specs.Streams.{number_of}
use Rattle.wf_calls.specs.Replies.{gives_back_canvas}
use Rattle.wf_calls.specs.declared.reply.Answer.{Answer}
use Rattle.wf_model.specs.Streams.{stream_destroy}
use Rattle.wf_calls.specs.declared.code.Code.TheVariants as code
use Rattle.wf_calls.specs.declared.reply.Payload.TheVariants as payload
use Rattle.wf_model.specs.Streams.{is_out_of}
use Rattle.wf_machine.specs.Latching.{IsOutFrom}
use Rattle.wf_machine.proofs.StreamChanges.{of_handle}

-- the stream of a live handle, by its number too
pub found : (handle number high : ℕ) (streams : List KeptStream) → IsNumbered 0 streams high → Some number ≡ number_of handle streams
    → (s : KeptStream) × (stream_of handle streams ≡ Some s) × (stream_at number streams ≡ Some s)
found handle number high streams rising is = of_stream (stream_of handle streams) refl is
  where
    of_stream : (o : Option KeptStream) → stream_of handle streams ≡ o → Some number ≡ option_map (λ s. s.number) o
        → (s : KeptStream) × (stream_of handle streams ≡ Some s) × (stream_at number streams ≡ Some s)
    of_stream None at same = absurd cc
    of_stream (Some s) at same = (let here : s.number ≡ number = cc in
        (s, at, ap (λ n. stream_at n streams) (sym here) ∙ of_handle 0 high handle streams s rising at))

-- the canvas that the stream of a number gives
pub canvas_is : (n : ℕ) (s : KeptStream) (streams : List KeptStream) → stream_at n streams ≡ Some s
    → record { stream = n; image = blank s.buffers.size s.buffers.format } ≡ canvas_of s
canvas_is n s streams at =
    let given : ℕ → Canvas = λ k. record { stream = k; image = blank s.buffers.size s.buffers.format } in
    ap given (sym (has_number n streams s at))

module _ (handle : ℕ) (h : State) where
  module _ (s : KeptStream) (at : stream_of handle h.streams ≡ Some s) where
    pub busy : s.buffers.out ≡ true → acquire_step h (acquirable handle h) ≡ (h, bare (refused (refusal code.Busy)))
    busy out = rw (at, out) refl

    pub no_buffer : s.buffers.out ≡ false → is_blocked s.buffers ≡ true
        → acquire_step h (acquirable handle h) ≡ (h, bare (refused (refusal code.NoBuffer)))
    no_buffer home blocked = rw (at, blocked, home) refl

    pub given : s.buffers.out ≡ false → is_blocked s.buffers ≡ false
        → acquire_step h (acquirable handle h) ≡ (
          with_stream s.number acquired h,
          record { code = code.Ok; value = 0; payload = payload.Canvas (canvas_of s) },
        )
    given home free = rw (at, free, home) refl

-- the handle of a stream dies where it lives, and else the call is refused

pub destroyed : (handle : ℕ) (h : State) (s : KeptStream) → stream_of handle h.streams ≡ Some s
    → stream_step h (stream_destroy handle h) ≡ (record h { streams = map (unnamed handle) h.streams }, bare (done 0))
destroyed handle h s at = rw at refl

pub no_stream : (handle : ℕ) (h : State) (a : Answer) → None ≡ number_of handle h.streams → a ≡ refused (refusal code.BadHandle)
    → stream_step h (stream_destroy handle h) ≡ (h, bare a)
no_stream handle h a none is = of_stream (stream_of handle h.streams) refl none ∙ ap (λ r. (h, bare r)) (sym is)
  where
    of_stream : (o : Option KeptStream) → stream_of handle h.streams ≡ o → None ≡ option_map (λ s. s.number) o
        → stream_step h (stream_destroy handle h) ≡ (h, bare (refused (refusal code.BadHandle)))
    of_stream None at same = rw at refl
    of_stream (Some s) at same = absurd cc

-- a canvas that is out at a client comes back to its stream
pub comes_back : (canvas : Canvas) (f : Buffers → Buffers) (h : State) → is_out_at_client canvas h ≡ true
    → canvas_back canvas f h ≡ (with_stream canvas.stream f h, bare (done 0))
comes_back canvas f h out = rw out refl

-- any other stays with its caller
pub stays_out : (canvas : Canvas) (f : Buffers → Buffers) (h : State) (r : Reply) → is_out_at_client canvas h ≡ false
    → r ≡ gives_back_canvas canvas → canvas_back canvas f h ≡ (h, r)
stays_out canvas f h r home is = (rw home refl) ∙ ap (λ x. (h, x)) (sym is)

-- a canvas that is out at a client is not the running frame's
pub out_apart : (canvas : Canvas) (h : State) → is_out_at_client canvas h ≡ true → is_target canvas.stream h.frame ≡ false
out_apart canvas h out = elim (is_target canvas.stream h.frame)
    as (λ b. (not b && is_out_of canvas (stream_at canvas.stream h.streams)) ≡ true
    → b ≡ false) [ true ↦ λ no. absurd cc | false ↦ λ yes. refl ] out

-- the stream of a canvas that is out at a client has it out
pub out_from : (canvas : Canvas) (h : State) → is_out_at_client canvas h ≡ true → IsOutFrom h.streams canvas
out_from canvas h out = of_stream (stream_at canvas.stream h.streams) refl
  where
    of_stream : (o : Option KeptStream) → stream_at canvas.stream h.streams ≡ o → IsOutFrom h.streams canvas
    of_stream None at = rw at tt
    of_stream (Some s) at =
        let whole : (not (is_target canvas.stream h.frame)
        && (s.buffers.out && same_size canvas.image.size s.buffers.size && same_format canvas.image.format s.buffers.format))
        ≡ true = rw at at out in
        let is = (and_parts (not (is_target canvas.stream h.frame)) (s.buffers.out && same_size canvas.image.size s.buffers.size
        && same_format canvas.image.format s.buffers.format) whole).1 in
        let outer = and_parts (s.buffers.out && same_size canvas.image.size s.buffers.size)
        (same_format canvas.image.format s.buffers.format) is in
        let inner = and_parts s.buffers.out (same_size canvas.image.size s.buffers.size) outer.0 in
        rw at (
          inner.0,
          record {
            size_is = size_is canvas.image.size s.buffers.size inner.1;
            format_is = format_is canvas.image.format s.buffers.format outer.1;
          },
        )
