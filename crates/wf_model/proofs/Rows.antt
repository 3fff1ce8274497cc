-- Worked calls: what the plain machine answers.
use Rattle.std.proofs.Common.{◌≡◌, true, false, [], ◌∷◌, pos, refl}
use Rattle.wf_pixel.specs.declared.Size.{Size}
use Rattle.wf_pixel.specs.declared.Format.TheVariants.{Rgba8}
use Rattle.wf_image.specs.declared.canvas.Canvas.{Canvas}
use Rattle.wf_image.specs.Bitmap.{blank}
use Rattle.wf_calls.specs.declared.call.Call.{Call}
use Rattle.wf_calls.specs.declared.call.Call.TheVariants as call
use Rattle.wf_calls.specs.declared.reply.Payload.TheVariants as payload
use Rattle.wf_calls.specs.declared.call.StatWord.TheVariants as stat
use Rattle.wf_calls.specs.declared.code.Code.TheVariants as code
use Rattle.wf_model.specs.State.{State, opening}
use Rattle.wf_model.specs.Step.{act, step}

abbrev one : Size
one = record { w = 1; h = 1 }

-- one port of 1 by 1, with its screen
abbrev opened : State
opened = opening (record { modes = record { items = record { sizes = record { items = one ∷ [] } } ∷ [] }; pipes = 0 })

abbrev canvas_9 : Canvas
canvas_9 = record { stream = 9; image = blank one Rgba8 }

abbrev stream : Call
stream = call.StreamNew (pos 1) (pos 1) Rgba8 (pos 2)

abbrev with_stream : State
with_stream = (step opened 0 stream false).0

-- a canvas of a stream that was never made comes back
no_such_stream : step opened 0 (call.Post canvas_9) false
    ≡ (opened, record { code = code.BadHandle; value = 0; payload = payload.Canvas canvas_9 })
unfolding step act
no_such_stream = refl

-- the screen has 12 bytes, and the stream 8
bytes_are_counted : (step with_stream 0 (call.Stat stat.Bytes) false).1 ≡ record { code = code.Ok; value = 20; payload = payload.Nothing }
unfolding step act
bytes_are_counted = refl

-- without memory nothing is made
no_memory : step opened 0 stream true ≡ (opened, record { code = code.OutOfMemory; value = 0; payload = payload.Nothing })
unfolding step act
no_memory = refl

-- the number of buffers is looked at before the memory
one_buffer : step opened 0 (call.StreamNew (pos 1) (pos 1) Rgba8 (pos 1)) true
    ≡ (opened, record { code = code.IllegalArgument; value = 0; payload = payload.Nothing })
unfolding step act
one_buffer = refl

-- a write buffer is given once
second_acquire : (step (step with_stream 0 (call.Acquire 1) false).0 1 (call.Acquire 1) false).1 ≡ record {
  code = code.Busy;
  value = 0;
  payload = payload.Nothing;
}
unfolding step act
second_acquire = refl

-- one frame runs at a time, and no context is there to begin
second_begin : (step (step opened 0 (call.BeginPort (pos 1)) false).0 0 (call.BeginNext 0) false).1 ≡ record {
  code = code.Busy;
  value = 0;
  payload = payload.Nothing;
}
unfolding step act
second_begin = refl

no_such_port : (step opened 0 (call.BeginPort (pos 2)) false).1 ≡ record { code = code.BadHandle; value = 0; payload = payload.Nothing }
unfolding step act
no_such_port = refl
