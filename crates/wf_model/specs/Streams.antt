-- The calls on streams.
use Rattle.std.specs.Prelude.{ℕ, ◌+◌, Bool, true, false, not, ◌&&◌, ◌||◌, ℤ, pos, [], ◌∷◌, ◌++◌, map, Option, Some, None, Result, Ok, Err}
use Rattle.std.specs.Prelude.{if◌then◌else◌}
use Rattle.wf_words.specs.Refusals.{◌>>=◌}
use Rattle.wf_words.specs.Whole.{count_of}
use Rattle.wf_pixel.specs.declared.Size.{Size}
use Rattle.wf_pixel.specs.declared.Format.{Format}
use Rattle.wf_pixel.specs.Choice.{same_size, same_format, is_between}
use Rattle.wf_image.specs.declared.canvas.Canvas.{Canvas}
use Rattle.wf_image.specs.Bitmap.{blank}
use Rattle.wf_life.specs.Handles.{is_full}
use Rattle.wf_stream.specs.declared.Held.{Held}
use Rattle.wf_stream.specs.Buffers.{Buffers, acquired, discarded, fresh, fresh_queue, is_blocked, posted}
use Rattle.wf_stream.specs.Streams.{KeptStream, stream_at, change_stream, held, has_no_room, unnamed}
use Rattle.wf_calls.specs.Replies.{bare, done, gives_back_canvas, gives_canvas, refused}
use Rattle.wf_calls.specs.declared.code.Code.TheVariants as code
use Rattle.wf_calls.specs.declared.reply.Refusal.{Refusal}
use Rattle.wf_calls.specs.declared.reply.Reply.{Reply}
use Rattle.wf_calls.specs.declared.call.StatWord.{StatWord}
use Rattle.wf_calls.specs.declared.call.StatWord.TheVariants as stat_word
use Rattle.wf_model.specs.State.{State}
use Rattle.wf_model.specs.Frames.{is_target}
use Rattle.wf_model.specs.Composition.{live_stream}
use Rattle.wf_model.specs.Outcome.{Outcome, refuse}
use Rattle.wf_pixel.specs.declared.TheConstants.{MOST_SIDE}
use Rattle.wf_stream.specs.declared.TheConstants.{MOST_DEPTH}

-- the size of two numbers of a call
abbrev pub size_from : ℤ → ℤ → Size
size_from width height = record { w = count_of width; h = count_of height }

-- a number of a call is a side
abbrev pub is_wide_side : ℤ → Bool
is_wide_side z = is_between (pos 1) (pos MOST_SIDE) z

-- a number of a call is a count of buffers, or where it makes a queue the depth of one
abbrev pub is_buffer_count : Bool → ℤ → Bool
is_buffer_count queue z = if queue then is_between (pos 1) (pos MOST_DEPTH) z else is_between (pos 2) (pos 4) z

-- the sides and the count of a stream are in their ranges
abbrev pub may_make : Bool → ℤ → ℤ → ℤ → Bool
may_make queue width height count = is_wide_side width && is_wide_side height && is_buffer_count queue count

-- one more stream, whose handle is answered
abbrev pub stream_made : Buffers → State → State × ℕ
stream_made new h =
    let made : KeptStream = record { number = h.numbered + 1; handle = h.made + 1; buffers = new } in
    (record h { made = h.made + 1; numbered = h.numbered + 1; streams = h.streams ++ made ∷ [] }, h.made + 1)

-- the buffers of a new stream, plain or a queue
abbrev pub new_buffers : Bool → ℤ → ℤ → Format → ℤ → Buffers
new_buffers queue width height format count =
    if queue then fresh_queue (size_from width height) format (count_of count)
    else fresh (size_from width height) format (count_of count)

abbrev pub stream_new : Bool → ℤ → ℤ → Format → ℤ → Bool → State → Outcome State
stream_new queue width height format count memory_refused h =
    let new : Buffers = new_buffers queue width height format count in
    do
      _ ← refuse code.IllegalArgument (not (may_make queue width height count))
      _ ← refuse code.Limit (has_no_room new h.streams || is_full h.made)
      _ ← refuse code.OutOfMemory memory_refused
      Ok (stream_made new h)

abbrev pub with_stream : ℕ → (Buffers → Buffers) → State → State
with_stream number f h = record h { streams = change_stream number f h.streams }

abbrev pub canvas_of : KeptStream → Canvas
canvas_of s = record { stream = s.number; image = blank s.buffers.size s.buffers.format }

-- the stream whose write buffer a client gets
abbrev pub acquirable : ℕ → State → Result KeptStream Refusal
acquirable handle h = do
  s ← live_stream handle h.streams
  _ ← refuse code.Busy s.buffers.out
  _ ← refuse code.NoBuffer (is_blocked s.buffers)
  Ok s

-- a canvas has the shape of a stream whose write buffer is out
abbrev pub is_out_of : Canvas → Option KeptStream → Bool
is_out_of canvas None = false
is_out_of canvas (Some s) =
    s.buffers.out && same_size canvas.image.size s.buffers.size && same_format canvas.image.format s.buffers.format

-- a canvas is the write buffer of a kept stream, out at a client: not at the running frame
abbrev pub is_out_at_client : Canvas → State → Bool
is_out_at_client canvas h = not (is_target canvas.stream h.frame) && is_out_of canvas (stream_at canvas.stream h.streams)

-- a canvas comes back to its stream, or to its client
abbrev pub canvas_back : Canvas → (Buffers → Buffers) → State → State × Reply
canvas_back canvas f h =
    if is_out_at_client canvas h then (with_stream canvas.stream f h, bare (done 0)) else (h, gives_back_canvas canvas)

abbrev pub stat : StatWord → Held → ℕ
stat stat_word.Streams held = held.streams
stat stat_word.Bytes held = held.bytes

-- the handle of a stream is dead; the stream is kept while something else names it
abbrev pub stream_destroy : ℕ → State → Outcome State
stream_destroy handle h = do
  _ ← live_stream handle h.streams
  Ok (record h { streams = map (unnamed handle) h.streams }, 0)

-- a call that makes or destroys a stream
abbrev pub stream_step : State → Outcome State → State × Reply
stream_step h (Ok x) = (x.0, bare (done x.1))
stream_step h (Err r) = (h, bare (refused r))

abbrev pub acquire_step : State → Result KeptStream Refusal → State × Reply
acquire_step h (Ok s) = (with_stream s.number acquired h, gives_canvas (canvas_of s))
acquire_step h (Err r) = (h, bare (refused r))

-- what each call on streams leaves and answers

abbrev pub stream_new_call : ℤ → ℤ → Format → ℤ → Bool → State → State × Reply
stream_new_call width height format buffers memory_refused h =
    stream_step h (stream_new false width height format buffers memory_refused h)

abbrev pub stream_queue_call : ℤ → ℤ → Format → ℤ → Bool → State → State × Reply
stream_queue_call width height format depth memory_refused h =
    stream_step h (stream_new true width height format depth memory_refused h)

abbrev pub stream_destroy_call : ℕ → State → State × Reply
stream_destroy_call stream h = stream_step h (stream_destroy stream h)

abbrev pub stat_call : StatWord → State → State × Reply
stat_call what h = (h, bare (done (stat what (held h.streams))))

-- what each call on a write buffer leaves and answers

abbrev pub acquire_call : ℕ → State → State × Reply
acquire_call stream h = acquire_step h (acquirable stream h)

abbrev pub post_call : Canvas → State → State × Reply
post_call canvas h = canvas_back canvas (posted canvas.image) h

abbrev pub discard_call : Canvas → State → State × Reply
discard_call canvas h = canvas_back canvas discarded h
