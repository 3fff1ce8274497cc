-- Frames: what a Begin takes from the streams, which Job it gives, and what an End brings back.
use Rattle.std.specs.Prelude.{ℕ, ◌+◌, ◌-◌, ◌^◌, Bool, false, not, ◌&&◌, ◌==◌, nat_lt, ℤ, List, length, map, find, flat_map, filter_map}
use Rattle.std.specs.Prelude.{Option, Some, None, is_some, option_map, Result, Ok, Err, if◌then◌else◌}
use Rattle.std.specs.List.{list_all}
use Rattle.wf_words.specs.Keyed.{is_in, once}
use Rattle.wf_words.specs.Refusals.{◌>>=◌}
use Rattle.wf_words.specs.Whole.{count_of}
use Rattle.wf_pixel.specs.declared.Format.{Format}
use Rattle.wf_pixel.specs.declared.Format.TheVariants.{Rgba8Pre}
use Rattle.wf_pixel.specs.Choice.{same_size, same_format}
use Rattle.wf_image.specs.Bitmap.{Bitmap, blank}
use Rattle.wf_image.specs.Contents.{image_of}
use Rattle.wf_stream.specs.Buffers.{Buffers, acquired, is_blocked, latched, latched_if, next_image, posted, returned}
use Rattle.wf_stream.specs.Streams.{KeptStream, buffers_at, change_stream, stream_at}
use Rattle.wf_scene.specs.declared.Scene.{Scene}
use Rattle.wf_calls.specs.declared.code.Code.TheVariants as code
use Rattle.wf_calls.specs.Parts.{Register}
use Rattle.wf_calls.specs.Replies.{bare, done, gives_back_job, gives_job, refused}
use Rattle.wf_calls.specs.declared.call.Job.{Job}
use Rattle.wf_calls.specs.declared.call.JobKind.{JobKind}
use Rattle.wf_calls.specs.declared.call.JobKind.TheVariants as kind
use Rattle.wf_calls.specs.declared.reply.Refusal.{Refusal}
use Rattle.wf_calls.specs.declared.reply.Reply.{Reply}
use Rattle.wf_model.specs.Objects.{Context}
use Rattle.wf_model.specs.State.{Content, DisplayState, Running, State}
use Rattle.wf_model.specs.Names.{layer_names, target_names}
use Rattle.wf_model.specs.Outcome.{refuse, refuse_with}
use Rattle.wf_model.specs.Composing.{core_side}
use Rattle.wf_model.specs.Composition.{context, device}
use Rattle.wf_model.specs.Registers.{offered}
use Rattle.wf_model.specs.Picture.{Images}
use Rattle.wf_model.specs.Display.{begun_display, port_scene}
use Rattle.wf_model.specs.DisplaySides.{port}

-- the streams that a scene names, each once
abbrev pub scene_streams : Scene → List ℕ
scene_streams scene = once (flat_map layer_names scene.layers.items)

abbrev pub next_image_of : Option KeptStream → Option Bitmap
next_image_of None = None
next_image_of (Some s) = next_image s.buffers

-- the images that a frame takes of streams, of those that have one
abbrev pub next_images : List ℕ → List KeptStream → Images
next_images ns streams = filter_map (λ n. option_map (λ image. (n, image)) (next_image_of (stream_at n streams))) ns

-- a stream whose next image went away into a frame, if it is among these
abbrev pub latched_among : List ℕ → KeptStream → KeptStream
latched_among ns s = if is_in s.number ns then record s { buffers = latched s.buffers } else s

-- the streams after a frame took the next images of these
abbrev pub latch : List ℕ → List KeptStream → List KeptStream
latch ns streams = map (latched_among ns) streams

abbrev pub content_shape : ℕ × Bitmap → Content
content_shape pair = record { stream = pair.0; size = pair.1.size; format = pair.1.format }

abbrev pub running_of : Job → Running
running_of job =
    record {
      number = job.number;
      kind = job.kind;
      size = job.image.size;
      format = job.image.format;
      contents = map content_shape job.contents;
    }

-- the streams while a frame of this kind draws: the write buffer of a context's target is out
abbrev pub drawing : JobKind → List KeptStream → List KeptStream
drawing (kind.Context handle target) streams = change_stream target acquired streams
drawing (kind.Port port) streams = streams

-- the state in which that Job runs, and its write buffer is out
abbrev pub with_job : Job → State → State
with_job job h =
    record h { begun = job.number; streams = drawing job.kind (latch (scene_streams job.scene) h.streams); frame = Some (running_of job) }

-- a stream is the target of the running frame
abbrev pub is_target : ℕ → Option Running → Bool
is_target n None = false
is_target n (Some f) = is_in n (target_names f.kind)

abbrev pub is_running : State → Bool
is_running h = is_some h.frame

-- no more frames can be numbered
abbrev pub all_begun : State → Bool
all_begun h = not (nat_lt h.begun (2 ^ 64 - 1))

-- the beginning of a frame

-- a frame that may begin: what it is of, the display as the frame finds it, its scene, the format of its image, and the
-- value that is answered with its Job
pub record Beginning : Type 0 where
  pub kind : JobKind
  pub display : DisplayState
  pub scene : Scene
  pub format : Format
  pub value : ℕ

-- the Job of the next frame, with nothing painted yet
abbrev pub job_of : Beginning → State → Job
job_of b h =
    record {
      number = h.begun + 1;
      kind = b.kind;
      scene = b.scene;
      contents = next_images (scene_streams b.scene) h.streams;
      image = blank b.scene.size b.format;
    }

-- no buffer of a target is free for a frame that shows a scene; where the scene shows the target too, this is judged
-- after its next image went away
abbrev pub is_short : ℕ → Scene → Buffers → Bool
is_short target scene b = is_blocked (latched_if (is_in target (scene_streams scene)) b)

-- a frame of a context may be drawn into its target, which is kept; a refusal has this value
abbrev pub target_ready : ℕ → ℕ → Scene → Buffers → State → Result (Unit {0}) Refusal
target_ready value target scene b h = do
  _ ← refuse_with code.Busy value b.out
  _ ← refuse_with code.NoBuffer value (is_short target scene b)
  refuse_with code.Limit value (all_begun h)

-- a frame of a context, which composes a scene into a target
abbrev pub context_beginning : ℕ → ℕ → Scene → Buffers → State → Beginning
context_beginning handle target scene b h =
    record { kind = kind.Context handle target; display = h.display; scene = scene; format = b.format; value = handle }

-- a frame of a context that is asked for; a refusal has this value
abbrev pub begin_context : ℕ → ℕ → ℕ → Scene → State → Result (Option Beginning) Refusal
begin_context value handle target scene h = of_target (buffers_at target h.streams)
  where
    -- the target of a live context is always kept
    of_target : Option Buffers → Result (Option Beginning) Refusal
    of_target None = Ok None
    of_target (Some b) = do
      _ ← target_ready value target scene b h
      Ok (Some (context_beginning handle target scene b h))

-- the active context above a handle: contexts stand by rising handle, so the first one has the least
abbrev pub next_context : ℕ → List Context → Option Context
next_context after contexts = find (λ c. c.active && nat_lt after c.handle) contexts

-- a frame of a context's committed scene, where there is a context; a refusal tells its handle
abbrev pub begin_shown : Option Context → State → Result (Option Beginning) Refusal
begin_shown None h = Ok None
begin_shown (Some c) h = begin_context c.handle c.handle c.target c.committed h

-- a frame of the next active context, where there is one
abbrev pub begin_next : ℕ → State → Result (Option Beginning) Refusal
begin_next after h = do
  _ ← refuse code.Busy (is_running h)
  begin_shown (next_context after h.core.contexts) h

-- a frame that a client composes, of a context of a device that is not active
abbrev pub begin_composed : ℕ → ℕ → State → Result (Option Beginning) Refusal
begin_composed d handle h = do
  _ ← device d (core_side h)
  c ← context d handle (core_side h)
  _ ← refuse code.Unsupported c.active
  _ ← refuse code.Busy (is_running h)
  begin_context 0 c.handle c.target c.committed h

-- a frame of a port, which is counted from 1: what waits at its pipelines becomes current, and then its scene is taken
abbrev pub port_beginning : ℤ → DisplayState → Scene → Beginning
port_beginning p d scene =
    record { kind = kind.Port (count_of p); display = d; scene = scene; format = Rgba8Pre; value = count_of p }

-- a frame of a port, where it gives frames
abbrev pub begin_lit : ℤ → DisplayState → Option Scene → State → Result (Option Beginning) Refusal
begin_lit p d None h = Ok None
begin_lit p d (Some scene) h = do
  _ ← refuse code.Limit (all_begun h)
  Ok (Some (port_beginning p d scene))

abbrev pub begin_port : ℤ → State → Result (Option Beginning) Refusal
begin_port p h = do
  _ ← port p h.display
  _ ← refuse code.Busy (is_running h)
  begin_lit p (begun_display (count_of p) h.display) (port_scene (count_of p) (begun_display (count_of p) h.display)) h

-- a frame begins, and its Job is answered
abbrev pub start : Beginning → State → State × Reply
start b h = (with_job (job_of b h) (record h { display = b.display }), gives_job b.value (job_of b h))

-- what a call that begins a frame leaves and answers; this register takes a refusal
abbrev pub started : Register → State → Result (Option Beginning) Refusal → State × Reply
started recorder h (Ok None) = (h, bare (done 0))
started recorder h (Ok (Some b)) = start b h
started recorder h (Err r) = (offered recorder r.code h, bare (refused r))

-- the end of a frame

abbrev pub same_kind : JobKind → JobKind → Bool
same_kind (kind.Context handle target) (kind.Context other into) = (handle == other) && (target == into)
same_kind (kind.Port p) (kind.Port q) = p == q
same_kind _ _ = false

abbrev pub has_shape : Option Bitmap → Content → Bool
has_shape None c = false
has_shape (Some image) c = same_size image.size c.size && same_format image.format c.format

-- a Job has the number and the shape of the running frame
abbrev pub is_of_frame : Job → Running → Bool
is_of_frame job f =
    (job.number == f.number) && same_kind job.kind f.kind && same_size job.image.size f.size
    && same_format job.image.format f.format && (length job.contents == length f.contents)
    && list_all (λ c. has_shape (image_of c.stream job.contents) c) f.contents

abbrev pub home_if : Option Bitmap → KeptStream → KeptStream
home_if None s = s
home_if (Some image) s = record s { buffers = returned image s.buffers }

-- the contents are read images again
abbrev pub brought_home : Images → List KeptStream → List KeptStream
brought_home contents streams = map (λ s. home_if (image_of s.number contents) s) streams

-- the streams with what a frame drew: a context's target gets the image
abbrev pub delivered : JobKind → Bitmap → List KeptStream → List KeptStream
delivered (kind.Context handle target) image streams = change_stream target (posted image) streams
delivered (kind.Port port) image streams = streams

abbrev pub end_frame : Job → State → State
end_frame job h = record h { streams = delivered job.kind job.image (brought_home job.contents h.streams); frame = None }

-- the end of the running frame; a Job that is not its own comes back
abbrev pub end : Job → State → State × Reply
end job h = of_frame h.frame
  where
    back : State × Reply
    back = (h, gives_back_job job)

    of_frame : Option Running → State × Reply
    of_frame None = back
    of_frame (Some f) = if is_of_frame job f then (end_frame job h, bare (done 0)) else back
