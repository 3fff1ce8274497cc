-- Which images calls put into a stream, and which frames take out of those that wait in it.
use Rattle.std.specs.Prelude.{ℕ, Bool, false, ◌&&◌, ◌==◌, List, [], ◌∷◌, ◌++◌, take, Option, Some, None, Result, Ok, Err}
use Rattle.std.specs.Prelude.{IsSome, if◌then◌else◌}
use Rattle.wf_words.specs.Keyed.{is_in}
use Rattle.wf_image.specs.Bitmap.{Bitmap}
use Rattle.wf_stream.specs.Buffers.{Buffers}
use Rattle.wf_stream.specs.Streams.{buffers_at, stream_at}
use Rattle.wf_calls.specs.declared.call.Call.{Call}
use Rattle.wf_calls.specs.declared.call.Call.TheVariants as call
use Rattle.wf_calls.specs.declared.call.Job.{Job}
use Rattle.wf_calls.specs.declared.call.JobKind.{JobKind}
use Rattle.wf_calls.specs.declared.call.JobKind.TheVariants as kind
use Rattle.wf_calls.specs.declared.reply.Refusal.{Refusal}
use Rattle.wf_model.specs.Calls.{begin_call}
use Rattle.wf_model.specs.Frames.{Beginning, is_of_frame, scene_streams}
use Rattle.wf_model.specs.Reached.{Called}
use Rattle.wf_model.specs.State.{Running, State}
use Rattle.wf_model.specs.Step.{step}
use Rattle.wf_model.specs.Streams.{is_out_at_client}

-- the images that wait in a stream, the oldest first; none where it is not kept
abbrev pub waiting_in : Option Buffers → List Bitmap
waiting_in None = []
waiting_in (Some b) = b.waiting

abbrev pub waiting_at : ℕ → State → List Bitmap
waiting_at n h = waiting_in (buffers_at n h.streams)

-- what a call puts into a stream: the image that a client posts, or the picture of a context's frame that ends

abbrev pub put_if : Bool → Bitmap → List Bitmap
put_if b image = if b then image ∷ [] else []

abbrev pub draws_into : ℕ → JobKind → Bool
draws_into n (kind.Context handle target) = n == target
draws_into n (kind.Port port) = false

abbrev pub is_running_job : Job → Option Running → Bool
is_running_job job None = false
is_running_job job (Some f) = is_of_frame job f

abbrev pub put_by : ℕ → State → Call → List Bitmap
put_by n h (call.Post canvas) = put_if (is_out_at_client canvas h && (n == canvas.stream)) canvas.image
put_by n h (call.End job) = put_if (is_running_job job h.frame && draws_into n job.kind) job.image
put_by n h _ = []

-- what a call takes out of those that wait: a frame that begins takes the oldest one of each stream that its scene names

abbrev pub begun_streams : Result (Option Beginning) Refusal → List ℕ
begun_streams (Ok None) = []
begun_streams (Ok (Some b)) = scene_streams b.scene
begun_streams (Err r) = []

abbrev pub taken_if : Bool → List Bitmap → List Bitmap
taken_if b images = if b then take 1 images else []

abbrev pub taken_by : ℕ → State → Call → List Bitmap
taken_by n h c = taken_if (is_in n (begun_streams (begin_call c h))) (waiting_at n h)

-- calls one after another

abbrev pub all_put : ℕ → State → List Called → List Bitmap
all_put n h [] = []
all_put n h (c ∷ rest) = put_by n h c.1.0 ++ all_put n (step h c.0 c.1.0 c.1.1).0 rest

abbrev pub all_taken : ℕ → State → List Called → List Bitmap
all_taken n h [] = []
all_taken n h (c ∷ rest) = taken_by n h c.1.0 ++ all_taken n (step h c.0 c.1.0 c.1.1).0 rest

-- a stream is kept after each of the calls
abbrev pub IsKept : ℕ → State → List Called → Type 0
IsKept n h [] = Unit {0}
IsKept n h (c ∷ rest) = IsSome (stream_at n (step h c.0 c.1.0 c.1.1).0.streams) × IsKept n (step h c.0 c.1.0 c.1.1).0 rest
