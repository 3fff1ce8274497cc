-- Worked frames and lives of streams: what the plain machine answers and keeps.
use Rattle.std.proofs.Common.{◌≡◌, ℕ, zero, suc, false, ℤ, pos, List, [], ◌∷◌, ◌++◌, Option, Some, None, refl}
use Rattle.wf_pixel.specs.declared.Size.{Size}
use Rattle.wf_pixel.specs.declared.Format.TheVariants.{Rgba8}
use Rattle.wf_image.specs.Bitmap.{Bitmap}
use Rattle.wf_scene.specs.declared.attributes.ElementAttr.TheVariants as element
use Rattle.wf_calls.specs.Codes.{code_number}
use Rattle.wf_calls.specs.declared.call.Call.{Call}
use Rattle.wf_calls.specs.declared.call.Call.TheVariants as call
use Rattle.wf_calls.specs.declared.call.Job.{Job}
use Rattle.wf_calls.specs.declared.reply.Payload.{Payload}
use Rattle.wf_calls.specs.declared.reply.Payload.TheVariants as payload
use Rattle.wf_calls.specs.declared.reply.Reply.{Reply}
use Rattle.wf_calls.specs.declared.call.StatWord.TheVariants as stat
use Rattle.wf_model.specs.Names.{names}
use Rattle.wf_model.specs.State.{State, opening}
use Rattle.wf_model.specs.Step.{act, step}

abbrev pub one : Size
one = record { w = 1; h = 1 }

-- one port of 1 by 1, whose screen is stream 1
abbrev opened : State
opened = opening (record { modes = record { items = record { sizes = record { items = one ∷ [] } } ∷ [] }; pipes = 0 })

-- what calls of one client leave, one after another
unfoldable pub after : State → List Call → State
after h [] = h
after h (c ∷ rest) = after (step h 0 c false).0 rest

-- their codes and values
unfoldable pub answers : State → List Call → List (ℕ × ℕ)
answers h [] = []
answers h (c ∷ rest) =
    let done : State × Reply = step h 0 c false in
    (code_number done.1.code, done.1.value) ∷ answers done.0 rest

abbrev pub four : ℤ → ℤ → ℤ → ℤ → List ℤ
four a b c d = a ∷ b ∷ c ∷ d ∷ []

-- device 1 with context 2 of the port, and stream 3 (which is numbered 2), made by this call, that element 5 shows through source 4
abbrev setup_with : Call → List Call
setup_with makes =
    call.DeviceNew ∷ call.ScreenContext 1 (pos 1) ∷ makes ∷ call.SourceNew 1 2 3
    ∷ call.ElementNew 1 2
    ∷ call.ElementSet 1 5 element.Source (four (pos 4) (pos 0) (pos 0) (pos 0))
    ∷ call.ElementSet 1 5 element.SrcRect (four (pos 0) (pos 0) (pos 1) (pos 1))
    ∷ call.ElementSet 1 5 element.Dest (four (pos 0) (pos 0) (pos 1) (pos 1))
    ∷ call.ElementInsert 1 5 0 ∷ call.Commit 1 2 ∷ call.Activate 1 2 ∷ []

abbrev setup : List Call
setup = setup_with (call.StreamNew (pos 1) (pos 1) Rgba8 (pos 2))

set_up : answers opened setup ≡ (0, 1) ∷ (0, 2) ∷ (0, 3) ∷ (0, 4) ∷ (0, 5) ∷ (0, 0) ∷ (0, 0) ∷ (0, 0) ∷ (0, 0) ∷ (0, 0) ∷ (0, 0) ∷ []
unfolding answers step act
set_up = refl

-- an image of the stream
abbrev grey : ℕ → Bitmap
grey n = record { size = one; format = Rgba8; bytes = n ∷ n ∷ n ∷ n ∷ [] }

abbrev posted : ℕ → List Call
posted n = call.Acquire 3 ∷ call.Post (record { stream = 2; image = grey n }) ∷ []

abbrev shown : State
shown = after (after opened setup) (posted 9)

unfoldable pub job_of : Payload → Option Job
job_of (payload.Job job) = Some job
job_of _ = None

-- the Job that comes with the next context's frame
abbrev begun_job : State → Option Job
begun_job h = job_of (step h 0 (call.BeginNext 0) false).1.payload

contents_of : Option Job → List (ℕ × Bitmap)
contents_of None = []
contents_of (Some job) = job.contents

-- a frame has the image that was posted to its stream, and that is away until it ends
frame_has_the_next_image : contents_of (begun_job shown) ≡ (2, grey 9) ∷ []
unfolding after step act job_of contents_of
frame_has_the_next_image = refl

-- while it runs no other begins, and what is posted is not in it
abbrev running : State
running = after shown (call.BeginNext 0 ∷ posted 7)

runs_alone : answers running (call.BeginNext 0 ∷ call.BeginPort (pos 1) ∷ call.BeginNext 2 ∷ []) ≡ (7, 0) ∷ (7, 0) ∷ (7, 0) ∷ []
unfolding answers after step act
runs_alone = refl

-- the stream has four names then: its handle, its source, the layer, and the running frame's contents
names_while_running : names running 2 ≡ 2 ∷ 2 ∷ 2 ∷ 2 ∷ []
unfolding after step act
names_while_running = refl

-- its handle, its source and its context are destroyed within the frame, which keeps it and the screen
abbrev destroyed : List Call
destroyed = call.StreamDestroy 3 ∷ call.DeviceDestroy 1 ∷ call.GetError 1 ∷ call.Acquire 3 ∷ call.Stat stat.Streams ∷ []

kept_by_the_frame : answers running destroyed ≡ (0, 0) ∷ (0, 0) ∷ (9, 0) ∷ (10, 0) ∷ (0, 2) ∷ []
unfolding answers after step act
kept_by_the_frame = refl

-- a stream is kept while a committed layer names it, and no longer
abbrev life : List Call
life =
    call.SourceDestroy 1 4 ∷ call.StreamDestroy 3 ∷ call.StreamDestroy 3 ∷ call.Commit 1 2 ∷ call.Stat stat.Streams
    ∷ call.ElementRemove 1 5 ∷ call.Stat stat.Streams ∷ call.Commit 1 2 ∷ call.Stat stat.Streams ∷ []

kept_by_the_layer : answers shown life ≡ (0, 0) ∷ (0, 0) ∷ (10, 0) ∷ (11, 17) ∷ (0, 2) ∷ (0, 0) ∷ (0, 2) ∷ (0, 0) ∷ (0, 1) ∷ []
unfolding answers after step act
kept_by_the_layer = refl

-- a queue of depth 2 in place of the plain stream

abbrev queued : State
queued = after opened (setup_with (call.StreamQueue (pos 1) (pos 1) Rgba8 (pos 2)))

-- a third image finds no room
queue_is_full : answers queued (posted 1 ++ posted 2 ++ call.Acquire 3 ∷ []) ≡ (0, 0) ∷ (0, 0) ∷ (0, 0) ∷ (0, 0) ∷ (8, 0) ∷ []
unfolding answers after step act
queue_is_full = refl

unfoldable end_of : Option Job → State → State
end_of None h = h
end_of (Some job) h = (step h 0 (call.End job) false).0

-- the state once the next context's frame began and ended
abbrev framed : State → State
framed h = end_of (begun_job h) (step h 0 (call.BeginNext 0) false).0

-- the state a number of frames later
unfoldable frames_later : ℕ → State → State
frames_later zero h = h
frames_later (suc n) h = frames_later n (framed h)

abbrev nth_contents : ℕ → List (ℕ × Bitmap)
nth_contents n = contents_of (begun_job (frames_later n (after queued (posted 1 ++ posted 2))))

-- each frame takes the next image, and the last one is shown again where none waits
frames_take_each_image : (nth_contents 0 ≡ (2, grey 1) ∷ []) × (nth_contents 1 ≡ (2, grey 2) ∷ []) × (nth_contents 2 ≡ (2, grey 2) ∷ [])
unfolding after step act job_of contents_of end_of frames_later
frames_take_each_image = (refl, refl, refl)

-- the depth of a queue is from 1 to 8
depths_have_a_range : answers opened (call.StreamQueue (pos 1) (pos 1) Rgba8 (pos 8) ∷ call.StreamQueue (pos 1) (pos 1) Rgba8 (pos 9)
    ∷ call.StreamQueue (pos 1) (pos 1) Rgba8 (pos 0) ∷ [])
    ≡ (0, 1) ∷ (2, 0) ∷ (2, 0) ∷ []
unfolding answers step act
depths_have_a_range = refl
