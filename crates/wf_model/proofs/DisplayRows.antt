-- Worked calls of the display: what the plain machine answers, and what its ports show.
use Rattle.std.proofs.Common.{◌≡◌, ℕ, false, ℤ, pos, List, [], ◌∷◌, ◌++◌, map, Option, Some, None, refl}
use Rattle.wf_pixel.specs.declared.Size.{Size}
use Rattle.wf_pixel.specs.declared.Format.TheVariants.{Rgbx8}
use Rattle.wf_image.specs.Bitmap.{Bitmap}
use Rattle.wf_calls.specs.declared.call.Call.{Call}
use Rattle.wf_calls.specs.declared.call.Call.TheVariants as call
use Rattle.wf_calls.specs.declared.call.Job.{Job}
use Rattle.wf_calls.specs.declared.call.StatWord.TheVariants as stat
use Rattle.wf_calls.specs.declared.display.PipeAttr.TheVariants as pipe
use Rattle.wf_calls.specs.declared.display.PortAttr.TheVariants as port
use Rattle.wf_calls.specs.declared.display.Transition.{Transition}
use Rattle.wf_calls.specs.declared.display.Transition.TheVariants.{Now, Vsync}
use Rattle.wf_model.specs.State.{State, opening}
use Rattle.wf_model.specs.Step.{act, step}
use Rattle.wf_model.proofs.FrameRows.{after, answers, four, job_of, one}

abbrev two : Size
two = record { w = 2; h = 1 }

-- one port with a mode of 2 by 1 and one of 1 by 1, whose screen is stream 1, and two pipelines
abbrev opened : State
opened = opening (record { modes = record { items = record { sizes = record { items = two ∷ one ∷ [] } } ∷ [] }; pipes = 2 })

abbrev image : ℕ → Bitmap
image n = record { size = two; format = Rgbx8; bytes = n ∷ n ∷ n ∷ 0 ∷ n ∷ n ∷ n ∷ 0 ∷ [] }

-- streams 2 and 3, of handles 1 and 2, have an image each
abbrev streams : List Call
streams =
    call.StreamNew (pos 2) (pos 1) Rgbx8 (pos 2) ∷ call.StreamNew (pos 2) (pos 1) Rgbx8 (pos 2)
    ∷ call.Acquire 1 ∷ call.Post (record { stream = 2; image = image 1 })
    ∷ call.Acquire 2 ∷ call.Post (record { stream = 3; image = image 2 }) ∷ []

-- pipeline 1 has a source of each, of handles 3 and 4, lies over the whole port, and is bound to port 1 and to a source at a moment
abbrev bound : Transition → List Call
bound moment =
    call.DisplaySource (pos 1) 1 ∷ call.DisplaySource (pos 1) 2
    ∷ call.PipeSet (pos 1) pipe.SrcRect (four (pos 0) (pos 0) (pos 2) (pos 1))
    ∷ call.PipeSet (pos 1) pipe.Dest (four (pos 0) (pos 0) (pos 2) (pos 1))
    ∷ call.PipeBindPort (pos 1) (pos 1) ∷ call.PipeBindSource (pos 1) 3 moment ∷ []

abbrev ready : State
ready = after opened (streams ++ bound Now)

set_up : answers opened (streams ++ bound Now)
    ≡ (0, 1) ∷ (0, 2) ∷ (0, 0) ∷ (0, 0) ∷ (0, 0) ∷ (0, 0) ∷ (0, 3) ∷ (0, 4) ∷ (0, 0) ∷ (0, 0) ∷ (0, 0) ∷ (0, 0) ∷ []
unfolding answers step act
set_up = refl

-- the numbers of the streams whose images come with the Job of port 1
numbers : Option Job → List ℕ
numbers None = []
numbers (Some job) = map (λ c. c.0) job.contents

abbrev contents : State → List ℕ
contents h = numbers (job_of (step h 0 (call.BeginPort (pos 1)) false).1.payload)

-- the size of the image that comes with it
sizes : Option Job → List Size
sizes None = []
sizes (Some job) = job.image.size ∷ []

abbrev sides : State → List Size
sides h = sizes (job_of (step h 0 (call.BeginPort (pos 1)) false).1.payload)

-- a pipeline alone stays with its port, so pipeline 1 breaks rule 4, and nothing of it is taken; the device takes all
alone_it_stays_with_its_port : answers ready (call.CommitPipe (pos 1) ∷ call.PipeGet (pos 1) pipe.Showing (pos 0) ∷ call.CommitDevice
    ∷ call.PipeGet (pos 1) pipe.Showing (pos 0) ∷ [])
    ≡ (11, 20) ∷ (0, 0) ∷ (0, 0) ∷ (0, 1) ∷ []
unfolding answers after step act
alone_it_stays_with_its_port = refl

-- a binding of now is shown from the commit on
abbrev showing : State
showing = after ready (call.CommitDevice ∷ [])

now_is_shown_at_once : contents showing ≡ 2 ∷ []
unfolding after step act job_of numbers
now_is_shown_at_once = refl

-- a binding of vsync waits for the next frame of the port
abbrev waiting : State
waiting = after showing (call.PipeBindSource (pos 1) 4 Vsync ∷ call.CommitPipe (pos 1) ∷ [])

frame_shows_what_waited : contents waiting ≡ 3 ∷ []
unfolding after step act job_of numbers
frame_shows_what_waited = refl

-- until then it keeps its stream beside the one that is shown, and after it nothing waits and the other stream goes
abbrev exchange : Transition → List Call
exchange moment =
    call.StreamDestroy 1 ∷ call.DisplaySourceDestroy 3 ∷ call.PipeBindSource (pos 1) 4 moment ∷ call.CommitPipe (pos 1)
    ∷ call.PipeGet (pos 1) pipe.Pending (pos 0) ∷ call.Stat stat.Streams ∷ []

abbrev shown_again : List Call
shown_again = call.PipeGet (pos 1) pipe.Pending (pos 0) ∷ []

vsync_waits : answers showing (exchange Vsync) ≡ (0, 0) ∷ (0, 0) ∷ (0, 0) ∷ (0, 0) ∷ (0, 1) ∷ (0, 3) ∷ []
unfolding answers after step act
vsync_waits = refl

vsync_is_over : answers (after showing (exchange Vsync)) (call.BeginPort (pos 1) ∷ shown_again) ≡ (0, 1) ∷ (0, 0) ∷ []
unfolding answers after step act
vsync_is_over = refl

now_does_not_wait : answers showing (exchange Now) ≡ (0, 0) ∷ (0, 0) ∷ (0, 0) ∷ (0, 0) ∷ (0, 0) ∷ (0, 2) ∷ []
unfolding answers after step act
now_does_not_wait = refl

-- the device takes every pipeline or none: the second asks for a source that is no more
abbrev half : List Call
half =
    call.DisplaySource (pos 2) 2 ∷ call.PipeBindSource (pos 2) 5 Now ∷ call.DisplaySourceDestroy 5
    ∷ call.PipeSet (pos 1) pipe.Alpha (four (pos 7) (pos 0) (pos 0) (pos 0)) ∷ call.CommitDevice
    ∷ call.PipeGet (pos 1) pipe.Showing (pos 0) ∷ call.DisplayError ∷ []

nothing_half_done : answers ready half ≡ (0, 5) ∷ (0, 0) ∷ (0, 0) ∷ (0, 0) ∷ (11, 33) ∷ (0, 0) ∷ (0, 11) ∷ []
unfolding answers after step act
nothing_half_done = refl

-- a mode is shown by its port from the port's commit on
abbrev other_mode : List Call
other_mode = call.PortSet (pos 1) port.Mode (four (pos 2) (pos 0) (pos 0) (pos 0)) ∷ []

mode_waits_for_its_commit : sides (after opened other_mode) ≡ two ∷ []
unfolding after step act job_of sizes
mode_waits_for_its_commit = refl

mode_is_committed : sides (after opened (other_mode ++ call.CommitPort (pos 1) ∷ [])) ≡ one ∷ []
unfolding after step act job_of sizes
mode_is_committed = refl

-- power counts from the port's commit on, and a display that is attached or detached at once
abbrev off : List Call
off = call.PortSet (pos 1) port.Power (four (pos 0) (pos 0) (pos 0) (pos 0)) ∷ []

power_waits_for_its_commit : answers (after opened off) (call.BeginPort (pos 1) ∷ []) ≡ (0, 1) ∷ []
unfolding answers after step act
power_waits_for_its_commit = refl

off_it_gives_no_frame : answers (after opened off) (call.CommitPort (pos 1) ∷ call.BeginPort (pos 1) ∷ []) ≡ (0, 0) ∷ (0, 0) ∷ []
unfolding answers after step act
off_it_gives_no_frame = refl

detached_it_gives_no_frame : answers opened (call.Attach (pos 1) (pos 0) ∷ call.BeginPort (pos 1) ∷ call.Attach (pos 1) (pos 1)
    ∷ call.BeginPort (pos 1) ∷ [])
    ≡ (0, 0) ∷ (0, 0) ∷ (0, 0) ∷ (0, 1) ∷ []
unfolding answers after step act
detached_it_gives_no_frame = refl

-- a port that was not declared is none
undeclared_port : answers opened (call.Attach (pos 2) (pos 0) ∷ call.BeginPort (pos 2) ∷ []) ≡ (10, 0) ∷ (10, 0) ∷ []
unfolding answers after step act
undeclared_port = refl
