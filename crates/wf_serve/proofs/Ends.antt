-- The end of a port's frame does not look at the pixels of its Job.
use Rattle.std.proofs.Common.{◌≡◌, ◌∙◌, ℕ, Bool, true, false, [], Option, Some, None, refl}
use Rattle.wf_pixel.specs.declared.Format.{Format}
use Rattle.wf_pixel.specs.declared.Size.{Size}
use Rattle.wf_image.specs.Bitmap.{Bitmap}
use Rattle.wf_calls.specs.declared.call.Job.{Job}
use Rattle.wf_calls.specs.declared.call.JobKind.TheVariants as kind
use Rattle.wf_model.specs.Frames.{is_of_frame}
use Rattle.wf_model.specs.State.{Running, State}
use Rattle.wf_model.specs.Step.{act, step}
use Rattle.wf_serve.specs.Ticks.{ended}

module _ (client : ℕ) (j : Job) (other : Bitmap) (p : ℕ) (port : j.kind ≡ kind.Port p) (size : other.size ≡ j.image.size)
    (format : other.format ≡ j.image.format) where
  abbrev swapped : Job
  swapped = record j { image = other }

  -- a Job is of a frame by the sides and the format of its image
  of_shape : Running → Size → Format → Bool
  of_shape f s t = is_of_frame (record j { image = record { size = s; format = t; bytes = [] } }) f

  same_frame : (f : Running) → is_of_frame swapped f ≡ is_of_frame j f
  unfolding of_shape
  same_frame f = λ i. of_shape f (size i) (format i)

  ends_of : (f : Running) (h : State) (b : Bool) → is_of_frame j f ≡ b
      → ended client (Some swapped) (record h { frame = Some f }) ≡ ended client (Some j) (record h { frame = Some f })
  unfolding step act
  ends_of f h true is = rw (same_frame f ∙ is, is, port) refl
  ends_of f h false is = rw (same_frame f ∙ is, is) refl

  ends_at : (h : State) (o : Option Running)
      → ended client (Some swapped) (record h { frame = o }) ≡ ended client (Some j) (record h { frame = o })
  unfolding step act
  ends_at h None = refl
  ends_at h (Some f) = ends_of f h (is_of_frame j f) refl

  pub same_end : (h : State) → ended client (Some swapped) h ≡ ended client (Some j) h
  same_end h = ends_at h h.frame
