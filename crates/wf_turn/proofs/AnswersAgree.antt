-- The answer of the machine and that of the plain machine come to the same, once the Job is painted.
use Rattle.wf_turn.proofs.Common.{◌≡◌, ◌∙◌, ℕ, ◌+◌, Bool, true, false, List, Option, Some, None, refl, ap, Format, Scene}
use Rattle.wf_turn.proofs.Common.{Job, JobKind, Payload, Reply, is_ok_code, Frame, SamePayload, Images, Line, Verb, Phase, Stage, Program}
use Rattle.wf_turn.proofs.Common.{first_line, given_canvas, issued, kept_first, painted_job, line_done, ticking, took, took_at, took_canvas}
use Rattle.wf_turn.proofs.Common.{took_first, took_frame, took_job, took_phase, worked, frames_of, shown}
use Rattle.wf_calls.specs.declared.call.JobKind.TheVariants as kind
use Rattle.wf_calls.specs.declared.reply.Payload.TheVariants as payload
use Rattle.wf_machine.specs.Object.{SameImage, SameJob}
use Rattle.wf_model.specs.Picture.{picture}
use Rattle.wf_script.specs.declared.line.Verb.TheVariants as verb
use Rattle.wf_turn.specs.declared.stage.Phase.TheVariants as phase
use Rattle.wf_turn.specs.declared.stage.Stage.TheVariants as stage
use Rattle.wf_turn.specs.Program.{kept_canvas, kept_job}

-- what a call carried out is no longer asked for
pub took_issued : (p : Program) (reply : Reply) → took (issued p) reply ≡ took p reply
took_issued p reply = of_line (first_line p) refl
  where
    of_verb : (l : Line) (v : Verb) → took_first (record p { canvas = kept_first v p.canvas }) (record l { verb = v }) reply
        ≡ took_first p (record l { verb = v }) reply
    of_verb l verb.Post = refl
    of_verb l verb.Discard = refl
    of_verb l _ = refl

    of_stage : (l : Line) (s : Stage)
        → took_at (record p { canvas = kept_canvas (Some l) s p.canvas; job = kept_job (Some l) s p.job }) l reply s ≡ took_at p l reply s
    of_stage l stage.Fresh = of_verb l l.verb
    of_stage l stage.Posting = refl
    of_stage l (stage.Ticking m) = refl
    of_stage l (stage.Ending m) = refl

    of_line : (o : Option Line) → first_line p ≡ o → took (issued p) reply ≡ took p reply
    of_line None none = rw none refl
    of_line (Some l) is = rw is (of_stage l p.stage)

-- a Job comes to the same picture, whatever its image held
same_work : (is_new : Bool) (wanted job : Job) → SameJob is_new wanted job → painted_job job ≡ painted_job wanted
same_work is_new wanted job same =
    let of : ℕ → JobKind → Scene → Images → Format → Job =
    λ n k s c f. record { number = n; kind = k; scene = s; contents = c; image = picture s c f } in
    ap (λ n. of n job.kind job.scene job.contents job.image.format) same.number
    ∙ ap (λ k. of wanted.number k job.scene job.contents job.image.format) same.kind
    ∙ ap (λ s. of wanted.number wanted.kind s job.contents job.image.format) same.scene
    ∙ ap (λ c. of wanted.number wanted.kind wanted.scene c job.image.format) same.contents
    ∙ ap (λ f. of wanted.number wanted.kind wanted.scene wanted.contents f) (format is_new wanted.kind same.image)
  where
    format : (b : Bool) (k : JobKind) → SameImage b k wanted.image job.image → job.image.format ≡ wanted.image.format
    format true (kind.Port port) image = image.1
    format _ k image = ap (λ i. i.format) image

-- what a reply is to a program: its value, and its payload up to the image of a Job
pub record IsSame (given wanted : Reply) : Type 0 where
  pub value : given.value ≡ wanted.value
  pub payload : SamePayload (is_ok_code given.code) wanted.payload given.payload

same_canvas : (is_new : Bool) (given wanted : Payload) → SamePayload is_new wanted given → given_canvas given ≡ given_canvas wanted
same_canvas is_new (payload.Job job) (payload.Job wanted) same = refl
same_canvas is_new payload.Nothing (payload.Job wanted) same = refl
same_canvas is_new (payload.Canvas canvas) (payload.Job wanted) same = absurd cc
same_canvas is_new given payload.Nothing same = ap given_canvas same
same_canvas is_new given (payload.Canvas canvas) same = ap given_canvas same

-- a program with its Job painted, and the frame that is shown with it, by the place of the turn that begins it
abbrev pub outcome : Program → Program × (ℕ → List Frame)
outcome p = (worked p, λ begin. frames_of begin p)

same_job : (p : Program) (is_new : Bool) (given wanted : Payload) (l : Option Phase) → SamePayload is_new wanted given
    → outcome (took_job p given l) ≡ outcome (took_job p wanted l)
same_job p is_new (payload.Job job) (payload.Job wanted) l same =
    let of : JobKind → Job → Program
    × (ℕ → List Frame) = λ k j. (record p { job = Some j; unpainted = false; stage = stage.Ending l }, λ begin. shown k p.tick begin j) in
    ap (λ k. of k (painted_job job)) same.kind ∙ ap (of wanted.kind) (same_work is_new wanted job same)
same_job p is_new payload.Nothing (payload.Job wanted) l same = absurd cc
same_job p is_new (payload.Canvas canvas) (payload.Job wanted) l same = absurd cc
same_job p is_new given payload.Nothing l same = ap (λ x. outcome (took_job p x l)) same
same_job p is_new given (payload.Canvas canvas) l same = ap (λ x. outcome (took_job p x l)) same

module _ (p : Program) (given wanted : Reply) (same : IsSame given wanted) where
  canvas_is : given_canvas given.payload ≡ given_canvas wanted.payload
  canvas_is = same_canvas (is_ok_code given.code) given.payload wanted.payload same.payload

  with_canvas : outcome (took_canvas p given.payload) ≡ outcome (took_canvas p wanted.payload)
  with_canvas = ap (λ c. outcome (line_done (record p { canvas = c }) 0)) canvas_is

  same_phase : (l : Phase) → outcome (took_phase p given l) ≡ outcome (took_phase p wanted l)
  same_phase (phase.Contexts asked last) =
      ap (λ v. outcome (took_job p given.payload (Some (phase.Contexts (asked + 1) v)))) same.value
      ∙ same_job p (is_ok_code given.code) given.payload wanted.payload (Some (phase.Contexts (asked + 1) wanted.value)) same.payload
  same_phase (phase.Ports port) =
      same_job p (is_ok_code given.code) given.payload wanted.payload (Some (phase.Ports (port + 1))) same.payload

  same_verb : (l : Line) (v : Verb) → outcome (took_first p (record l { verb = v }) given)
      ≡ outcome (took_first p (record l { verb = v }) wanted)
  same_verb l (verb.Acquire s) = with_canvas
  same_verb l verb.Post = with_canvas
  same_verb l verb.Discard = with_canvas
  same_verb l (verb.Frame s paint) = ap (λ c. outcome (took_frame p paint c)) canvas_is
  same_verb l verb.Tick =
      ap (λ v. outcome (took_job (ticking p) given.payload (Some (phase.Contexts 1 v)))) same.value
      ∙ same_job (ticking p) (is_ok_code given.code) given.payload wanted.payload (Some (phase.Contexts 1 wanted.value)) same.payload
  same_verb l (verb.Compose d c) = same_job p (is_ok_code given.code) given.payload wanted.payload None same.payload
  same_verb l (verb.TryCompose d c) = same_job p (is_ok_code given.code) given.payload wanted.payload None same.payload
  same_verb l _ = ap (λ n. outcome (line_done p n)) same.value

  same_at : (l : Line) (s : Stage) → outcome (took_at p l given s) ≡ outcome (took_at p l wanted s)
  same_at l stage.Fresh = same_verb l l.verb
  same_at l stage.Posting = with_canvas
  same_at l (stage.Ticking m) = same_phase m
  same_at l (stage.Ending m) = refl

  pub same_outcome : outcome (took p given) ≡ outcome (took p wanted)
  same_outcome = of_line (first_line p) refl
    where
      of_line : (o : Option Line) → first_line p ≡ o → outcome (took p given) ≡ outcome (took p wanted)
      of_line None none = rw none refl
      of_line (Some l) is = rw is (same_at l p.stage)
