-- What the machine's step answers is what the machine answered.
use Rattle.std.proofs.Common.{◌≡◌, ◌∙◌, ℕ, Bool, true, false, Option, Some, None, refl, sym, ap, subst}
use Rattle.std.specs.Prelude.{option_map}
use Rattle.wf_calls.specs.Codes.{code_number, is_ok_code, is_out_of_memory}
use Rattle.wf_calls.specs.Creations.{is_creation}
use Rattle.wf_calls.specs.Parts.{is_begin}
use Rattle.wf_calls.specs.Replies.{bare, canvas_payload, given_canvas, job_payload, with_canvas, with_job}
use Rattle.wf_calls.specs.declared.call.Call.{Call}
use Rattle.wf_calls.specs.declared.call.Call.TheVariants as call
use Rattle.wf_calls.specs.declared.call.Job.{Job}
use Rattle.wf_calls.specs.declared.call.JobKind.{JobKind}
use Rattle.wf_calls.specs.declared.call.JobKind.TheVariants as kind
use Rattle.wf_calls.specs.declared.reply.Answer.{Answer}
use Rattle.wf_calls.specs.declared.reply.Payload.{Payload}
use Rattle.wf_calls.specs.declared.reply.Payload.TheVariants as payload
use Rattle.wf_calls.specs.declared.reply.Reply.{Reply}
use Rattle.wf_host.specs.Made.{told_of}
use Rattle.wf_image.specs.Bitmap.{Bitmap}
use Rattle.wf_image.specs.declared.canvas.Canvas.{Canvas}
use Rattle.wf_machine.specs.Object.{IsAnswer, IsStep, SameImage, SameJob, SamePayload}
use Rattle.wf_model.specs.Picture.{painted_job, picture}
use Rattle.wf_model.specs.State.{State}
use Rattle.wf_model.specs.Step.{step, unmarked_step}
use Rattle.wf_wire.specs.Answers.{begun, job_in}

-- with no Job the reply is the wanted one

nothing : (n : Bool) (wanted : Payload) → SamePayload n wanted payload.Nothing → wanted ≡ payload.Nothing
nothing n payload.Nothing same = refl
nothing n (payload.Canvas canvas) same = sym same
nothing n (payload.Job job) same = sym same

a_canvas : (canvas : Canvas) (n : Bool) (wanted : Payload) → SamePayload n wanted (payload.Canvas canvas) → wanted ≡ payload.Canvas canvas
a_canvas canvas n payload.Nothing same = sym same
a_canvas canvas n (payload.Canvas other) same = sym same
a_canvas canvas n (payload.Job job) same = sym same

at_most_a_canvas : (o : Option Canvas) (n : Bool) (wanted : Payload) → SamePayload n wanted (canvas_payload o) → wanted ≡ canvas_payload o
at_most_a_canvas None n wanted same = nothing n wanted same
at_most_a_canvas (Some canvas) n wanted same = a_canvas canvas n wanted same

pub bare_is : (wanted : Reply) (a : Answer) → IsAnswer wanted (bare a) → wanted ≡ bare a
bare_is wanted a is = λ i. record {
  code = sym is.code i;
  value = sym is.value i;
  payload = nothing (is_ok_code a.code) wanted.payload is.payload i;
}

pub canvas_is : (wanted : Reply) (x : Answer × Option Canvas) → IsAnswer wanted (with_canvas x) → wanted ≡ with_canvas x
canvas_is wanted x is = λ i. record {
  code = sym is.code i;
  value = sym is.value i;
  payload = at_most_a_canvas x.1 (is_ok_code x.0.code) wanted.payload is.payload i;
}

-- the canvas that comes with a reply
pub given_back : (o : Option Canvas) → given_canvas (canvas_payload o) ≡ o
given_back None = refl
given_back (Some canvas) = refl

-- a Job has the wanted picture

same_format : (n : Bool) (k : JobKind) (wanted image : Bitmap) → SameImage n k wanted image → image.format ≡ wanted.format
same_format true (kind.Context handle target) wanted image same = ap (λ (b : Bitmap). b.format) same
same_format false (kind.Context handle target) wanted image same = ap (λ (b : Bitmap). b.format) same
same_format true (kind.Port port) wanted image same = same.1
same_format false (kind.Port port) wanted image same = ap (λ (b : Bitmap). b.format) same

same_picture : (n : Bool) (wanted job : Job) → SameJob n wanted job → painted_job job ≡ painted_job wanted
same_picture n wanted job same =
    let format : job.image.format ≡ wanted.image.format = same_format n wanted.kind wanted.image job.image same.image in λ i. record {
      number = same.number i;
      kind = same.kind i;
      scene = same.scene i;
      contents = same.contents i;
      image = picture (same.scene i) (same.contents i) (format i);
    }

-- the frame that began

pictured_is : (b : Bool) (wanted : Payload) (o : Option Job) → SamePayload b wanted (job_payload o)
    → option_map painted_job (job_in b (job_payload o)) ≡ option_map painted_job (job_in b wanted)
pictured_is true payload.Nothing None same = refl
pictured_is true payload.Nothing (Some job) same = absurd cc
pictured_is true (payload.Canvas canvas) None same = refl
pictured_is true (payload.Canvas canvas) (Some job) same = absurd cc
pictured_is true (payload.Job wanted) None same = absurd cc
pictured_is true (payload.Job wanted) (Some job) same = ap Some (same_picture true wanted job same)
pictured_is false wanted o same = ap (option_map painted_job) (none o ∙ sym (never wanted))
  where
    never : (p : Payload) → job_in false p ≡ None
    never payload.Nothing = refl
    never (payload.Canvas canvas) = refl
    never (payload.Job job) = refl

    none : (o : Option Job) → job_in false (job_payload o) ≡ None
    none None = refl
    none (Some job) = refl

-- calls that begin and end frames make nothing, so want of memory changes nothing
begins_make_nothing : (c : Call) → is_begin c ≡ true → is_creation c ≡ false
begins_make_nothing (call.BeginNext after) begins = refl
begins_make_nothing (call.BeginPort port) begins = refl
begins_make_nothing (call.BeginContext device context) begins = refl
begins_make_nothing _ begins = absurd cc

module _ (h left : State) (client : ℕ) (c : Call) where
  -- the step by which a reply came
  pub stepped : (reply : Reply) → IsStep h client c left reply → (step h client c (is_out_of_memory reply.code)).1 ≡ reply
      → step h client c (is_out_of_memory reply.code) ≡ (left, reply)
  stepped reply is same = λ i. (sym is.after_is i, same i)

  -- and where nothing is made
  pub left_unmarked : (reply : Reply) → is_creation c ≡ false → IsStep h client c left reply → left ≡ (step h client c false).0
  left_unmarked reply nothing is =
      is.after_is ∙ ap (λ (x : State × Reply). x.0) (unmarked_step h client c (is_out_of_memory reply.code) false nothing)

  module _ (a : Answer) (o : Option Job) (begins : is_begin c ≡ true) (is : IsStep h client c left (with_job a o)) where
    abbrev pub wanted : Reply
    wanted = (step h client c false).1

    answers : IsAnswer (step h client c false).1 (with_job a o)
    answers =
        subst (λ (x : State × Reply). IsAnswer x.1 (with_job a o))
        (unmarked_step h client c (is_out_of_memory a.code) false (begins_make_nothing c begins)) is.answer

    pub begun_left : left ≡ (step h client c false).0
    begun_left = left_unmarked (with_job a o) (begins_make_nothing c begins) is

    pub begun_told : told_of (bare a) ≡ told_of wanted
    begun_told = λ i. record { code = code_number (answers.code i); value = answers.value i }

    begun_picture : option_map painted_job (job_in (is_ok_code a.code) (job_payload o)) ≡ option_map painted_job (begun wanted)
    begun_picture =
        pictured_is (is_ok_code a.code) wanted.payload o answers.payload
        ∙ ap (λ k. option_map painted_job (job_in (is_ok_code k) wanted.payload)) answers.code

    -- the Job that came with Ok is painted, and where the answer is no Ok there is none
    pub begun_painted : is_ok_code a.code ≡ true → option_map painted_job o ≡ option_map painted_job (begun wanted)
    begun_painted ok =
        ap (option_map painted_job) (with_ok o) ∙ ap (λ b. option_map painted_job (job_in b (job_payload o))) (sym ok) ∙ begun_picture
      where
        with_ok : (o : Option Job) → o ≡ job_in true (job_payload o)
        with_ok None = refl
        with_ok (Some job) = refl

    pub begun_none : is_ok_code a.code ≡ false → None ≡ option_map painted_job (begun wanted)
    begun_none refused =
        ap (option_map painted_job) (without_ok o) ∙ ap (λ b. option_map painted_job (job_in b (job_payload o))) (sym refused)
        ∙ begun_picture
      where
        without_ok : (o : Option Job) → None ≡ job_in false (job_payload o)
        without_ok None = refl
        without_ok (Some job) = refl
