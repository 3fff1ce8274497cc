-- The Job that a program takes can be painted.
use Rattle.wf_turn.proofs.Common.{◌≡◌, ◌∙◌, ℕ, Bool, true, false, Option, None, Some, refl, ap, subst, IsTrue, IfSome, Call, Job, Payload}
use Rattle.wf_turn.proofs.Common.{Reply, is_ok_code, is_out_of_memory, by_begin, IsPaintable, SamePayload, is_begin, State, act}
use Rattle.wf_turn.proofs.Common.{step, Phase}
use Rattle.wf_turn.proofs.Common.{Wanted, Program, go_on, line_done, next, took, took_canvas, given_canvas, took_frame, IsWork, Paint}
use Rattle.wf_turn.proofs.Common.{Canvas}
use Rattle.wf_calls.specs.declared.reply.Payload.TheVariants as payload
use Rattle.wf_calls.specs.declared.code.Code.TheVariants as code
use Rattle.wf_machine.specs.Object.{CarriesPaintable, IsAnswer, MayAnswer}
use Rattle.wf_turn.proofs.JobThatIsHeld.{done_holds, on_holds, took_holds}

-- an answer that may carry a Job carries one only with Ok
abbrev JobIsOk : Reply → Type 0
JobIsOk wanted = (job : Job) → wanted.payload ≡ payload.Job job → wanted.code ≡ code.Ok

-- a Job that comes with an answer as wanted comes with one that is wanted
wanted_job : (is_new : Bool) (wanted : Payload) (job : Job) → SamePayload is_new wanted (payload.Job job) → (j : Job)
    × (wanted ≡ payload.Job j)
wanted_job is_new (payload.Job j) job same = (j, refl)
wanted_job is_new payload.Nothing job same = absurd cc
wanted_job is_new (payload.Canvas canvas) job same = absurd cc

carried : (wanted given : Reply) (job : Job) → JobIsOk wanted → IsAnswer wanted given → given.payload ≡ payload.Job job → IsPaintable job
carried wanted given job ok answer has =
    let same : SamePayload (is_ok_code given.code) wanted.payload (payload.Job job) =
    subst (λ x. SamePayload (is_ok_code given.code) wanted.payload x) has answer.payload in
    let j = wanted_job (is_ok_code given.code) wanted.payload job same in
    let is : is_ok_code given.code ≡ true = ap is_ok_code (answer.code ∙ ok j.0 j.1) in
    let carries : CarriesPaintable (is_ok_code given.code) (payload.Job job) =
    subst (λ x. CarriesPaintable (is_ok_code given.code) x) has answer.paintable in
    rw is at carries

-- a Job that comes with the answer to a call that begins a frame can be painted
begun_paintable : (m : Bool) (h : State) (client : ℕ) (c : Call) (reply : Reply) (job : Job) → is_begin c ≡ true
    → IsAnswer (step h client c m).1 reply → reply.payload ≡ payload.Job job → IsPaintable job
unfolding step
begun_paintable m h client c reply job begins may has =
    carried (act h c m).1 reply job
    (by_begin (λ x. JobIsOk x.1) h c m begins (λ register code a j has. absurd cc) (λ b is j has. refl)) may has

-- no Job is left to paint by what goes on without one
abbrev pub IsPainted : Option Job → Bool → Type 0
IsPainted job unpainted = unpainted ≡ false

pub done_painted : (p : Program) → p.unpainted ≡ false → (v : ℕ) → (line_done p v).unpainted ≡ false
done_painted p painted v = done_holds IsPainted p v painted

pub on_painted : (p : Program) → p.unpainted ≡ false → (l : Option Phase) → (go_on p l).unpainted ≡ false
on_painted p painted l = on_holds IsPainted p l painted

-- a Job that is not painted yet can be
abbrev CanBePainted : Option Job → Bool → Type 0
CanBePainted job unpainted = IsTrue unpainted → IfSome job IsPaintable

pub took_marked_work : (m : Bool) (p : Program) (h : State) (client : ℕ) (w : Wanted) (reply : Reply) → p.unpainted ≡ false
    → IsAnswer (step h client w.call m).1 reply → next p ≡ Some w → IsWork (took p reply)
took_marked_work m p h client w reply painted may asks =
    took_holds CanBePainted (λ unpainted. tt) p w reply (λ unpainted. absurd (cc (painted, unpainted)))
    (λ begins job has unpainted. begun_paintable m h client w.call reply job begins may has) asks

pub took_work : (p : Program) (h : State) (client : ℕ) (w : Wanted) (reply : Reply) → p.unpainted ≡ false → MayAnswer h client w.call reply
    → next p ≡ Some w → IsWork (took p reply)
took_work p h client w reply painted may asks = took_marked_work (is_out_of_memory reply.code) p h client w reply painted may asks

pub canvas_painted : (p : Program) → p.unpainted ≡ false → (reply : Reply) → (took_canvas p reply.payload).unpainted ≡ false
canvas_painted p painted reply = done_painted (record p { canvas = given_canvas reply.payload }) painted 0

pub frame_painted : (p : Program) → p.unpainted ≡ false → (paint : Paint) (o : Option Canvas) → (took_frame p paint o).unpainted ≡ false
frame_painted p painted paint None = done_painted p painted 0
frame_painted p painted paint (Some canvas) = painted
