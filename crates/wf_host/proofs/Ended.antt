-- What is held of a frame after its end: nothing, or what was held, where the end is refused.
use Rattle.std.proofs.Common.{◌≡◌, ℕ, Bool, true, false, Option, Some, None, refl, ap, subst, ◌⊎◌, inl, inr}
use Rattle.std.specs.Prelude.{option_map}
use Rattle.wf_calls.specs.declared.call.Call.TheVariants as call
use Rattle.wf_calls.specs.declared.call.Job.{Job}
use Rattle.wf_calls.specs.declared.reply.Answer.{Answer}
use Rattle.wf_calls.specs.declared.reply.Payload.TheVariants as payload
use Rattle.wf_calls.specs.declared.reply.Reply.{Reply}
use Rattle.wf_calls.specs.Codes.{is_ok_code}
use Rattle.wf_calls.specs.Replies.{bare, done, gives_back_job, job_payload, with_job}
use Rattle.wf_machine.specs.Object.{IsAnswer, MayAnswer, SameJob, SamePayload}
use Rattle.wf_model.specs.Frames.{end, is_of_frame}
use Rattle.wf_model.specs.Picture.{painted_job}
use Rattle.wf_model.specs.State.{Running, State}
use Rattle.wf_model.specs.Step.{act, step}

-- an end takes the Job, or gives it back
abbrev IsEndOf : Job → Reply → Type 0
IsEndOf job reply = (reply ≡ bare (done 0)) ⊎ (reply ≡ gives_back_job job)

end_is : (job : Job) (h : State) → IsEndOf job (end job h).1
end_is job h = of_frame h.frame refl
  where
    of_frame : (o : Option Running) → h.frame ≡ o → IsEndOf job (end job h).1
    of_frame None at = inr (rw at refl)
    of_frame (Some f) at = of_test f at (is_of_frame job f) refl
      where
        of_test : (f : Running) → h.frame ≡ Some f → (b : Bool) → is_of_frame job f ≡ b → IsEndOf job (end job h).1
        of_test f at true is = inl (rw (at, is) refl)
        of_test f at false is = inr (rw (at, is) refl)

end_step : (job : Job) (h : State) (client : ℕ) (m : Bool) → IsEndOf job (step h client (call.End job) m).1
unfolding step act
end_step job h client m = end_is job h

-- a Job that is wanted back is the same
same_job : (wanted job : Job) → SameJob false wanted job → job ≡ wanted
same_job wanted job same = λ i. record {
  number = same.number i;
  kind = same.kind i;
  scene = same.scene i;
  contents = same.contents i;
  image = same.image i;
}

module _ (job : Job) (answer : Answer) (now : Option Job) where
  taken : IsAnswer (bare (done 0)) (with_job answer now) → now ≡ None
  taken is = of_now now is.payload
    where
      of_now : (o : Option Job) → SamePayload (is_ok_code answer.code) payload.Nothing (job_payload o) → o ≡ None
      of_now None same = refl
      of_now (Some j) same = absurd cc

  back : IsAnswer (gives_back_job job) (with_job answer now) → now ≡ Some job
  back is = of_now now (ap is_ok_code is.code) is.payload
    where
      of_now : (o : Option Job) → is_ok_code answer.code ≡ false
          → SamePayload (is_ok_code answer.code) (payload.Job job) (job_payload o) → o ≡ Some job
      of_now None code same = absurd cc
      of_now (Some j) code same = ap Some (same_job job j (subst (λ (b : Bool). SameJob b job j) code same))

  -- what is held then is painted still
  pub stays_painted : (h : State) (client : ℕ) → MayAnswer h client (call.End job) (with_job answer now) → painted_job job ≡ job
      → option_map painted_job now ≡ now
  stays_painted h client may painted = of_end (end_step job h client _) may
    where
      of_end : {wanted : Reply} → IsEndOf job wanted → IsAnswer wanted (with_job answer now) → option_map painted_job now ≡ now
      of_end (inl is) answers =
          let none : now ≡ None = taken (subst (λ (r : Reply). IsAnswer r (with_job answer now)) is answers) in rw none refl
      of_end (inr is) answers =
          let same : now ≡ Some job = back (subst (λ (r : Reply). IsAnswer r (with_job answer now)) is answers) in
          rw same (ap Some painted)
