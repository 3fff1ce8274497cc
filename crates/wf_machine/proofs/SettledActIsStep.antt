-- What is done, where streams without a name are dropped, is the step.
use Rattle.wf_machine.proofs.Common.{◌≡◌, ℕ, Bool, true, false, not, refl, sym, ap, subst, ◌∙◌, Call, Reply, Code, is_ok_code}
use Rattle.wf_machine.proofs.Common.{is_out_of_memory, Register, no_register, of_device, of_display, register_of, settle, settle_if}
use Rattle.wf_machine.proofs.Common.{offered}
use Rattle.wf_machine.proofs.Common.{State, act, step}
use Rattle.wf_machine.proofs.Common.{IsAct, IsSettled, IsStep, IsTrue, Option, None, Some, bare}
use Rattle.std.specs.Option.{IfNone, IfSome, IsSome, MatchOption}
use Rattle.wf_calls.specs.Parts.{carries, part_of}
use Rattle.wf_calls.specs.declared.call.Call.TheVariants as call
use Rattle.wf_calls.specs.declared.call.Job.{Job}
use Rattle.wf_calls.specs.declared.reply.Answer.{Answer}
use Rattle.wf_calls.specs.Creations.{is_creation}
use Rattle.wf_model.specs.Effects.{refused_leaves}
use Rattle.wf_model.specs.Step.{unmarked_step}
use Rattle.wf_machine.specs.Object.{IsAnswer, IsMarkedAct, IsMarkedStep, IsRefusal, MayAnswer, after}
use Rattle.wf_machine.proofs.DropsKeepInvariant.{settled}

not_ok : (b : Bool) → not b ≡ true → b ≡ false
not_ok true is = absurd cc
not_ok false is = refl

-- where each stream has a name none is dropped
pub settles_itself : (h : State) → IsSettled h → settle h ≡ h
settles_itself h named = ap (λ ss. record h { streams = ss }) (sym named)

-- what has a name still has it where a register takes a code
settled_offered : (register : Register) (refused : Code) (h : State) → IsSettled h → IsSettled (offered register refused h)
settled_offered (of_device d) refused h settled = settled
settled_offered of_display refused h settled = settled
settled_offered no_register refused h settled = settled

module _ (m : Bool) (h : State) (client : ℕ) (c : Call) (left : State) (r : Reply) (acts : IsMarkedAct m h c left r)
    (named : IsSettled h) where
  abbrev done : State × Reply
  done = act h c m

  -- a refusal offers its code to the call's register, and does nothing else
  refusal_of : is_ok_code done.1.code ≡ false → settle done.0 ≡ offered (register_of c) done.1.code h
  refusal_of refused =
      let leaves = refused_leaves h c m refused in
      ap settle leaves ∙ settles_itself (offered (register_of c) done.1.code h) (settled_offered (register_of c) done.1.code h named)

  -- it leaves all that is named, as every call does
  dropped : settle_if (is_ok_code done.1.code) done.0 ≡ settle done.0
  dropped = of_code (is_ok_code done.1.code) refl
    where
      of_code : (b : Bool) → is_ok_code done.1.code ≡ b → settle_if b done.0 ≡ settle done.0
      of_code true ok = refl
      of_code false refused = refused_leaves h c m refused ∙ sym (refusal_of refused)

  -- so it is the step
  pub marked_stepped : IsMarkedStep m h client c left r
  unfolding step
  marked_stepped =
      record {
        after_is = acts.left_is ∙ sym dropped;
        answer = acts.answer;
        settled = subst IsSettled (sym acts.left_is) (settled done.0);
        refused = λ refused. acts.left_is
            ∙ refusal_of (ap is_ok_code (sym acts.answer.code) ∙ not_ok (is_ok_code r.code) refused)
            ∙ ap (λ x. offered (register_of c) x h) (sym acts.answer.code);
      }

-- so it is where want of memory is told by the answer
pub stepped : (h : State) (client : ℕ) (c : Call) (left : State) (r : Reply) → IsAct h c left r → IsSettled h → IsStep h client c left r
stepped h client c left r acts named = marked_stepped (is_out_of_memory r.code) h client c left r acts named

-- what is done to a state is done to the state that is seen there

pub marked_acts : (m : Bool) (h was : State) → was ≡ h → (c : Call) (left : State) (r : Reply) → IsMarkedAct m was c left r
    → IsMarkedAct m h c left r
marked_acts m h was seen c left r done = subst (λ t. IsMarkedAct m t c left r) seen done

pub acts : (h was : State) → was ≡ h → (c : Call) (left : State) (r : Reply) → IsAct was c left r → IsAct h c left r
acts h was seen c left r done = marked_acts (is_out_of_memory r.code) h was seen c left r done

-- what the parts did is a step of the machine that is made of them
pub ran : (m : Bool) (h was : State) (client : ℕ) (c : Call) (left : State) (r : Reply) → was ≡ h → IsSettled was
    → IsMarkedAct m was c left r → IsMarkedStep m h client c left r
ran m h was client c left r seen named done =
    marked_stepped m h client c left r (marked_acts m h was seen c left r done) (subst IsSettled seen named)

-- so it is where that ends the Job of a place

pub ran_end : (h was : State) (client : ℕ) (left : State) (r : Reply) (o : Option Job) → was ≡ h → IsSettled was
    → IfSome o (λ job. IsAct was (call.End job) left r) → IfSome o (λ job. IsStep h client (call.End job) left r)
ran_end h was client left r None seen named did = tt
ran_end h was client left r (Some job) seen named did = ran (is_out_of_memory r.code) h was client (call.End job) left r seen named did

pub end_settled : (h : State) (client : ℕ) (left : State) (r : Reply) (o : Option Job) → IsSome o
    → IfSome o (λ job. IsStep h client (call.End job) left r) → IsSettled left
end_settled h client left r None some did = absurd cc
end_settled h client left r (Some job) some did = did.settled

-- a call that carries nothing is answered, and any other is left

pub record IsAnswered (h : State) (client : ℕ) (c : Call) (left : State) (o : Option Answer) : Type 0 where
  pub settled : IsSettled left
  pub carried : IfNone o (IsTrue (carries (part_of c)) × (left ≡ h))
  pub after_is : IfSome o (λ a. left ≡ after h client c (bare a))
  pub may : IfSome o (λ a. MayAnswer h client c (bare a))
  pub refused : IfSome o (λ a. IsRefusal h left c a.code)

pub answered : (h was : State) (client : ℕ) (c : Call) (left : State) (o : Option Answer) → was ≡ h → IsSettled was
    → MatchOption o (IsTrue (carries (part_of c)) × (left ≡ was)) (λ a. IsAct was c left (bare a)) → IsAnswered h client c left o
answered h was client c left None seen named done =
    record {
      settled = subst IsSettled (sym done.1) named;
      carried = (done.0, done.1 ∙ seen);
      after_is = tt;
      may = tt;
      refused = tt;
    }
answered h was client c left (Some a) seen named done =
    let made = stepped h client c left (bare a) (acts h was seen c left (bare a) done) (subst IsSettled seen named) in
    record { settled = made.settled; carried = tt; after_is = made.after_is; may = made.answer; refused = made.refused }

-- the mark says nothing to a call that makes nothing
pub unmarked : (m n : Bool) (h : State) (client : ℕ) (c : Call) (left : State) (r : Reply) → is_creation c ≡ false
    → IsMarkedStep m h client c left r → IsMarkedStep n h client c left r
unmarked m n h client c left r other done =
    let same = unmarked_step h client c m n other in
    record {
      after_is = done.after_is ∙ ap (λ x. x.0) same;
      answer = subst (λ x. IsAnswer x.1 r) same done.answer;
      settled = done.settled;
      refused = done.refused;
    }
