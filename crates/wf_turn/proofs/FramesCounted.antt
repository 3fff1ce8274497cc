-- Frames are counted: each has a number of its own, so a frame with a number that was given before is the one that ran before.
use Rattle.wf_turn.proofs.Common.{◌≡◌, ◌∙◌, ℕ, ◌+◌, Bool, true, false, Option, Some, None, refl, sym, subst, ap, arith, Ok, nat_le}
use Rattle.wf_turn.proofs.Common.{nat_tests}
use Rattle.wf_turn.proofs.Common.{Call, Code, Reply, Turn, is_ok_code, is_begin, job_of, running_of, Beginning, begin_call, Running, State}
use Rattle.wf_turn.proofs.Common.{act, step, effect, Show, turn, List, [], ◌∷◌, replay_from, unwrap_or, is_marked}
use Rattle.std.specs.Prelude.{Result, Err}
use Rattle.wf_calls.specs.Codes.{code_number}
use Rattle.wf_calls.specs.Parts.{Register, of_device, of_display, register_of, no_register}
use Rattle.wf_calls.specs.declared.call.Call.TheVariants as call
use Rattle.wf_calls.specs.declared.code.Code.TheVariants as code
use Rattle.wf_calls.specs.declared.reply.Refusal.{Refusal}
use Rattle.wf_model.specs.Effects.{Effect, IsHonest, acquires, begin_is_honest, begins, composes, displays, ends, makes, refuses, returns}
use Rattle.wf_model.specs.Effects.{tells, unnames}
use Rattle.wf_model.specs.Frames.{started}
use Rattle.wf_model.specs.Names.{settle_if}
use Rattle.wf_model.specs.Registers.{offered}
use Rattle.wf_turn.proofs.Replays.{next_show, replay_step, taken_turn, turn_of}
use Rattle.wf_turn.proofs.Serials.{nothing_replayed}

-- from a state to one behind it: no fewer frames are begun, and a frame that runs behind it with a number of before ran before
pub record Goes (h after : State) : Type 0 where
  pub counted : nat_le h.begun after.begun ≡ true
  pub runs : (k : ℕ) → nat_le k h.begun ≡ true → (r : Running) → after.frame ≡ Some r → k ≡ r.number → h.frame ≡ Some r

stays_goes : (h : State) → Goes h h
stays_goes h = record { counted = grind (arith, nat_tests); runs = λ k before r runs own. runs }

offered_goes : (register : Register) (refused : Code) (h : State) → Goes h (offered register refused h)
offered_goes (of_device d) refused h = record { counted = grind (arith, nat_tests); runs = λ k before r runs own. runs }
offered_goes of_display refused h = record { counted = grind (arith, nat_tests); runs = λ k before r runs own. runs }
offered_goes no_register refused h = stays_goes h

-- of every kind of effect
effect_goes : (h : State) (c : Call) (x : State × Reply) → Effect h c x → Goes h x.0
effect_goes h c x (refuses honest left) = subst (Goes h) (sym left) (offered_goes (register_of c) x.1.code h)
effect_goes h c x (composes m w value does is) =
    subst (λ y. Goes h y.0) (sym is) (record { counted = grind (arith, nat_tests); runs = λ k before r runs own. runs })
effect_goes h c x (displays m w value does is) =
    subst (λ y. Goes h y.0) (sym is) (record { counted = grind (arith, nat_tests); runs = λ k before r runs own. runs })
effect_goes h c x (makes new is) =
    subst (λ y. Goes h y.0) (sym is) (record { counted = grind (arith, nat_tests); runs = λ k before r runs own. runs })
effect_goes h c x (unnames handle is) =
    subst (λ y. Goes h y.0) (sym is) (record { counted = grind (arith, nat_tests); runs = λ k before r runs own. runs })
effect_goes h c x (acquires handle s at is) =
    subst (λ y. Goes h y.0) (sym is) (record { counted = grind (arith, nat_tests); runs = λ k before r runs own. runs })
effect_goes h c x (returns canvas f way out is) =
    subst (λ y. Goes h y.0) (sym is) (record { counted = grind (arith, nat_tests); runs = λ k before r runs own. runs })
effect_goes h c x (begins b free begun is) =
    subst (λ y. Goes h y.0) (sym is)
    (record {
      counted = grind (arith, nat_tests);
      runs = λ k before r runs own.
          (let both : Some (running_of (job_of b h)) ≡ Some r = runs in
          let same : running_of (job_of b h) ≡ r = cc in
          let number : r.number ≡ h.begun + 1 = ap (λ (y : Running). y.number) (sym same) in
          absurd (grind (arith, nat_tests, before, own, number)));
    })
effect_goes h c x (ends job r call_is runs own is) =
    subst (λ y. Goes h y.0) (sym is) (record { counted = grind (arith, nat_tests); runs = λ k before s none its. absurd cc })
effect_goes h c x (tells value is) = subst (λ y. Goes h y.0) (sym is) (stays_goes h)

settled_goes : (b : Bool) (h after : State) → Goes h after → Goes h (settle_if b after)
settled_goes b h after goes = record { counted = goes.counted; runs = goes.runs }

pub step_goes : (h : State) (client : ℕ) (c : Call) (m : Bool) → Goes h (step h client c m).0
unfolding step
step_goes h client c m =
    settled_goes (is_ok_code (act h c m).1.code) h (act h c m).0 (effect_goes h c (act h c m) (effect h c m))

-- so orders begin no fewer frames than their fronts
turn_counts : (show after : Show) (t : Turn) → next_show show t ≡ Some after → nat_le show.state.begun after.state.begun ≡ true
turn_counts show after t is =
    let taken = taken_turn t (turn show t.client (is_marked t)) after is in
    let own = turn_of show t.client (is_marked t) (after, t) taken in
    subst (λ (y : Show × Turn). nat_le show.state.begun y.0.state.begun ≡ true) own.is
    (step_goes show.state t.client own.wanted.call (is_marked t)).counted

pub order_counts : (show last : Show) (ts : List Turn) → replay_from show ts ≡ Some last
    → nat_le show.state.begun last.state.begun ≡ true
order_counts show last [] is =
    let both : Some show ≡ Some last = sym (nothing_replayed show) ∙ is in
    let same : show ≡ last = ap (λ o. unwrap_or o last) both in
    subst (λ (s : Show). nat_le show.state.begun s.state.begun ≡ true) same (grind (arith, nat_tests))
order_counts show last (t ∷ ts) is =
    elim (next_show show t) as (λ o. next_show show t ≡ o → nat_le show.state.begun last.state.begun ≡ true) [
      | None ↦ λ none. absurd (let no : None ≡ Some last = sym (replay_step show t ts None none) ∙ is in cc)
      | Some after ↦ λ some. (
          let first = turn_counts show after t some in
          let later = order_counts after last ts (sym (replay_step show t ts (Some after) some) ∙ is) in
          grind (arith, nat_tests, first, later))
    ] refl

-- a Begin that answers Ok, and finds what it is asked for, begins a frame
ok_number : (c : Code) → code_number c ≡ 0 → is_ok_code c ≡ true
ok_number code.Ok is = refl
ok_number _ is = absurd cc

of_result : (recorder : Register) (h : State) (r : Result (Option Beginning) Refusal) → IsHonest r → (r ≡ Ok None → ⊥)
    → code_number (started recorder h r).1.code ≡ 0 → (started recorder h r).0.begun ≡ h.begun + 1
of_result recorder h (Ok None) honest some is = absurd (some refl)
of_result recorder h (Ok (Some b)) honest some is = refl
of_result recorder h (Err r) honest some is = absurd (let no : true ≡ false = sym (ok_number r.code is) ∙ honest in cc)

act_begins : (h : State) (c : Call) (m : Bool) → is_begin c ≡ true → (begin_call c h ≡ Ok None → ⊥)
    → code_number (act h c m).1.code ≡ 0 → (act h c m).0.begun ≡ h.begun + 1
unfolding act
act_begins h (call.BeginNext after) m begin some is =
    of_result no_register h (begin_call (call.BeginNext after) h) (begin_is_honest (call.BeginNext after) h) some is
act_begins h (call.BeginPort port) m begin some is =
    of_result no_register h (begin_call (call.BeginPort port) h) (begin_is_honest (call.BeginPort port) h) some is
act_begins h (call.BeginContext d c) m begin some is =
    of_result (of_device d) h (begin_call (call.BeginContext d c) h) (begin_is_honest (call.BeginContext d c) h) some is
act_begins h _ m begin some is = absurd cc

pub step_begins : (h : State) (client : ℕ) (c : Call) (m : Bool) → is_begin c ≡ true → (begin_call c h ≡ Ok None → ⊥)
    → code_number (step h client c m).1.code ≡ 0 → (step h client c m).0.begun ≡ h.begun + 1
unfolding step
step_begins h client c m begin some is = act_begins h c m begin some is
