-- What a program asks for is its next call, and it takes the answer wherever the Job stands.
use Rattle.wf_turn.proofs.Common.{◌≡◌, ◌∙◌, Bool, true, false, cond, Option, Some, None, refl, sym, ap, IfSome, is_some, option_map}
use Rattle.wf_turn.proofs.Common.{Answers, Call, IsStep, Job, Line, Name, Program, Reply, Stage, State, Turn, Verb, Wanted, bare, entry}
use Rattle.wf_turn.proofs.Common.{first_call, first_line, handle, is_begin, next, plain, plain_call, replied, took, took_at, took_first}
use Rattle.wf_turn.proofs.Common.{ℕ, ◌&&◌, IsAt, IsFit, IsSome, is_running, issued, subst, wanted_at, with_job}
use Rattle.wf_turn.proofs.Common.{is_marked, is_out_of_memory, step, wanted_now}
use Rattle.std.specs.Prelude.{◌≢◌}
use Rattle.wf_calls.specs.Parts.{carries, part_of}
use Rattle.wf_machine.specs.Object.{MayAnswer, after}
use Rattle.wf_calls.specs.declared.call.Call.TheVariants as call
use Rattle.wf_calls.specs.declared.reply.Answer.{Answer}
use Rattle.wf_calls.specs.declared.reply.Payload.TheVariants as payload
use Rattle.wf_script.specs.declared.line.Verb.TheVariants as verb
use Rattle.wf_turn.specs.Asked.{asked, begins_frame, given, handed, is_ending, is_stuck, takes_job}
use Rattle.wf_turn.specs.declared.stage.Asks.{Asks}
use Rattle.wf_turn.specs.declared.stage.Asks.TheVariants as asks
use Rattle.wf_turn.specs.declared.stage.Stage.TheVariants as stage
use Rattle.wf_turn.proofs.AnswersAgree.{took_issued}
use Rattle.wf_turn.proofs.TurnOfAProgram.{marked_is, through_now, waits_is, waits_now}

-- a line that is one call carries nothing
plain_carries : (handle : Option Name → ℕ) (v : Verb) → IfSome (plain_call handle v) (λ c. carries (part_of c) ≡ false)
plain_carries handle (verb.Acquire s) = tt
plain_carries handle verb.Post = tt
plain_carries handle verb.Discard = tt
plain_carries handle (verb.Paint paint) = tt
plain_carries handle (verb.Frame s paint) = tt
plain_carries handle verb.Tick = tt
plain_carries handle (verb.Compose d c) = tt
plain_carries handle (verb.TryCompose d c) = tt
plain_carries handle _ = refl

-- what carries nothing begins nothing
begins_none : (c : Call) → carries (part_of c) ≡ false → is_begin c ≡ false
begins_none (call.BeginNext after) none = absurd cc
begins_none (call.BeginPort port) none = absurd cc
begins_none (call.BeginContext d c) none = absurd cc
begins_none _ none = refl

pub one_carries : (handle : Option Name → ℕ) (v : Verb) (c : Call) → plain_call handle v ≡ Some c → carries (part_of c) ≡ is_begin c
one_carries handle v c is =
    let none : carries (part_of c) ≡ false = subst (λ o. IfSome o (λ x. carries (part_of x) ≡ false)) is (plain_carries handle v) in
    none ∙ sym (begins_none c none)

-- a program whose next call begins a frame
module _ (p : Program) (w : Wanted) (begins : is_begin w.call ≡ true) where
  not_it : {A : Type 0} (x : Wanted) → Some x ≡ Some w → is_begin x.call ≡ false → A
  not_it x is none =
      absurd (let same : x ≡ w = cc in let no : true ≡ false = sym begins ∙ ap (λ y. is_begin y.call) (sym same) ∙ none in cc)

  not_held : {A X : Type 0} (o : Option X) (f : X → Call) → ((x : X) → is_begin (f x) ≡ false)
      → option_map (λ x. plain (f x)) o ≡ Some w → A
  not_held None f none is = absurd cc
  not_held (Some x) f none is = not_it (plain (f x)) is (none x)

  not_free : {A : Type 0} (b : Bool) (c : Call) → is_begin c ≡ false → cond b None (Some (plain c)) ≡ Some w → A
  not_free true c none is = absurd cc
  not_free false c none is = not_it (plain c) is none

  not_plain : {A : Type 0} (o : Option Call) → IfSome o (λ c. carries (part_of c) ≡ false) → option_map plain o ≡ Some w → A
  not_plain None none is = absurd cc
  not_plain (Some c) none is = not_it (plain c) is (begins_none c none)

  of_verb : (v : Verb) → first_call p v ≡ Some w → begins_frame v ≡ true
  of_verb (verb.Acquire s) is = not_free (is_some p.canvas) (call.Acquire (handle p s)) refl is
  of_verb verb.Post is = not_held p.canvas call.Post (λ x. refl) is
  of_verb verb.Discard is = not_held p.canvas call.Discard (λ x. refl) is
  of_verb (verb.Paint paint) is = absurd cc
  of_verb (verb.Frame s paint) is = not_free (is_some p.canvas) (call.Acquire (handle p s)) refl is
  of_verb verb.Tick is = refl
  of_verb (verb.Compose d c) is = refl
  of_verb (verb.TryCompose d c) is = refl
  of_verb v is = not_plain (plain_call (handle p) v) (plain_carries (handle p) v) is

  of_stage : (l : Line) (s : Stage) → p.stage ≡ s → first_line p ≡ Some l → wanted_at p l.verb s ≡ Some w → takes_job p ≡ true
  of_stage l stage.Fresh at line is = rw (line, at) (of_verb l.verb is)
  of_stage l stage.Posting at line is = not_held p.canvas call.Post (λ x. refl) is
  of_stage l (stage.Ticking m) at line is = rw (line, at) refl
  of_stage l (stage.Ending m) at line is = not_held p.job call.End (λ x. refl) is

  -- takes the Job that comes
  pub takes : next p ≡ Some w → takes_job p ≡ true
  takes is = of_line (first_line p) refl
    where
      of_line : (o : Option Line) → first_line p ≡ o → takes_job p ≡ true
      of_line None none = absurd (let no : None ≡ Some w = rw none at is in cc)
      of_line (Some l) line = of_stage l p.stage refl line (rw line at is)

-- a fit program whose next call ends a frame holds its Job
ending_job : (p : Program) → IsFit p → is_ending p ≡ true → IsSome p.job
ending_job p fit is = of_line (first_line p) refl
  where
    of_stage : (l : Line) (s : Stage) → first_line p ≡ Some l → p.stage ≡ s → IsSome p.job
    of_stage l (stage.Ending m) line at = (let held : IsAt p l (stage.Ending m) = rw (line, at) at fit.at in held.0)
    of_stage l _ line at = absurd (let no : false ≡ true = rw (line, at) at is in cc)

    of_line : (o : Option Line) → first_line p ≡ o → IsSome p.job
    of_line None none = absurd (let no : false ≡ true = rw none at is in cc)
    of_line (Some l) line = of_stage l p.stage line refl

-- the next call of a program, where there is one
pub wanted_of : (p : Program) → IsSome (next p) → (w : Wanted) × (next p ≡ Some w)
wanted_of p some = of_next (next p) some
  where
    of_next : (o : Option Wanted) → IsSome o → (w : Wanted) × (o ≡ Some w)
    of_next None some = absurd cc
    of_next (Some w) some = (w, refl)

-- what is handed on goes out of the program
pub given_handed : (p q : Program) (a : Asks) → q ≡ handed p a → (a ≡ asks.End → is_ending p ≡ true) → given q a ≡ issued p
given_handed p q a same ends = rw same (of_asks a refl)
  where
    of_stage : (l : Line) (s : Stage) → p.stage ≡ s → first_line p ≡ Some l → is_ending p ≡ true → record p { job = None } ≡ issued p
    of_stage l (stage.Ending m) at line is = rw (line, at) refl
    of_stage l _ at line is = absurd (let no : false ≡ true = rw (line, at) at is in cc)

    of_line : (o : Option Line) → first_line p ≡ o → is_ending p ≡ true → record p { job = None } ≡ issued p
    of_line None none is = absurd (let no : false ≡ true = rw none at is in cc)
    of_line (Some l) line is = of_stage l p.stage refl line is

    of_asks : (b : Asks) → a ≡ b → given (handed p b) b ≡ issued p
    of_asks asks.End at = of_line (first_line p) refl (ends at)
    of_asks asks.Nothing at = refl
    of_asks asks.Call at = refl
    of_asks (asks.Acquire s) at = refl
    of_asks (asks.Post canvas) at = refl
    of_asks (asks.Discard canvas) at = refl

-- the answer is taken as before the call was handed out
pub took_handed : (p : Program) (a : Asks) (reply : Reply) → took (handed p a) reply ≡ took p reply
took_handed p asks.End reply = refl
took_handed p _ reply = took_issued p reply

-- what the answer leaves where a Job stands in its place already
module _ (p : Program) (a : Answer) where
  -- of a call that begins a frame
  begun_verb : (l : Line) (v : Verb) (o : Option Job) → begins_frame v ≡ true
      → took_first (record p { job = o }) (record l { verb = v }) (with_job a o) ≡ took_first p (record l { verb = v }) (with_job a o)
  begun_verb l verb.Tick None is = refl
  begun_verb l verb.Tick (Some job) is = refl
  begun_verb l (verb.Compose d c) None is = refl
  begun_verb l (verb.Compose d c) (Some job) is = refl
  begun_verb l (verb.TryCompose d c) None is = refl
  begun_verb l (verb.TryCompose d c) (Some job) is = refl
  begun_verb l _ o is = absurd cc

  begun_stage : (l : Line) (s : Stage) (o : Option Job) → p.stage ≡ s → first_line p ≡ Some l → takes_job p ≡ true
      → took_at (record p { job = o }) l (with_job a o) s ≡ took_at p l (with_job a o) s
  begun_stage l stage.Fresh o at line is = begun_verb l l.verb o (rw (line, at) at is)
  begun_stage l stage.Posting o at line is = absurd (let no : false ≡ true = rw (line, at) at is in cc)
  begun_stage l (stage.Ticking m) None at line is = refl
  begun_stage l (stage.Ticking m) (Some job) at line is = refl
  begun_stage l (stage.Ending m) o at line is = absurd (let no : false ≡ true = rw (line, at) at is in cc)

  pub took_begun : (o : Option Job) → takes_job p ≡ true → took (record p { job = o }) (with_job a o) ≡ took p (with_job a o)
  took_begun o is = of_line (first_line p) refl
    where
      of_line : (x : Option Line) → first_line p ≡ x → took (record p { job = o }) (with_job a o) ≡ took p (with_job a o)
      of_line None none = absurd (let no : false ≡ true = rw none at is in cc)
      of_line (Some l) line = rw line (begun_stage l p.stage o refl line is)

  -- of the end of a frame
  ended_stage : (l : Line) (s : Stage) (o : Option Job) (reply : Reply) → p.stage ≡ s → first_line p ≡ Some l → is_ending p ≡ true
      → took_at (record p { job = o }) l (bare a) s ≡ took_at p l reply s
  ended_stage l (stage.Ending m) o reply at line is = refl
  ended_stage l _ o reply at line is = absurd (let no : false ≡ true = rw (line, at) at is in cc)

  pub took_ended : (o : Option Job) (reply : Reply) → is_ending p ≡ true → took (record p { job = o }) (bare a) ≡ took p reply
  took_ended o reply is = of_line (first_line p) refl
    where
      of_line : (x : Option Line) → first_line p ≡ x → took (record p { job = o }) (bare a) ≡ took p reply
      of_line None none = absurd (let no : false ≡ true = rw none at is in cc)
      of_line (Some l) line = rw line (ended_stage l p.stage o reply refl line is)

  -- a Job that no frame began is not held
  other_verb : (l : Line) (v : Verb) (job : Job) → begins_frame v ≡ false
      → took_first p (record l { verb = v }) (bare a) ≡ took_first p (record l { verb = v }) (replied a (payload.Job job))
  other_verb l verb.Tick job is = absurd cc
  other_verb l (verb.Compose d c) job is = absurd cc
  other_verb l (verb.TryCompose d c) job is = absurd cc
  other_verb l (verb.Frame s paint) job is = refl
  other_verb l _ job is = refl

  other_stage : (l : Line) (s : Stage) (job : Job) → p.stage ≡ s → first_line p ≡ Some l → takes_job p ≡ false
      → took_at p l (bare a) s ≡ took_at p l (replied a (payload.Job job)) s
  other_stage l stage.Fresh job at line is = other_verb l l.verb job (rw (line, at) at is)
  other_stage l stage.Posting job at line is = refl
  other_stage l (stage.Ticking m) job at line is = absurd (let no : true ≡ false = rw (line, at) at is in cc)
  other_stage l (stage.Ending m) job at line is = refl

  pub took_other : (job : Job) → takes_job p ≡ false → took p (bare a) ≡ took p (replied a (payload.Job job))
  took_other job is = of_line (first_line p) refl
    where
      of_line : (x : Option Line) → first_line p ≡ x → took p (bare a) ≡ took p (replied a (payload.Job job))
      of_line None none = rw none refl
      of_line (Some l) line = rw line (other_stage l p.stage job refl line is)

-- a step of the machine whose answer is taken
pub step_answers : (client : ℕ) (h left : State) (c : Call) (p now : Program) (t : Turn) (reply : Reply) → left ≡ after h client c reply
    → MayAnswer h client c reply → now ≡ took p reply → t ≡ entry client reply → Answers (is_marked t) client h left c p now t
unfolding step
step_answers client h left c p now t reply left_is may now_is entry_is =
    let marks : is_out_of_memory reply.code ≡ is_marked t = sym (ap is_marked entry_is ∙ marked_is reply.code) in
    record { reply = reply; left_is = rw marks at left_is; may = rw marks at may; now_is = now_is; entry_is = entry_is }

-- so it is of the program that asked
pub handed_answers : (m : Bool) (client : ℕ) (h left : State) (c : Call) (p now : Program) (a : Asks) (t : Turn)
    → Answers m client h left c (handed p a) now t → Answers m client h left c p now t
handed_answers m client h left c p now a t answers =
    record {
      reply = answers.reply;
      left_is = answers.left_is;
      may = answers.may;
      now_is = answers.now_is ∙ took_handed p a answers.reply;
      entry_is = answers.entry_is;
    }

-- what a program asked for
module _ (p q : Program) (a : Asks) (w : Wanted) (is : asked p.job w a ≡ next p) (same : q ≡ handed p a) where
  -- begins a frame, if its call does, whose Job it takes
  pub begins_asked : a ≡ asks.Call → is_begin w.call ≡ true → takes_job q ≡ true
  begins_asked called begins =
      let asks : next p ≡ Some w = sym is ∙ ap (asked p.job w) called in
      let issues : q ≡ issued p = same ∙ ap (handed p) called in
      rw issues (takes p w begins asks)

  -- ends the frame of the Job that it holds
  pub ends_asked : IsFit p → (a ≡ asks.End → is_ending p ≡ true) → a ≡ asks.End → (is_ending q ≡ true) × IsSome q.job
  ends_asked fit ends at =
      let here : q ≡ p = same ∙ ap (handed p) at in
      rw here (ends at, ending_job p fit (ends at))

  -- what is asked of the program after it
  pub asked_after : asked q.job w a ≡ asked p.job w a
  asked_after = ap (λ x. asked x.job w a) same ∙ of_asks a
    where
      of_asks : (b : Asks) → asked (handed p b).job w b ≡ asked p.job w b
      of_asks asks.End = refl
      of_asks asks.Nothing = refl
      of_asks asks.Call = refl
      of_asks (asks.Acquire s) = refl
      of_asks (asks.Post canvas) = refl
      of_asks (asks.Discard canvas) = refl

  -- is its next call
  pub wanted_is : asked q.job w a ≡ next p
  wanted_is = asked_after ∙ is

  pub asked_answers : (m : Bool) (client : ℕ) (h left : State) (now : Program) (t : Turn) (x : Wanted) → next p ≡ Some x
      → IfSome (asked q.job w a) (λ y. Answers m client h left y.call q now t) → Answers m client h left x.call p now t
  asked_answers m client h left now t x wants done =
      let at : asked q.job w a ≡ Some x = asked_after ∙ is ∙ wants in
      let answers : Answers m client h left x.call q now t = rw at at done in
      handed_answers m client h left x.call p now a t (subst (λ r. Answers m client h left x.call r now t) same answers)

  -- where there is a turn now
  pub stuck_now : (h : State) → is_stuck h a w ≡ true → wanted_now h p ≡ None
  stuck_now h stuck = of_asks a refl
    where
      of_asks : (b : Asks) → a ≡ b → wanted_now h p ≡ None
      of_asks asks.Nothing at = through_now h p (sym is ∙ ap (asked p.job w) at)
      of_asks asks.Call at =
          let asks : next p ≡ Some w = sym is ∙ ap (asked p.job w) at in
          waits_now h p w asks (sym (waits_is h p w asks) ∙ sym (ap (λ x. is_stuck h x w) at) ∙ stuck)
      of_asks _ at = absurd (let no : false ≡ true = sym (ap (λ x. is_stuck h x w) at) ∙ stuck in cc)

  pub not_nothing : (h : State) → is_stuck h a w ≡ false → a ≢ asks.Nothing
  not_nothing h free at = (let no : true ≡ false = sym (ap (λ x. is_stuck h x w) at) ∙ free in cc)

  pub some_next : (h : State) → is_stuck h a w ≡ false → IsFit p → (a ≡ asks.End → is_ending p ≡ true) → IsSome (next p)
  some_next h free fit ends = subst IsSome is (of_asks a refl)
    where
      of_job : (o : Option Job) → IsSome o → IsSome (option_map (λ j. plain (call.End j)) o)
      of_job None some = absurd cc
      of_job (Some job) some = refl

      of_asks : (b : Asks) → a ≡ b → IsSome (asked p.job w a)
      of_asks asks.Nothing at = absurd (not_nothing h free at)
      of_asks asks.End at = rw at (of_job p.job (ending_job p fit (ends at)))
      of_asks _ at = rw at refl

  pub not_waiting : (h : State) (x : Wanted) → is_stuck h a w ≡ false → next p ≡ Some x → (x.wait && is_running h) ≡ false
  not_waiting h x free wants = of_asks a refl
    where
      of_plain : (y : Wanted) → y.wait ≡ false → Some y ≡ Some x → (x.wait && is_running h) ≡ false
      of_plain y none at = (let here : y ≡ x = cc in rw (sym here, none) refl)

      of_job : (o : Option Job) → option_map (λ j. plain (call.End j)) o ≡ Some x → (x.wait && is_running h) ≡ false
      of_job None at = absurd cc
      of_job (Some job) at = of_plain (plain (call.End job)) refl at

      of_asks : (b : Asks) → a ≡ b → (x.wait && is_running h) ≡ false
      of_asks asks.Nothing at = absurd (let no : true ≡ false = sym (ap (λ y. is_stuck h y w) at) ∙ free in cc)
      of_asks asks.Call at =
          let asks : next p ≡ Some w = sym is ∙ ap (asked p.job w) at in
          let here : w ≡ x = (let both : Some w ≡ Some x = sym asks ∙ wants in cc) in
          subst (λ y. (y.wait && is_running h) ≡ false) here
          (sym (waits_is h p w asks) ∙ sym (ap (λ y. is_stuck h y w) at) ∙ free)
      of_asks (asks.Acquire s) at = of_plain (plain (call.Acquire s)) refl (sym (ap (asked p.job w) at) ∙ is ∙ wants)
      of_asks (asks.Post canvas) at = of_plain (plain (call.Post canvas)) refl (sym (ap (asked p.job w) at) ∙ is ∙ wants)
      of_asks (asks.Discard canvas) at = of_plain (plain (call.Discard canvas)) refl (sym (ap (asked p.job w) at) ∙ is ∙ wants)
      of_asks asks.End at = of_job p.job (sym (ap (asked p.job w) at) ∙ is ∙ wants)

-- so it is of the end of the frame whose Job stands in a place

pub end_answers : (client : ℕ) (h left : State) (p now : Program) (t : Turn) (reply : Reply) (o : Option Job)
    → IfSome o (λ j. IsStep h client (call.End j) left reply) → now ≡ took p reply → t ≡ entry client reply
    → IfSome o (λ j. Answers (is_marked t) client h left (call.End j) p now t)
end_answers client h left p now t reply None steps now_is entry_is = tt
end_answers client h left p now t reply (Some job) steps now_is entry_is =
    step_answers client h left (call.End job) p now t reply steps.after_is steps.answer now_is entry_is

pub end_asked : (m : Bool) (client : ℕ) (h left : State) (p now : Program) (t : Turn) (o : Option Job)
    → IfSome o (λ j. Answers m client h left (call.End j) p now t)
    → IfSome (option_map (λ j. plain (call.End j)) o) (λ w. Answers m client h left w.call p now t)
end_asked m client h left p now t None answers = tt
end_asked m client h left p now t (Some job) answers = answers
