-- One turn of a program: the machine answers its next call, and the Job that comes is painted.
use Rattle.wf_turn.proofs.Common.{◌≡◌, ◌∙◌, ℕ, Bool, true, false, not, ◌==◌, ◌&&◌, List, [], ◌∷◌, Option, Some, None, refl, sym, ap}
use Rattle.wf_turn.proofs.Common.{subst, IsTrue, IsSome, IsSomeAnd, drawn, Job, Turn, Reply, Code}
use Rattle.wf_turn.proofs.Common.{is_out_of_memory, IsPaintable, is_running, State, step, Line, Wanted, frames_if}
use Rattle.wf_turn.proofs.Common.{Program, first_line, is_work, next, painted_job, place_of, took, worked, IsFit, IsWork, frames_of}
use Rattle.wf_turn.proofs.Common.{Takes, TakesNext, wanted_now}
use Rattle.wf_calls.specs.declared.code.Code.TheVariants as code
use Rattle.wf_calls.specs.Codes.{code_number}
use Rattle.wf_machine.specs.Object.{is_ready}
use Rattle.wf_turn.proofs.AnswersAgree.{IsSame, same_outcome}
use Rattle.wf_turn.proofs.ProgramsGoOn.{waiting_begins}
use Rattle.wf_turn.proofs.JobCanBePainted.{took_marked_work}

-- an entry marks what the answer tells
pub marked_is : (c : Code) → (code_number c == 1) ≡ is_out_of_memory c
marked_is code.Ok = refl
marked_is code.OutOfMemory = refl
marked_is code.IllegalArgument = refl
marked_is code.Unsupported = refl
marked_is code.NotSupported = refl
marked_is code.BadAttribute = refl
marked_is code.InUse = refl
marked_is code.Busy = refl
marked_is code.NoBuffer = refl
marked_is code.BadDevice = refl
marked_is code.BadHandle = refl
marked_is code.Inconsistency = refl
marked_is code.Limit = refl

-- the frame of a Job is that of the painted one
pub work_frames : (begin : ℕ) (p : Program) → frames_of begin p ≡ frames_if begin (is_work p) (worked p)
work_frames begin p = by_parts p.unpainted p.job
  where
    by_parts : (b : Bool) (o : Option Job) → frames_of begin (record p { job = o; unpainted = b })
        ≡ frames_if begin (is_work (record p { job = o; unpainted = b })) (worked (record p { job = o; unpainted = b }))
    by_parts true None = refl
    by_parts true (Some job) = refl
    by_parts false None = refl
    by_parts false (Some job) = refl

-- a Job stays one that can be painted
painted_one : (job : Job) → IsPaintable job → IsPaintable (painted_job job)
unfolding drawn
painted_one job can = record { port = can.port; fits = can.fits; size = refl; four = can.four }

pub still_paintable : (p : Program) → IsWork p → IsTrue (is_work p) → IsSomeAnd (worked p).job IsPaintable
still_paintable p work is = by_parts p.unpainted p.job work is
  where
    by_parts : (b : Bool) (o : Option Job) → IsWork (record p { job = o; unpainted = b })
        → IsTrue (is_work (record p { job = o; unpainted = b })) → IsSomeAnd (worked (record p { job = o; unpainted = b })).job IsPaintable
    by_parts true None work is = absurd cc
    by_parts true (Some job) work is = painted_one job (work refl)
    by_parts false o work is = absurd cc

-- a program that is not through wants a call
pub has_line : (p : Program) → IsSome (place_of p) → (l : Line) × (first_line p ≡ Some l)
has_line p more = of_lines p.lines refl more
  where
    of_lines : (ls : List (ℕ × Line)) → p.lines ≡ ls → IsSome (place_of (record p { lines = ls })) → (l : Line) × (first_line p ≡ Some l)
    of_lines [] is more = absurd cc
    of_lines (l ∷ ls) is more = (l.1, rw is refl)

-- a call waits exactly where a frame runs
pub waits_is : (h : State) (p : Program) (w : Wanted) → next p ≡ Some w → (w.wait && not (is_ready h w.call)) ≡ (w.wait && is_running h)
waits_is h p w asks = of_wait w.wait refl
  where
    twice : (b : Bool) → not (not b) ≡ b
    twice true = refl
    twice false = refl

    of_wait : (b : Bool) → w.wait ≡ b → (b && not (is_ready h w.call)) ≡ (b && is_running h)
    of_wait false waits = refl
    of_wait true waits = ap (λ x. not (not (x && is_running h))) (waiting_begins p w asks waits) ∙ twice (is_running h)

-- what a program wants now is nothing where it is through, and where its call waits; else it is its next call
pub through_now : (h : State) (p : Program) → next p ≡ None → wanted_now h p ≡ None
through_now h p none = rw none refl

pub waits_now : (h : State) (p : Program) (w : Wanted) → next p ≡ Some w → (w.wait && is_running h) ≡ true → wanted_now h p ≡ None
waits_now h p w asks waits = rw (asks, waits) refl

pub free_now : (h : State) (p : Program) (w : Wanted) → next p ≡ Some w → (w.wait && is_running h) ≡ false → wanted_now h p ≡ Some w
free_now h p w asks free = rw (asks, free) refl

pub now_next : (h : State) (p : Program) (w : Wanted) → wanted_now h p ≡ Some w → next p ≡ Some w
now_next h p w is = of_next (next p) refl
  where
    of_wait : (v : Wanted) → next p ≡ Some v → (b : Bool) → (v.wait && is_running h) ≡ b → next p ≡ Some w
    of_wait v asks true waits = absurd (let no : None ≡ Some w = sym (waits_now h p v asks waits) ∙ is in cc)
    of_wait v asks false free = asks ∙ sym (free_now h p v asks free) ∙ is

    of_next : (o : Option Wanted) → next p ≡ o → next p ≡ Some w
    of_next None none = absurd (let no : None ≡ Some w = sym (through_now h p none) ∙ is in cc)
    of_next (Some v) asks = of_wait v asks (v.wait && is_running h) refl

-- the answer to the next call, with the Job that came painted
module _ (m : Bool) (client : ℕ) (h left : State) (p now : Program) (t : Turn)
    (fit : IsFit p) (taken : TakesNext m client h left p now t) where
  abbrev reply : Reply
  reply = taken.answers.reply

  abbrev wanted : State × Reply
  wanted = step h client taken.wanted.call m

  work : IsWork (took p reply)
  work = took_marked_work m p h client taken.wanted reply fit.painted taken.answers.may (now_next h p taken.wanted taken.asks)

  pub work_now : IsWork now
  work_now = subst IsWork (sym taken.answers.now_is) work

  pub takes : Takes m client h left p (worked now) t (is_work now)
  takes =
      let q = took p reply in
      let answers = taken.answers in
      let same : IsSame reply wanted.1 = record { value = answers.may.value; payload = answers.may.payload } in
      let both = same_outcome p reply wanted.1 same in
      let now_w : worked now ≡ worked q = ap worked answers.now_is in
      let work_is : is_work now ≡ is_work q = ap is_work answers.now_is in
      record {
        wanted = taken.wanted;
        asks = taken.asks;
        state = answers.left_is;
        program = now_w ∙ ap (λ x. x.0) both;
        entry_is =
            answers.entry_is
            ∙ ap (λ c. record { client = client; code = code_number c; value = reply.value }) answers.may.code
            ∙ ap (λ v. record { client = client; code = code_number wanted.1.code; value = v }) answers.may.value;
        frames = λ begin.
            sym (ap (λ x. x.1 begin) both)
            ∙ work_frames begin q
            ∙ ap (λ b. frames_if begin b (worked q)) (sym work_is)
            ∙ ap (frames_if begin (is_work now)) (sym now_w);
        paintable = λ is. subst (λ x. IsSomeAnd x.job IsPaintable) (sym now_w) (still_paintable q work (sym work_is ∙ is));
      }
