-- The clock, which is client 0, alone begins what is shown: no other client has a tick.
use Rattle.wf_turn.proofs.Common.{unheld}
use Rattle.wf_turn.proofs.Common.{◌≡◌, ◌∙◌, ℕ, zero, suc, ◌+◌, ◌==◌, Bool, true, false, not, cond, ◌&&◌, ◌||◌, List, [], ◌∷◌}
use Rattle.wf_turn.proofs.Common.{map, All, bound, bound_name, nat_tests, ◌<◌}
use Rattle.wf_turn.proofs.Common.{Option, Some, None, refl, sym, ap, subst, set, pos, arith, filter, slice_get, is_some, enumerate_from}
use Rattle.wf_turn.proofs.Common.{list_all, range_with_len, AllByRecursion, and_parts, eqb-true, each_at, each_mapped, Canvas, Paint}
use Rattle.wf_turn.proofs.Common.{Payload, Reply}
use Rattle.wf_turn.proofs.Common.{Turn, Frame, step, Call, Line, Verb, PlainScript, Stage, Wanted, Begins}
use Rattle.wf_turn.proofs.Common.{is_marked, before, given_canvas, is_event, line_done, lines_from, next, plain, program, Program, silent}
use Rattle.wf_turn.proofs.Common.{skipped, taught}
use Rattle.wf_turn.proofs.Common.{took}
use Rattle.wf_turn.proofs.Common.{took_at, took_canvas, took_first, took_frame, took_job, waiting, worked, IsNextTurn, IsRun, Show}
use Rattle.wf_turn.proofs.Common.{all_taught, inherited, is_setting_up, opening_show, with_frames, Shows}
use Rattle.wf_calls.specs.declared.call.Call.TheVariants as call
use Rattle.wf_calls.specs.declared.reply.Payload.TheVariants as payload
use Rattle.wf_script.specs.declared.line.Verb.TheVariants as verb
use Rattle.wf_script.specs.Script.{is_tick, may_tick}
use Rattle.wf_turn.specs.declared.stage.Phase.TheVariants as phase
use Rattle.wf_turn.specs.declared.stage.Stage.TheVariants as stage
use Rattle.wf_words.specs.Each.{each_set}
use Rattle.wf_turn.proofs.Cases.{IsTick, turn_case}
use Rattle.wf_turn.proofs.JobThatIsHeld.{AllHold, opening_hold}
use Rattle.wf_turn.proofs.Moments.{turn_adds}
use Rattle.wf_turn.proofs.JobCanBePainted.{IsPainted}
use Rattle.wf_turn.proofs.Replays.{own_program, turn_of}
use Rattle.wf_turn.proofs.AnswersKeep.{worked_if}

-- lines without a tick
abbrev pub AreTickless : List (ℕ × Line) → Type 0
AreTickless ls = AllByRecursion (λ l. is_tick l.1.verb ≡ false) ls

-- a stage of a line that is no tick
abbrev pub IsStill : Stage → Type 0
IsStill stage.Fresh = Unit {0}
IsStill stage.Posting = Unit {0}
IsStill (stage.Ticking l) = ⊥
IsStill (stage.Ending None) = Unit {0}
IsStill (stage.Ending (Some l)) = ⊥

-- a program without a tick
pub record IsTickless (p : Program) : Type 0 where
  pub lines : AreTickless p.lines
  pub stage : IsStill p.stage

-- an answer keeps it

skipped_tickless : (canvas : Option Canvas) (ls : List (ℕ × Line)) → AreTickless ls → AreTickless (skipped canvas ls).1
skipped_tickless canvas [] are = tt
skipped_tickless canvas (l ∷ ls) are =
    elim (is_event (is_some canvas) l.1.verb)
    as (λ b. AreTickless (cond b (canvas, l ∷ ls) (skipped (silent l.1.verb canvas) ls)).1) [
      | true ↦ are
      | false ↦ skipped_tickless (silent l.1.verb canvas) ls are.1
    ]

before_tickless : (p : Program) (ls : List (ℕ × Line)) → AreTickless ls → IsTickless (before p ls)
before_tickless p ls are = record { lines = skipped_tickless p.canvas ls are; stage = tt }

done_tickless : (p : Program) (v : ℕ) → IsTickless p → IsTickless (line_done p v)
done_tickless p v is = of_lines p.lines refl is.lines
  where
    of_lines : (ls : List (ℕ × Line)) → p.lines ≡ ls → AreTickless ls → IsTickless (line_done p v)
    of_lines [] none are = rw none (record { lines = tt; stage = is.stage })
    of_lines (l ∷ ls) some are = rw some (before_tickless (record p { own = bound (bound_name l.1) v p.own }) ls are.1)

-- with other things in hand
same_lines : (p q : Program) → IsTickless p → q.lines ≡ p.lines → IsStill q.stage → IsTickless q
same_lines p q is lines still = record { lines = subst AreTickless (sym lines) is.lines; stage = still }

frame_tickless : (p : Program) (paint : Paint) (o : Option Canvas) → IsTickless p → IsTickless (took_frame p paint o)
frame_tickless p paint None is = done_tickless p 0 is
frame_tickless p paint (Some canvas) is = record { lines = is.lines; stage = tt }

job_tickless : (p : Program) (given : Payload) → IsTickless p → IsTickless (took_job p given None)
job_tickless p (payload.Job job) is = record { lines = is.lines; stage = tt }
job_tickless p payload.Nothing is = done_tickless (unheld p) 0 (record { lines = is.lines; stage = is.stage })
job_tickless p (payload.Canvas canvas) is = done_tickless (unheld p) 0 (record { lines = is.lines; stage = is.stage })

canvas_tickless : (p : Program) (reply : Reply) → IsTickless p → IsTickless (took_canvas p reply.payload)
canvas_tickless p reply is =
    done_tickless (record p { canvas = given_canvas reply.payload }) 0 (record { lines = is.lines; stage = is.stage })

first_tickless : (p : Program) (l : Line) (v : Verb) (reply : Reply) → is_tick v ≡ false → IsTickless p
    → IsTickless (took_first p (record l { verb = v }) reply)
first_tickless p l (verb.Acquire s) reply other is = canvas_tickless p reply is
first_tickless p l verb.Post reply other is = canvas_tickless p reply is
first_tickless p l verb.Discard reply other is = canvas_tickless p reply is
first_tickless p l (verb.Frame s paint) reply other is = frame_tickless p paint (given_canvas reply.payload) is
first_tickless p l verb.Tick reply other is = absurd cc
first_tickless p l (verb.Compose d c) reply other is = job_tickless p reply.payload is
first_tickless p l (verb.TryCompose d c) reply other is = job_tickless p reply.payload is
first_tickless p l v reply other is = done_tickless p reply.value is

stage_tickless : (p : Program) (l : Line) (reply : Reply) (s : Stage) → is_tick l.verb ≡ false → IsStill s → IsTickless p
    → IsTickless (took_at p l reply s)
stage_tickless p l reply stage.Fresh other still is = first_tickless p l l.verb reply other is
stage_tickless p l reply stage.Posting other still is = canvas_tickless p reply is
stage_tickless p l reply (stage.Ticking m) other still is = absurd still
stage_tickless p l reply (stage.Ending None) other still is =
    done_tickless (record p { job = None; unpainted = false }) 0 (record { lines = is.lines; stage = is.stage })
stage_tickless p l reply (stage.Ending (Some m)) other still is = absurd still

took_tickless : (p : Program) (reply : Reply) → IsTickless p → IsTickless (took p reply)
took_tickless p reply is = of_lines p.lines refl is.lines
  where
    of_lines : (ls : List (ℕ × Line)) → p.lines ≡ ls → AreTickless ls → IsTickless (took p reply)
    of_lines [] none are = rw none (record { lines = tt; stage = is.stage })
    of_lines (l ∷ ls) some are =
        rw some
        (stage_tickless (record p { lines = l ∷ ls }) l.1 reply p.stage are.0 is.stage (record { lines = are; stage = is.stage }))

worked_tickless : (p : Program) → IsTickless p → IsTickless (worked p)
worked_tickless p is = elim p.unpainted as (λ b. IsTickless (worked_if b p)) [
  | true ↦ record { lines = is.lines; stage = is.stage }
  | false ↦ is
]

-- such a program asks for no port's frame

asks_at_ports : (p : Program) (w : Wanted) (port : ℕ) → next p ≡ Some w → w ≡ waiting (call.BeginPort (pos port))
    → p.stage ≡ stage.Ticking (phase.Ports port)
asks_at_ports p w port asks is =
    turn_case p (λ x now. x ≡ waiting (call.BeginPort (pos port)) → p.stage ≡ stage.Ticking (phase.Ports port)) w
    (record {
      canvas = λ c still is. absurd (no_wait c is);
      value = λ c still is. absurd (no_wait c is);
      frame = λ s paint is. absurd (no_wait (call.Acquire s) is);
      asks = λ x begins tick s next_of at is. of_tick x tick at is;
      ended = λ job held l is. absurd (no_wait (call.End job) is);
    }) asks is
  where
    no_wait : (c : Call) → plain c ≡ waiting (call.BeginPort (pos port)) → ⊥
    no_wait c is = (let apart : false ≡ true = ap (λ (y : Wanted). y.wait) is in cc)

    of_tick : (x : Wanted) (tick : ℕ) → IsTick p x tick → x ≡ waiting (call.BeginPort (pos port))
        → p.stage ≡ stage.Ticking (phase.Ports port)
    of_tick x tick at is =
        let own : IsTick p (waiting (call.BeginPort (pos port))) tick = subst (λ y. IsTick p y tick) is at in
        let same : port ≡ own.0 = cc in
        subst (λ n. p.stage ≡ stage.Ticking (phase.Ports n)) (sym same) own.4

asks_no_port : (p : Program) (port : ℕ) → IsTickless p → next p ≡ Some (waiting (call.BeginPort (pos port))) → ⊥
asks_no_port p port is asks =
    let ticking = asks_at_ports p (waiting (call.BeginPort (pos port))) port asks refl in
    subst IsStill ticking is.stage

-- all programs but the clock's are without a tick

abbrev pub IsTimed : List Program → Type 0
IsTimed [] = Unit {0}
IsTimed (clock ∷ others) = AllByRecursion IsTickless others

timed_set : (ps : List Program) (client : ℕ) (p q : Program) → slice_get ps client ≡ Some p → (IsTickless p → IsTickless q)
    → IsTimed ps → IsTimed (set ps client q)
timed_set [] client p q found keeps are = tt
timed_set (clock ∷ others) zero p q found keeps are = are
timed_set (clock ∷ others) (suc k) p q found keeps are =
    each_set IsTickless others k q are (keeps (each_at IsTickless others k p are found))

timed_issued : (before now : List Program) → IsTimed now → IsTimed (inherited before now)
timed_issued before now are =
    elim (is_setting_up before && not (is_setting_up now)) as (λ b. IsTimed (cond b (all_taught now) now)) [
      | true ↦ timed_taught now are
      | false ↦ are
    ]
  where
    timed_taught : (ps : List Program) → IsTimed ps → IsTimed (all_taught ps)
    timed_taught [] are = tt
    timed_taught (clock ∷ others) are =
        each_mapped IsTickless IsTickless (taught clock) (λ p is. record { lines = is.lines; stage = is.stage }) others are

-- what each turn keeps
pub record IsClocked (show : Show) : Type 0 where
  pub painted : AllHold IsPainted show.programs
  pub timed : IsTimed show.programs

still_clocked : (show after : Show) (t : Turn) → IsNextTurn show t after → IsClocked show → IsClocked after
still_clocked show after t next is =
    let adds = turn_adds show t.client (is_marked t) (after, t) is.painted next.taken in
    let own = turn_of show t.client (is_marked t) (after, t) next.taken in
    let reply : Reply = (step show.state t.client own.wanted.call (is_marked t)).1 in
    let placed = set show.programs t.client (worked (took own.program reply)) in
    record {
      painted = adds.painted;
      timed =
          subst (λ (x : Show × Turn). IsTimed x.0.programs) own.is
          (timed_issued show.programs placed
          (timed_set show.programs t.client own.program (worked (took own.program reply)) own.own
          (λ tickless. worked_tickless (took own.program reply) (took_tickless own.program reply tickless)) is.timed));
    }

pub run_clocked : (show after : Show) (ts : List Turn) → IsRun show ts after → IsClocked show → IsClocked after
run_clocked show after [] run is = subst IsClocked run is
run_clocked show after (t ∷ ts) run is = run_clocked run.0 after ts run.1.1 (still_clocked show run.0 t run.1.0 is)

-- the clock's turn it is that shows a frame
pub shows_alone : (show after : Show) (t : Turn) (f : Frame) → IsClocked show → Shows IsNextTurn show t (f ∷ []) after
    → t.client ≡ 0
shows_alone show after t f is turns =
    let adds = turn_adds (with_frames [] show) t.client (is_marked t) (with_frames (f ∷ []) after, t) is.painted (turns []).taken in
    let begun : All (λ g. Begins g (with_frames [] show) t) (f ∷ []) =
    subst (All (λ g. Begins g (with_frames [] show) t)) (sym adds.behind) adds.begun in
    of_client t.client refl (begun 0 f (omega arith))
  where
    of_client : (client : ℕ) → t.client ≡ client → Begins f (with_frames [] show) t → t.client ≡ 0
    of_client zero at begins = at
    of_client (suc k) at begins =
        let p = begins.asks.program in
        let own : slice_get show.programs (suc k) ≡ Some p =
        ap (slice_get show.programs) (sym at) ∙ own_program (with_frames [] show) t.client p begins.asks.own in
        absurd (of_programs show.programs is.timed own)
      where
        of_programs : (ps : List Program) → IsTimed ps → slice_get ps (suc k) ≡ Some begins.asks.program → ⊥
        of_programs [] are found = absurd cc
        of_programs (clock ∷ others) are found =
            asks_no_port begins.asks.program f.port (each_at IsTickless others k begins.asks.program are found) begins.asks.next_is

-- a script's ticks are the clock's

-- the lines of another client
own_tickless : (client at : ℕ) (lines : List Line) → (client == 0) ≡ false → list_all may_tick lines ≡ true
    → AreTickless (filter (λ l. l.1.client == client) (enumerate_from at lines))
own_tickless client at [] other ticks = tt
own_tickless client at (l ∷ lines) other ticks =
    let both = and_parts (may_tick l) (list_all may_tick lines) ticks in
    let rest = own_tickless client (at + 1) lines other both.1 in
    elim (l.client == client) as (λ b. (l.client == client) ≡ b
    → AreTickless (cond b ((at, l) ∷ filter (λ m. m.1.client == client) (enumerate_from (at + 1) lines))
    (filter (λ m. m.1.client == client) (enumerate_from (at + 1) lines)))) [
      | true ↦ λ same. (no_tick (l.client == 0) (is_tick l.verb) (ap (λ n. n == 0) (eqb-true l.client client same) ∙ other) both.0, rest)
      | false ↦ λ apart. rest
    ] refl
  where
    no_tick : (clock ticks : Bool) → clock ≡ false → (clock || not ticks) ≡ true → ticks ≡ false
    no_tick true ticks other may = absurd cc
    no_tick false true other may = absurd cc
    no_tick false false other may = refl

opening_tickless : (script : PlainScript) (client : ℕ) → list_all may_tick script.lines ≡ true → (client == 0) ≡ false
    → IsTickless (program script client)
opening_tickless script client ticks other =
    before_tickless
    (record {
      script = script;
      client = client;
      lines = [];
      own = [];
      learned = [];
      canvas = None;
      job = None;
      unpainted = false;
      stage = stage.Fresh;
      tick = 0;
    })
    (lines_from client 0 script.lines) (own_tickless client 0 script.lines other ticks)

others_tickless : (script : PlainScript) (k n : ℕ) → list_all may_tick script.lines ≡ true → 0 < k
    → AllByRecursion IsTickless (map (program script) (range_with_len k n))
others_tickless script k zero ticks behind = tt
others_tickless script k (suc n) ticks behind =
    let other : (k == 0) ≡ false = grind (arith, nat_tests, behind) in
    (opening_tickless script k ticks other, others_tickless script (k + 1) n ticks (omega (arith, behind)))

pub opening_clocked : (script : PlainScript) → list_all may_tick script.lines ≡ true → IsClocked (opening_show script)
opening_clocked script ticks =
    record { painted = opening_hold IsPainted refl script 0 8; timed = others_tickless script 1 7 ticks (omega arith) }
