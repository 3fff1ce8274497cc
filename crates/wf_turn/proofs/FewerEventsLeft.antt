-- Each answer leaves a program with fewer events to make.
use Rattle.wf_turn.proofs.Common.{◌≡◌, ◌∙◌, ℕ, ◌+◌, ◌*◌, ◌-◌, ◌≤◌, ◌==◌, true, false, not, cond, ◌||◌, List, [], ◌∷◌, Option, Some, None}
use Rattle.wf_turn.proofs.Common.{refl, sym, ap, subst, arith, IsTrue, nat_lt, is_some, option_map, IfSome, sum_by-cons, Canvas, Paint}
use Rattle.wf_turn.proofs.Common.{unheld, Payload, Reply, Line, Verb, Phase, Stage, bound_name, Program, asked_next, at_port, before, bound}
use Rattle.wf_turn.proofs.Common.{first_line, first_of, given_canvas, go_on, is_event, line_done, painted_job, port_count, silent, skipped}
use Rattle.wf_turn.proofs.Common.{ticking, took, took_at, took_first, took_frame, took_job, took_phase, worked, left}
use Rattle.wf_turn.proofs.Common.{line_quota, lines_left}
use Rattle.wf_turn.proofs.Common.{IsAsking, IsAt, IsFit}
use Rattle.wf_calls.specs.declared.reply.Payload.TheVariants as payload
use Rattle.wf_script.specs.declared.line.Verb.TheVariants as verb
use Rattle.wf_turn.specs.declared.stage.Phase.TheVariants as phase
use Rattle.wf_turn.specs.declared.stage.Stage.TheVariants as stage
use Rattle.wf_turn.specs.Quota.{phase_left, next_left, stage_left}
use Rattle.wf_model.specs.declared.TheConstants.{MOST_CONTEXTS}

one_line : (l : ℕ × Line) (ls : List (ℕ × Line)) → lines_left (l ∷ ls) ≡ line_quota l.1.verb + lines_left ls
one_line l ls = sum_by-cons (λ m. line_quota m.1.verb) l ls

left_skipped : (p : Program) (canvas : Option Canvas) (ls : List (ℕ × Line))
    → left (record p { canvas = (skipped canvas ls).0; lines = (skipped canvas ls).1; stage = stage.Fresh }) ≤ lines_left ls
left_skipped p canvas [] = omega arith
left_skipped p canvas (l ∷ ls) =
    elim (is_event (is_some canvas) l.1.verb) as (λ b. Left (cond b (canvas, l ∷ ls) (skipped (silent l.1.verb canvas) ls)) ≤ lines_left (l
    ∷ ls)) [
      | true ↦ omega (arith, one_line l ls)
      | false ↦ (let rest = left_skipped p (silent l.1.verb canvas) ls in omega (arith, rest, one_line l ls))
    ]
  where
    Left : Option Canvas × List (ℕ × Line) → ℕ
    Left s = left (record p { canvas = s.0; lines = s.1; stage = stage.Fresh })

pub left_before : (p : Program) (ls : List (ℕ × Line)) → left (before p ls) ≤ lines_left ls
left_before p ls = left_skipped p p.canvas ls

-- a program whose first line is this one
module _ (p : Program) (l : ℕ × Line) (ls : List (ℕ × Line)) where
  abbrev at_line : Program
  at_line = record p { lines = l ∷ ls }

  left_done : (v : ℕ) → left (line_done at_line v) ≤ lines_left ls
  left_done v = left_before (record at_line { own = bound (bound_name l.1) v p.own }) ls

  left_ports : (port : ℕ) → left (at_port at_line port) ≤ 2 * (port_count p + 1 - port) + lines_left ls
  left_ports port =
      elim (nat_lt (port_count p) port)
      as (λ b. left (cond b (line_done at_line 0) (record at_line { stage = stage.Ticking (phase.Ports port) })) ≤
      2 * (port_count p + 1 - port) + lines_left ls) [
        | true ↦ omega (arith, left_done 0)
        | false ↦ omega arith
      ]

  left_asked : (asked last : ℕ) → left (asked_next at_line asked last) ≤ 2 * (MOST_CONTEXTS - asked) + 2 * port_count p + lines_left ls
  left_asked asked last =
      elim ((last == 0) || not (nat_lt asked MOST_CONTEXTS)) as (λ b. left
      (cond b (at_port at_line 1) (record at_line { stage = stage.Ticking (phase.Contexts asked last) })) ≤
      2 * (MOST_CONTEXTS - asked) + 2 * port_count p + lines_left ls) [
        | true ↦ omega (arith, left_ports 1)
        | false ↦ omega arith
      ]

  left_on : (m : Option Phase) → left (go_on at_line m) ≤ next_left (port_count p) m + lines_left ls
  left_on None = omega (arith, left_done 0)
  left_on (Some (phase.Contexts asked last)) = left_asked asked last
  left_on (Some (phase.Ports port)) = left_ports port

  left_frame : (paint : Paint) (canvas : Option Canvas) → left (took_frame at_line paint canvas) ≤ 1 + lines_left ls
  left_frame paint None = omega (arith, left_done 0)
  left_frame paint (Some canvas) = omega arith

left_job : (p : Program) (l : ℕ × Line) (ls : List (ℕ × Line)) (given : Payload) (m : Option Phase)
    → left (took_job (record p { lines = l ∷ ls }) given m) ≤ next_left (port_count p) m + 1 + lines_left ls
left_job p l ls (payload.Job job) m = omega arith
left_job p l ls payload.Nothing m = omega (arith, left_on (unheld p) l ls m)
left_job p l ls (payload.Canvas canvas) m = omega (arith, left_on (unheld p) l ls m)

left_first : (p : Program) (l : ℕ × Line) (ls : List (ℕ × Line)) (v : Verb) (reply : Reply) → IsTrue (is_event (is_some p.canvas) v)
    → port_count p ≤ 4
    → left (took_first (record p { lines = l ∷ ls }) (record l.1 { verb = v }) reply) + 1 ≤ line_quota v + lines_left ls
left_first p l ls (verb.Acquire s) reply event few = omega (arith, left_done (record p { canvas = given_canvas reply.payload }) l ls 0)
left_first p l ls verb.Post reply event few = omega (arith, left_done (record p { canvas = given_canvas reply.payload }) l ls 0)
left_first p l ls verb.Discard reply event few = omega (arith, left_done (record p { canvas = given_canvas reply.payload }) l ls 0)
left_first p l ls (verb.Paint paint) reply event few = absurd cc
left_first p l ls (verb.Frame s paint) reply event few = omega (arith, left_frame p l ls paint (given_canvas reply.payload))
left_first p l ls verb.Tick reply event few =
    omega (arith, few, left_job (ticking p) l ls reply.payload (Some (phase.Contexts 1 reply.value)))
left_first p l ls (verb.Compose d c) reply event few = omega (arith, left_job p l ls reply.payload None)
left_first p l ls (verb.TryCompose d c) reply event few = omega (arith, left_job p l ls reply.payload None)
left_first p l ls _ reply event few = omega (arith, left_done p l ls reply.value)

left_phase : (p : Program) (l : ℕ × Line) (ls : List (ℕ × Line)) (m : Phase) (reply : Reply) → IsAsking (port_count p) m
    → left (took_phase (record p { lines = l ∷ ls }) reply m) + 1 ≤ phase_left (port_count p) m + lines_left ls
left_phase p l ls (phase.Contexts asked last) reply asking =
    omega (arith, asking, left_job p l ls reply.payload (Some (phase.Contexts (asked + 1) reply.value)))
left_phase p l ls (phase.Ports port) reply asking = omega (arith, asking, left_job p l ls reply.payload (Some (phase.Ports (port + 1))))

left_at : (p : Program) (l : ℕ × Line) (ls : List (ℕ × Line)) (s : Stage) (reply : Reply) → IsAt (record p { lines = l ∷ ls }) l.1 s
    → port_count p ≤ 4
    → left (took_at (record p { lines = l ∷ ls }) l.1 reply s) + 1 ≤ stage_left (port_count p) l.1.verb s + lines_left ls
left_at p l ls stage.Fresh reply at few = left_first p l ls l.1.verb reply at few
left_at p l ls stage.Posting reply at few = omega (arith, left_done (record p { canvas = given_canvas reply.payload }) l ls 0)
left_at p l ls (stage.Ticking m) reply at few = left_phase p l ls m reply at
left_at p l ls (stage.Ending m) reply at few = omega (arith, left_on (unheld p) l ls m)

left_worked : (p : Program) → left (worked p) ≡ left p
left_worked p =
    elim p.unpainted as (λ b. left (cond b (record p { job = option_map painted_job p.job; unpainted = false }) p)
    ≡ left p) [ true ↦ refl | false ↦ refl ]

-- each answer is one event less
pub left_took : (p : Program) (l : Line) (reply : Reply) → IsFit p → first_line p ≡ Some l → left (worked (took p reply)) + 1 ≤ left p
left_took p l reply fit is = of_lines p.lines refl
  where
    of_lines : (ls : List (ℕ × Line)) → p.lines ≡ ls → left (worked (took p reply)) + 1 ≤ left p
    of_lines [] none = (let no : None ≡ Some l = ap first_of (sym none) ∙ is in absurd cc)
    of_lines (m ∷ ls) some =
        let same : p ≡ record p { lines = m ∷ ls } = ap (λ ms. record p { lines = ms }) some in
        let at : IsAt (record p { lines = m ∷ ls }) m.1 p.stage =
        subst (λ ms. IfSome (first_of ms) (λ k. IsAt (record p { lines = ms }) k p.stage)) some fit.at in
        let less = left_at p m ls p.stage reply at fit.ports in
        let full : left (worked (took (record p { lines = m ∷ ls }) reply)) + 1 ≤ left (record p { lines = m ∷ ls }) =
        rw (left_worked (took (record p { lines = m ∷ ls }) reply)) (omega (arith, less)) in
        subst (λ q. left (worked (took q reply)) + 1 ≤ left q) (sym same) full
