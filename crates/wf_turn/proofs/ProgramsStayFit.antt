-- A program that took an answer can make its next call.
use Rattle.wf_turn.proofs.Common.{unheld}
use Rattle.wf_turn.proofs.Common.{◌≡◌, ℕ, ◌+◌, ◌≤◌, ◌==◌, Bool, true, false, not, cond, ◌||◌, List, [], ◌∷◌, Option, Some, None, refl, sym}
use Rattle.wf_turn.proofs.Common.{ap, subst, arith, IsTrue, nat_lt, is_some, option_map, IfSome, IsSome, ltb-true, Canvas, Paint, Job}
use Rattle.wf_turn.proofs.Common.{Payload, Reply, Line, Verb, Phase, Stage, Wanted, bound_name, Program, asked_next, at_port, before, bound}
use Rattle.wf_turn.proofs.Common.{first_call, first_line, first_of, given_canvas, go_on, is_event, line_done, next, painted_job, port_count}
use Rattle.wf_turn.proofs.Common.{silent, skipped, taught, ticking, took, took_at, took_first, took_frame, took_job, took_phase, wanted_at}
use Rattle.wf_turn.proofs.Common.{worked, IsAsking, IsAt, IsFit}
use Rattle.std.proofs.lemmas.Bool.{ltb-false, or_parts}
use Rattle.wf_calls.specs.declared.reply.Payload.TheVariants as payload
use Rattle.wf_script.specs.declared.line.Verb.TheVariants as verb
use Rattle.wf_turn.specs.declared.stage.Phase.TheVariants as phase
use Rattle.wf_turn.specs.declared.stage.Stage.TheVariants as stage
use Rattle.wf_turn.specs.Ready.{IsAnswered}
use Rattle.wf_model.specs.declared.TheConstants.{MOST_CONTEXTS}

-- where lines are skipped, an event stands first
skips_to : (canvas : Option Canvas) (ls : List (ℕ × Line))
    → IfSome (first_of (skipped canvas ls).1) (λ l. IsTrue (is_event (is_some (skipped canvas ls).0) l.verb))
skips_to canvas [] = tt
skips_to canvas (l ∷ ls) =
    elim (is_event (is_some canvas) l.1.verb) as (λ b. is_event (is_some canvas) l.1.verb ≡ b
    → Fits (cond b (canvas, l ∷ ls) (skipped (silent l.1.verb canvas) ls))) [
      | true ↦ λ is. is
      | false ↦ λ is. skips_to (silent l.1.verb canvas) ls
    ] refl
  where
    Fits : Option Canvas × List (ℕ × Line) → Type 0
    Fits s = IfSome (first_of s.1) (λ l. IsTrue (is_event (is_some s.0) l.verb))

-- a program that holds what it is to hold, but for the paint of its Job
record Holds (p : Program) : Type 0 where
  at : IfSome (first_line p) (λ l. IsAt p l p.stage)
  ports : port_count p ≤ 4

if_some : {A : Type 0} {P : A → Type 0} (o : Option A) → ((x : A) → P x) → IfSome o P
if_some None all = tt
if_some (Some x) all = all x

holds_before : (p : Program) (ls : List (ℕ × Line)) → port_count p ≤ 4 → Holds (before p ls)
holds_before p ls few = record { at = skips_to p.canvas ls; ports = few }

holds_done : (p : Program) (v : ℕ) → port_count p ≤ 4 → Holds (line_done p v)
holds_done p v few = of_lines p.lines refl
  where
    of_lines : (ls : List (ℕ × Line)) → p.lines ≡ ls → Holds (line_done p v)
    of_lines [] is =
        let same : line_done p v ≡ record p { lines = [] } = ap (λ ms. line_done (record p { lines = ms }) v) is in
        subst Holds (sym same) (record { at = tt; ports = few })
    of_lines (l ∷ ls) is =
        let same : line_done p v ≡ before (record p { own = bound (bound_name l.1) v p.own }) ls =
        ap (λ ms. line_done (record p { lines = ms }) v) is in
        subst Holds (sym same) (holds_before (record p { own = bound (bound_name l.1) v p.own }) ls few)

holds_ports : (p : Program) (port : ℕ) → port_count p ≤ 4 → Holds (at_port p port)
holds_ports p port few =
    elim (nat_lt (port_count p) port) as (λ b. nat_lt (port_count p) port ≡ b
    → Holds (cond b (line_done p 0) (record p { stage = stage.Ticking (phase.Ports port) }))) [
      | true ↦ λ over. holds_done p 0 few
      | false ↦ λ within. record { at = if_some (first_line p) (λ l. ltb-false (port_count p) port within); ports = few }
    ] refl

holds_asked : (p : Program) (asked last : ℕ) → port_count p ≤ 4 → Holds (asked_next p asked last)
holds_asked p asked last few =
    elim ((last == 0) || not (nat_lt asked MOST_CONTEXTS)) as (λ b. ((last == 0) || not (nat_lt asked MOST_CONTEXTS)) ≡ b
    → Holds (cond b (at_port p 1) (record p { stage = stage.Ticking (phase.Contexts asked last) }))) [
      | true ↦ λ over. holds_ports p 1 few
      | false ↦
          λ on. record {
            at = if_some (first_line p) (λ l. ltb-true asked MOST_CONTEXTS
                (below (nat_lt asked MOST_CONTEXTS) (or_parts (last == 0) (not (nat_lt asked MOST_CONTEXTS)) on).1));
            ports = few;
          }
    ] refl
  where
    below : (b : Bool) → not b ≡ false → b ≡ true
    below true is = refl
    below false is = absurd cc

holds_on : (p : Program) (l : Option Phase) → port_count p ≤ 4 → Holds (go_on p l)
holds_on p None few = holds_done p 0 few
holds_on p (Some (phase.Contexts asked last)) few = holds_asked p asked last few
holds_on p (Some (phase.Ports port)) few = holds_ports p port few

holds_job : (p : Program) (given : Payload) (l : Option Phase) → IsAnswered (port_count p) l → port_count p ≤ 4 → Holds (took_job p given l)
holds_job p (payload.Job job) l answered few = record { at = if_some (first_line p) (λ m. (refl, answered)); ports = few }
holds_job p payload.Nothing l answered few = holds_on (unheld p) l few
holds_job p (payload.Canvas canvas) l answered few = holds_on (unheld p) l few

holds_frame : (p : Program) (paint : Paint) (canvas : Option Canvas) → port_count p ≤ 4 → Holds (took_frame p paint canvas)
holds_frame p paint None few = holds_done p 0 few
holds_frame p paint (Some canvas) few = record { at = if_some (first_line p) (λ l. refl); ports = few }

holds_first : (p : Program) (l : Line) (reply : Reply) → port_count p ≤ 4 → Holds (took_first p l reply)
holds_first p l reply few = of_all l.verb
  where
    At : Verb → Type 0
    At v = Holds (took_first p (record l { verb = v }) reply)

    of_all : (v : Verb) → At v
    of_all (verb.Acquire s) = holds_done (record p { canvas = given_canvas reply.payload }) 0 few
    of_all verb.Post = holds_done (record p { canvas = given_canvas reply.payload }) 0 few
    of_all verb.Discard = holds_done (record p { canvas = given_canvas reply.payload }) 0 few
    of_all (verb.Frame s paint) = holds_frame p paint (given_canvas reply.payload) few
    of_all verb.Tick = holds_job (ticking p) reply.payload (Some (phase.Contexts 1 reply.value)) (omega arith) few
    of_all (verb.Compose d c) = holds_job p reply.payload None tt few
    of_all (verb.TryCompose d c) = holds_job p reply.payload None tt few
    of_all _ = holds_done p reply.value few

holds_phase : (p : Program) (reply : Reply) (l : Phase) → IsAsking (port_count p) l → port_count p ≤ 4 → Holds (took_phase p reply l)
holds_phase p reply (phase.Contexts asked last) asking few =
    holds_job p reply.payload (Some (phase.Contexts (asked + 1) reply.value)) (omega (arith, asking)) few
holds_phase p reply (phase.Ports port) asking few = holds_job p reply.payload (Some (phase.Ports (port + 1))) (omega (arith, asking)) few

holds_at : (p : Program) (l : Line) (reply : Reply) (s : Stage) → IsAt p l s → port_count p ≤ 4 → Holds (took_at p l reply s)
holds_at p l reply stage.Fresh at few = holds_first p l reply few
holds_at p l reply stage.Posting at few = holds_done (record p { canvas = given_canvas reply.payload }) 0 few
holds_at p l reply (stage.Ticking m) at few = holds_phase p reply m at few
holds_at p l reply (stage.Ending m) at few = holds_on (record p { job = None; unpainted = false }) m few

holds_took : (p : Program) (reply : Reply) → IsFit p → Holds (took p reply)
holds_took p reply fit = of_line (first_line p) refl
  where
    of_line : (o : Option Line) → first_line p ≡ o → Holds (took p reply)
    of_line None none = rw none (record { at = rw none tt; ports = fit.ports })
    of_line (Some l) is = rw is (holds_at p l reply p.stage (rw is at fit.at) fit.ports)

pub fit_before : (p : Program) (ls : List (ℕ × Line)) → port_count p ≤ 4 → p.unpainted ≡ false → IsFit (before p ls)
fit_before p ls few painted = record { at = skips_to p.canvas ls; painted = painted; ports = few }

-- a program is fit once its Job is painted
fit_worked : (p : Program) → Holds p → IsFit (worked p)
fit_worked p holds =
    elim p.unpainted as (λ b. p.unpainted ≡ b → IsFit (cond b (record p { job = option_map painted_job p.job; unpainted = false }) p)) [
      | true ↦ λ was. record { at = still (first_line p) holds.at; painted = refl; ports = holds.ports }
      | false ↦ λ was. record { at = holds.at; painted = was; ports = holds.ports }
    ] refl
  where
    some_map : (o : Option Job) → IsSome o → IsSome (option_map painted_job o)
    some_map None some = absurd cc
    some_map (Some job) some = refl

    of_stage : (l : Line) (s : Stage) → IsAt p l s → IsAt (record p { job = option_map painted_job p.job; unpainted = false }) l s
    of_stage l stage.Fresh at = at
    of_stage l stage.Posting at = at
    of_stage l (stage.Ticking m) at = at
    of_stage l (stage.Ending m) at = (some_map p.job at.0, at.1)

    still : (o : Option Line) → IfSome o (λ l. IsAt p l p.stage)
        → IfSome o (λ l. IsAt (record p { job = option_map painted_job p.job; unpainted = false }) l p.stage)
    still None at = tt
    still (Some l) at = of_stage l p.stage at

pub fit_took : (p : Program) (reply : Reply) → IsFit p → IsFit (worked (took p reply))
fit_took p reply fit = fit_worked (took p reply) (holds_took p reply fit)

pub fit_taught : (clock p : Program) → IsFit p → IsFit (taught clock p)
fit_taught clock p fit = record { at = still (first_line p) fit.at; painted = fit.painted; ports = fit.ports }
  where
    of_stage : (l : Line) (s : Stage) → IsAt p l s → IsAt (taught clock p) l s
    of_stage l stage.Fresh at = at
    of_stage l stage.Posting at = at
    of_stage l (stage.Ticking m) at = at
    of_stage l (stage.Ending m) at = at

    still : (o : Option Line) → IfSome o (λ l. IsAt p l p.stage) → IfSome o (λ l. IsAt (taught clock p) l p.stage)
    still None at = tt
    still (Some l) at = of_stage l p.stage at

-- a fit program whose lines are not through wants a call
pub wants : (p : Program) (l : Line) → IsFit p → first_line p ≡ Some l → IsSome (next p)
wants p l fit is = rw is (of_stage p.stage (rw is at fit.at))
  where
    of_map : {A B : Type 0} (f : A → B) (o : Option A) → IsSome o → IsSome (option_map f o)
    of_map f None some = absurd cc
    of_map f (Some x) some = refl

    of_held : (b : Bool) (w : Wanted) → not b ≡ true → IsSome (cond b None (Some w))
    of_held true w held = absurd cc
    of_held false w held = refl

    of_verb : (v : Verb) → IsTrue (is_event (is_some p.canvas) v) → IsSome (first_call p v)
    of_verb (verb.Acquire s) event = of_held (is_some p.canvas) _ event
    of_verb verb.Post event = of_map _ p.canvas event
    of_verb verb.Discard event = of_map _ p.canvas event
    of_verb (verb.Paint paint) event = absurd cc
    of_verb (verb.Frame s paint) event = of_held (is_some p.canvas) _ event
    of_verb _ event = refl

    of_stage : (s : Stage) → IsAt p l s → IsSome (wanted_at p l.verb s)
    of_stage stage.Fresh at = of_verb l.verb at
    of_stage stage.Posting at = of_map _ p.canvas at
    of_stage (stage.Ticking m) at = refl
    of_stage (stage.Ending m) at = of_map _ p.job at.0
