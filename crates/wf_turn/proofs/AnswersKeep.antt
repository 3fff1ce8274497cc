-- What an answer leaves of a program: all but its lines, its names, what it holds, its stage and its tick.
use Rattle.wf_turn.proofs.Common.{unheld}
use Rattle.wf_turn.proofs.Common.{◌≡◌, ℕ, ◌+◌, Bool, true, false, not, cond, ◌==◌, ◌||◌, List, [], ◌∷◌, Option, Some, None, refl, sym, ap}
use Rattle.wf_turn.proofs.Common.{◌∙◌, IsTrue, subst, nat_lt, option_map, Canvas, Paint, Job, Payload, Reply, Line, Verb, Name, Phase}
use Rattle.wf_turn.proofs.Common.{Stage, bound_name}
use Rattle.wf_turn.proofs.Common.{Program, at_port, before, bound, first_line, given_canvas, go_on, line_done, painted_job, port_count}
use Rattle.wf_turn.proofs.Common.{skipped, ticking, took, took_at, took_first, took_frame, took_job, took_phase, worked}
use Rattle.wf_calls.specs.declared.reply.Payload.TheVariants as payload
use Rattle.wf_script.specs.declared.line.Verb.TheVariants as verb
use Rattle.wf_turn.specs.declared.stage.Phase.TheVariants as phase
use Rattle.wf_turn.specs.declared.stage.Stage.TheVariants as stage
use Rattle.wf_turn.specs.Program.{is_begun}
use Rattle.wf_image.specs.Paints.{painted_canvas}
use Rattle.wf_model.specs.declared.TheConstants.{MOST_CONTEXTS}

-- a program whose changing parts are these
abbrev pub changed : Program → List (ℕ × Line) → List (Name × ℕ) → Option Canvas → Option Job → Bool → Stage → ℕ → Program
changed p lines own canvas job unpainted stage tick =
    record p { lines = lines; own = own; canvas = canvas; job = job; unpainted = unpainted; stage = stage; tick = tick }

-- what is true of a program, P, stays so while its lines are the same; and once a line may be through, Q is
module _ (P Q : Program → Type 0) (weak : (p : Program) → P p → Q p)
    (keeps : (p : Program) (canvas : Option Canvas) (job : Option Job) (unpainted : Bool) (s : Stage) (tick : ℕ) → P p
    → P (changed p p.lines p.own canvas job unpainted s tick))
    (through : (p : Program) (lines : List (ℕ × Line)) (own : List (Name × ℕ)) (canvas : Option Canvas) → P p
    → Q (changed p lines own canvas p.job p.unpainted stage.Fresh p.tick)) where
  keeps_done : (p : Program) (v : ℕ) → P p → Q (line_done p v)
  keeps_done p v holds = of_lines p.lines refl
    where
      of_lines : (ls : List (ℕ × Line)) → p.lines ≡ ls → Q (line_done p v)
      of_lines [] is =
          let same : line_done p v ≡ record p { lines = [] } = ap (λ ms. line_done (record p { lines = ms }) v) is in
          let back : record p { lines = [] } ≡ p = ap (λ ms. record p { lines = ms }) (sym is) in
          subst Q (sym (same ∙ back)) (weak p holds)
      of_lines (l ∷ ls) is =
          let same : line_done p v ≡ before (record p { own = bound (bound_name l.1) v p.own }) ls =
          ap (λ ms. line_done (record p { lines = ms }) v) is in
          subst Q (sym same) (through p (skipped p.canvas ls).1 (bound (bound_name l.1) v p.own) (skipped p.canvas ls).0 holds)

  keeps_at : (p : Program) (s : Stage) → P p → Q (record p { stage = s })
  keeps_at p s holds = weak (record p { stage = s }) (keeps p p.canvas p.job p.unpainted s p.tick holds)

  keeps_port : (p : Program) (port : ℕ) → P p → Q (at_port p port)
  keeps_port p port holds =
      elim (nat_lt (port_count p) port) as (λ b. Q (cond b (line_done p 0) (record p { stage = stage.Ticking (phase.Ports port) }))) [
        | true ↦ keeps_done p 0 holds
        | false ↦ keeps_at p _ holds
      ]

  keeps_on : (p : Program) (l : Option Phase) → P p → Q (go_on p l)
  keeps_on p None holds = keeps_done p 0 holds
  keeps_on p (Some (phase.Contexts asked last)) holds =
      elim ((last == 0) || not (nat_lt asked MOST_CONTEXTS)) as (λ b. Q
      (cond b (at_port p 1) (record p { stage = stage.Ticking (phase.Contexts asked last) }))) [
        | true ↦ keeps_port p 1 holds
        | false ↦
            keeps_at p _ holds
      ]
  keeps_on p (Some (phase.Ports port)) holds = keeps_port p port holds

  keeps_unheld : (p : Program) (l : Option Phase) → P p → Q (go_on (unheld p) l)
  keeps_unheld p l holds = keeps_on (unheld p) l (keeps p p.canvas None false p.stage p.tick holds)

  keeps_job : (p : Program) (given : Payload) (l : Option Phase) → P p → Q (took_job p given l)
  keeps_job p (payload.Job job) l holds = weak (took_job p (payload.Job job) l)
      (keeps p p.canvas (Some job) true (stage.Ending l) p.tick holds)
  keeps_job p payload.Nothing l holds = keeps_unheld p l holds
  keeps_job p (payload.Canvas canvas) l holds = keeps_unheld p l holds

  keeps_canvas : (p : Program) (canvas : Option Canvas) → P p → Q (line_done (record p { canvas = canvas }) 0)
  keeps_canvas p canvas holds = keeps_done (record p { canvas = canvas }) 0 (keeps p canvas p.job p.unpainted p.stage p.tick holds)

  keeps_frame : (p : Program) (paint : Paint) (canvas : Option Canvas) → P p → Q (took_frame p paint canvas)
  keeps_frame p paint None holds = keeps_done p 0 holds
  keeps_frame p paint (Some canvas) holds = weak (took_frame p paint (Some canvas))
      (keeps p (Some (painted_canvas paint canvas)) p.job p.unpainted stage.Posting p.tick holds)

  keeps_first : (p : Program) (l : Line) (v : Verb) (reply : Reply) → P p → Q (took_first p (record l { verb = v }) reply)
  keeps_first p l (verb.Acquire s) reply holds = keeps_canvas p (given_canvas reply.payload) holds
  keeps_first p l verb.Post reply holds = keeps_canvas p (given_canvas reply.payload) holds
  keeps_first p l verb.Discard reply holds = keeps_canvas p (given_canvas reply.payload) holds
  keeps_first p l (verb.Frame s paint) reply holds = keeps_frame p paint (given_canvas reply.payload) holds
  keeps_first p l verb.Tick reply holds =
      keeps_job (ticking p) reply.payload (Some (phase.Contexts 1 reply.value))
      (keeps p p.canvas p.job p.unpainted (stage.Ticking (phase.Contexts 0 0)) (p.tick + 1) holds)
  keeps_first p l (verb.Compose d c) reply holds = keeps_job p reply.payload None holds
  keeps_first p l (verb.TryCompose d c) reply holds = keeps_job p reply.payload None holds
  keeps_first p l _ reply holds = keeps_done p reply.value holds

  keeps_phase : (p : Program) (reply : Reply) (l : Phase) → P p → Q (took_phase p reply l)
  keeps_phase p reply (phase.Contexts asked last) holds = keeps_job p reply.payload (Some (phase.Contexts (asked + 1) reply.value)) holds
  keeps_phase p reply (phase.Ports port) holds = keeps_job p reply.payload (Some (phase.Ports (port + 1))) holds

  keeps_stage : (p : Program) (l : Line) (reply : Reply) (s : Stage) → P p → Q (took_at p l reply s)
  keeps_stage p l reply stage.Fresh holds = keeps_first p l l.verb reply holds
  keeps_stage p l reply stage.Posting holds = keeps_canvas p (given_canvas reply.payload) holds
  keeps_stage p l reply (stage.Ticking m) holds = keeps_phase p reply m holds
  keeps_stage p l reply (stage.Ending m) holds = keeps_unheld p m holds

  pub keeps_took : (p : Program) (reply : Reply) → P p → Q (took p reply)
  keeps_took p reply holds = of_line (first_line p) refl
    where
      of_line : (o : Option Line) → first_line p ≡ o → Q (took p reply)
      of_line None is = rw is (weak p holds)
      of_line (Some l) is = rw is (keeps_stage p l reply p.stage holds)

-- what does not speak of the Job stays true where it is painted
pub keeps_worked : (Q : Program → Type 0) → ((p : Program) (job : Option Job) → Q p → Q (record p { job = job; unpainted = false }))
    → (p : Program) → Q p → Q (worked p)
keeps_worked Q keeps p holds =
    elim p.unpainted as (λ b. Q (cond b (record p { job = option_map painted_job p.job; unpainted = false }) p)) [
      | true ↦ keeps p (option_map painted_job p.job) holds
      | false ↦ holds
    ]

-- what does not speak of the changing parts stays true
same_part : {A : Type 0} (part : Program → A)
    → ((p : Program) (lines : List (ℕ × Line)) (own : List (Name × ℕ)) (canvas : Option Canvas) (job : Option Job) (unpainted : Bool)
    (s : Stage) (tick : ℕ) → part (changed p lines own canvas job unpainted s tick) ≡ part p)
    → (p : Program) (reply : Reply) → part (worked (took p reply)) ≡ part p
same_part part same p reply =
    let P : Program → Type 0 = λ q. part q ≡ part p in
    keeps_worked P (λ q job h. same q q.lines q.own q.canvas job false q.stage q.tick ∙ h) (took p reply)
    (keeps_took P P (λ q h. h) (λ q canvas job unpainted s tick h. same q q.lines q.own canvas job unpainted s tick ∙ h)
    (λ q lines own canvas h. same q lines own canvas q.job q.unpainted stage.Fresh q.tick ∙ h) p reply refl)

-- script, client and learned names stay
pub same_script : (p : Program) (reply : Reply) → (worked (took p reply)).script ≡ p.script
same_script = same_part (λ q. q.script) (λ q lines own canvas job unpainted s tick. refl)

pub same_client : (p : Program) (reply : Reply) → (worked (took p reply)).client ≡ p.client
same_client = same_part (λ q. q.client) (λ q lines own canvas job unpainted s tick. refl)

pub worked_lines : (p : Program) → (worked p).lines ≡ p.lines
worked_lines p = keeps_worked (λ q. q.lines ≡ p.lines) (λ q job h. h) p refl

-- a line that was begun and is not through is still the first one
pub begun_still : (p : Program) (reply : Reply) → IsTrue (is_begun (worked (took p reply)).stage) → (worked (took p reply)).lines ≡ p.lines
begun_still p reply =
    let P : Program → Type 0 = λ q. q.lines ≡ p.lines in
    let Q : Program → Type 0 = λ q. IsTrue (is_begun q.stage) → q.lines ≡ p.lines in
    keeps_worked Q (λ q job h. h) (took p reply)
    (keeps_took P Q (λ q h begun. h) (λ q canvas job unpainted s tick h. h) (λ q lines own canvas h begun. absurd cc) p reply refl)

-- a program by whether its Job is to be painted
abbrev pub worked_if : Bool → Program → Program
worked_if b p = cond b (record p { job = option_map painted_job p.job; unpainted = false }) p

pub worked_painted : (p : Program) → (worked p).unpainted ≡ false
worked_painted p = elim p.unpainted as (λ b. p.unpainted ≡ b
    → (worked_if b p).unpainted ≡ false) [ true ↦ λ was. refl | false ↦ λ was. was ] refl
