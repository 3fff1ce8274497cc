-- What an answer leaves of the lines of a program is a rest of them. So a setup that is through stays through.
use Rattle.wf_turn.proofs.Common.{◌≡◌, ℕ, ◌+◌, ◌≤◌, ◌==◌, Bool, true, false, not, cond, ◌||◌, List, [], ◌∷◌, Option, Some, None}
use Rattle.wf_turn.proofs.Common.{refl, sym, ap, subst, arith, nat_le, nat_lt, filter, enumerate_from, list_all, is_some, option_map}
use Rattle.wf_turn.proofs.Common.{nat_tests}
use Rattle.wf_turn.proofs.Common.{and_parts, Canvas, Paint, Payload, Reply, Line, Verb, PlainScript, bound_name, Program}
use Rattle.wf_turn.proofs.Common.{at_port}
use Rattle.wf_turn.proofs.Common.{before, bound, first_line, given_canvas, go_on, in_setup, is_event, line_done, lines_from, painted_job}
use Rattle.wf_turn.proofs.Common.{port_count, program, setup_lines, silent, skipped, ticking, took, took_at, took_first, took_frame}
use Rattle.wf_turn.proofs.Common.{took_job, unheld}
use Rattle.wf_turn.proofs.Common.{worked}
use Rattle.wf_turn.specs.declared.stage.Phase.{Phase}
use Rattle.wf_turn.specs.declared.stage.Stage.{Stage}
use Rattle.std.proofs.lemmas.Bool.{and_from, leb-true, ltb-false}
use Rattle.wf_calls.specs.declared.reply.Payload.TheVariants as payload
use Rattle.wf_script.specs.declared.line.Verb.TheVariants as verb
use Rattle.wf_turn.specs.Program.{answered}
use Rattle.wf_turn.specs.declared.stage.Phase.TheVariants as phase
use Rattle.wf_turn.specs.declared.stage.Stage.TheVariants as stage

abbrev pub Rows : Type 0
Rows = List (ℕ × Line)

-- what holds of lines and of each rest of them holds of the lines that an answer leaves
module _ (Q : Rows → Type 0) (tail : (l : ℕ × Line) (ls : Rows) → Q (l ∷ ls) → Q ls) where
  pub skipped_keep : (canvas : Option Canvas) (ls : Rows) → Q ls → Q (skipped canvas ls).1
  skipped_keep canvas [] q = q
  skipped_keep canvas (l ∷ ls) q =
      elim (is_event (is_some canvas) l.1.verb) as (λ b. Q (cond b (canvas, l ∷ ls) (skipped (silent l.1.verb canvas) ls)).1) [
        | true ↦ q
        | false ↦ skipped_keep (silent l.1.verb canvas) ls (tail l ls q)
      ]

  done_keep : (p : Program) (v : ℕ) → Q p.lines → Q (line_done p v).lines
  done_keep p v q = of_lines p.lines refl
    where
      of_lines : (ls : Rows) → p.lines ≡ ls → Q (line_done p v).lines
      of_lines [] is =
          let same : line_done p v ≡ record p { lines = [] } = ap (λ ms. line_done (record p { lines = ms }) v) is in
          subst (λ x. Q x.lines) (sym same) (subst Q is q)
      of_lines (l ∷ ls) is =
          let same : line_done p v ≡ before (record p { own = bound (bound_name l.1) v p.own }) ls =
          ap (λ ms. line_done (record p { lines = ms }) v) is in
          subst (λ x. Q x.lines) (sym same) (skipped_keep p.canvas ls (tail l ls (subst Q is q)))

  port_keep : (p : Program) (port : ℕ) → Q p.lines → Q (at_port p port).lines
  port_keep p port q =
      elim (nat_lt (port_count p) port)
      as (λ b. Q (cond b (line_done p 0) (record p { stage = stage.Ticking (phase.Ports port) })).lines) [
        | true ↦ done_keep p 0 q
        | false ↦ q
      ]

  on_keep : (p : Program) (l : Option Phase) → Q p.lines → Q (go_on p l).lines
  on_keep p None q = done_keep p 0 q
  on_keep p (Some (phase.Contexts asked last)) q =
      elim ((last == 0) || not (nat_lt asked 16))
      as (λ b. Q (cond b (at_port p 1) (record p { stage = stage.Ticking (phase.Contexts asked last) })).lines) [
        | true ↦ port_keep p 1 q
        | false ↦ q
      ]
  on_keep p (Some (phase.Ports port)) q = port_keep p port q

  job_keep : (p : Program) (given : Payload) (l : Option Phase) → Q p.lines → Q (took_job p given l).lines
  job_keep p (payload.Job job) l q = q
  job_keep p payload.Nothing l q = on_keep (unheld p) l q
  job_keep p (payload.Canvas canvas) l q = on_keep (unheld p) l q

  frame_keep : (p : Program) (paint : Paint) (canvas : Option Canvas) → Q p.lines → Q (took_frame p paint canvas).lines
  frame_keep p paint None q = done_keep p 0 q
  frame_keep p paint (Some canvas) q = q

  first_keep : (p : Program) (l : Line) (v : Verb) (reply : Reply) → Q p.lines → Q (took_first p (record l { verb = v }) reply).lines
  first_keep p l (verb.Acquire s) reply q = done_keep (record p { canvas = given_canvas reply.payload }) 0 q
  first_keep p l verb.Post reply q = done_keep (record p { canvas = given_canvas reply.payload }) 0 q
  first_keep p l verb.Discard reply q = done_keep (record p { canvas = given_canvas reply.payload }) 0 q
  first_keep p l (verb.Frame s paint) reply q = frame_keep p paint (given_canvas reply.payload) q
  first_keep p l verb.Tick reply q = job_keep (ticking p) reply.payload (Some (phase.Contexts 1 reply.value)) q
  first_keep p l (verb.Compose d c) reply q = job_keep p reply.payload None q
  first_keep p l (verb.TryCompose d c) reply q = job_keep p reply.payload None q
  first_keep p l _ reply q = done_keep p reply.value q

  stage_keep : (p : Program) (l : Line) (reply : Reply) (s : Stage) → Q p.lines → Q (took_at p l reply s).lines
  stage_keep p l reply stage.Fresh q = first_keep p l l.verb reply q
  stage_keep p l reply stage.Posting q = done_keep (record p { canvas = given_canvas reply.payload }) 0 q
  stage_keep p l reply (stage.Ticking m) q = job_keep p reply.payload (Some (answered m reply.value)) q
  stage_keep p l reply (stage.Ending m) q = on_keep (record p { job = None; unpainted = false }) m q

  took_keep : (p : Program) (reply : Reply) → Q p.lines → Q (took p reply).lines
  took_keep p reply q = of_line (first_line p) refl
    where
      of_line : (o : Option Line) → first_line p ≡ o → Q (took p reply).lines
      of_line None is = rw is q
      of_line (Some l) is = rw is (stage_keep p l reply p.stage q)

  pub gone_keep : (p : Program) (reply : Reply) → Q p.lines → Q (worked (took p reply)).lines
  gone_keep p reply q =
      let r : Program = took p reply in
      let kept : Q r.lines = took_keep p reply q in
      elim r.unpainted as (λ b. Q (cond b (record r { job = option_map painted_job r.job; unpainted = false }) r).lines) [
        | true ↦ kept
        | false ↦ kept
      ]

-- places

-- all places are at or behind one
abbrev pub behind : ℕ → Rows → Bool
behind k ls = list_all (λ l. nat_le k l.0) ls

-- the places rise
abbrev pub IsRising : Rows → Type 0
IsRising [] = Unit {0}
IsRising (l ∷ ls) = (behind l.0 ls ≡ true) × IsRising ls

behind_tail : (k : ℕ) (l : ℕ × Line) (ls : Rows) → behind k (l ∷ ls) ≡ true → behind k ls ≡ true
behind_tail k l ls all = (and_parts (nat_le k l.0) (behind k ls) all).1

at_most : (m n : ℕ) → m ≤ n → nat_le m n ≡ true
at_most m n low = grind (arith, nat_tests, low)

-- what is behind a place is behind an earlier one
earlier_too : (j k : ℕ) (ls : Rows) → j ≤ k → behind k ls ≡ true → behind j ls ≡ true
earlier_too j k [] low all = refl
earlier_too j k (l ∷ ls) low all =
    let parts = and_parts (nat_le k l.0) (behind k ls) all in
    let here : nat_le j l.0 ≡ true = at_most j l.0 (omega (arith, leb-true k l.0 parts.0, low)) in
    and_from (nat_le j l.0) (behind j ls) here (earlier_too j k ls low parts.1)

numbered_behind : (f : ℕ × Line → Bool) (k at : ℕ) (ls : List Line) → k ≤ at → behind k (filter f (enumerate_from at ls)) ≡ true
numbered_behind f k at [] low = refl
numbered_behind f k at (l ∷ ls) low =
    let rest = numbered_behind f k (at + 1) ls (omega (arith, low)) in
    elim (f (at, l)) as (λ b. behind k (cond b ((at, l) ∷ filter f (enumerate_from (at + 1) ls))
    (filter f (enumerate_from (at + 1) ls))) ≡ true) [
      | true ↦ and_from (nat_le k at) (behind k (filter f (enumerate_from (at + 1) ls))) (at_most k at low) rest
      | false ↦ rest
    ]

numbered_rise : (f : ℕ × Line → Bool) (at : ℕ) (ls : List Line) → IsRising (filter f (enumerate_from at ls))
numbered_rise f at [] = tt
numbered_rise f at (l ∷ ls) =
    let rest = numbered_rise f (at + 1) ls in
    elim (f (at, l)) as (λ b. IsRising (cond b ((at, l) ∷ filter f (enumerate_from (at + 1) ls))
    (filter f (enumerate_from (at + 1) ls)))) [
      | true ↦ (numbered_behind f at (at + 1) ls (omega arith), rest)
      | false ↦ rest
    ]

pub opening_rise : (script : PlainScript) (client : ℕ) → IsRising (program script client).lines
opening_rise script client =
    skipped_keep IsRising (λ l ls rising. rising.1) None (lines_from client 0 script.lines)
    (numbered_rise (λ l. l.1.client == client) 0 script.lines)

pub rise_on : (p : Program) (reply : Reply) → IsRising p.lines → IsRising (worked (took p reply)).lines
rise_on p reply rising = gone_keep IsRising (λ l ls r. r.1) p reply rising

-- a clock whose setup is through has only lines behind it
pub past_setup : (p : Program) → IsRising p.lines → in_setup p ≡ false → behind (setup_lines p.script.lines) p.lines ≡ true
past_setup p rising through = of_lines p.lines refl rising
  where
    k : ℕ
    k = setup_lines p.script.lines

    of_lines : (ls : Rows) → p.lines ≡ ls → IsRising ls → behind k ls ≡ true
    of_lines [] is rise = refl
    of_lines (l ∷ ls) is rise =
        let here : nat_lt l.0 k ≡ false = rw is at through in
        let low : k ≤ l.0 = ltb-false l.0 k here in
        and_from (nat_le k l.0) (behind k ls) (at_most k l.0 low) (earlier_too k l.0 ls low rise.0)

-- and so its setup stays through
pub stays_past : (p : Program) → behind (setup_lines p.script.lines) p.lines ≡ true → in_setup p ≡ false
stays_past p all = of_lines p.lines refl all
  where
    k : ℕ
    k = setup_lines p.script.lines

    of_lines : (ls : Rows) → p.lines ≡ ls → behind k ls ≡ true → in_setup p ≡ false
    of_lines [] is behind_all = rw is refl
    of_lines (l ∷ ls) is behind_all =
        let here = leb-true k l.0 (and_parts (nat_le k l.0) (behind k ls) behind_all).0 in
        let past : nat_lt l.0 k ≡ false = grind (arith, nat_tests, here) in
        rw is past

pub behind_on : (k : ℕ) (p : Program) (reply : Reply) → behind k p.lines ≡ true → behind k (worked (took p reply)).lines ≡ true
behind_on k p reply all = gone_keep (λ ls. behind k ls ≡ true) (behind_tail k) p reply all
