-- The Job that a program holds, and whether that is not painted yet: what is true of both stays true through an answer.
use Rattle.wf_turn.proofs.Common.{◌≡◌, ℕ, zero, suc, ◌+◌, Bool, true, false, not, cond, ◌==◌, ◌&&◌, ◌||◌, List, [], ◌∷◌, map, Option, Some}
use Rattle.wf_turn.proofs.Common.{None, refl, set, nat_lt, Canvas, Paint, Job, Payload, Reply, is_begin, Line, PlainScript, Phase, Wanted}
use Rattle.wf_turn.proofs.Common.{Program, at_port, given_canvas, go_on, line_done, next, port_count, program, taught, took, took_frame}
use Rattle.wf_turn.proofs.Common.{unheld, took_job, all_taught, inherited, is_setting_up, each_mapped, AllByRecursion, range_with_len}
use Rattle.wf_calls.specs.declared.reply.Payload.TheVariants as payload
use Rattle.wf_turn.specs.declared.stage.Phase.TheVariants as phase
use Rattle.wf_turn.specs.declared.stage.Stage.TheVariants as stage
use Rattle.wf_words.specs.Each.{each_set}
use Rattle.wf_turn.proofs.Cases.{turn_case}
use Rattle.wf_model.specs.declared.TheConstants.{MOST_CONTEXTS}

module _ (Q : Option Job → Bool → Type 0) where
  abbrev pub Holds : Program → Type 0
  Holds p = Q p.job p.unpainted

  pub done_holds : (p : Program) (v : ℕ) → Holds p → Holds (line_done p v)
  done_holds p v holds = of_lines p.lines refl
    where
      of_lines : (ls : List (ℕ × Line)) → p.lines ≡ ls → Holds (line_done p v)
      of_lines [] is = rw is holds
      of_lines (l ∷ ls) is = rw is holds

  port_holds : (p : Program) (port : ℕ) → Holds p → Holds (at_port p port)
  port_holds p port holds =
      elim (nat_lt (port_count p) port) as (λ b. Holds (cond b (line_done p 0) (record p { stage = stage.Ticking (phase.Ports port) }))) [
        | true ↦ done_holds p 0 holds
        | false ↦ holds
      ]

  pub on_holds : (p : Program) (l : Option Phase) → Holds p → Holds (go_on p l)
  on_holds p None holds = done_holds p 0 holds
  on_holds p (Some (phase.Contexts asked last)) holds =
      elim ((last == 0) || not (nat_lt asked MOST_CONTEXTS)) as (λ b. Holds
      (cond b (at_port p 1) (record p { stage = stage.Ticking (phase.Contexts asked last) }))) [
        | true ↦ port_holds p 1 holds
        | false ↦
            holds
      ]
  on_holds p (Some (phase.Ports port)) holds = port_holds p port holds

  frame_holds : (p : Program) (paint : Paint) (canvas : Option Canvas) → Holds p → Holds (took_frame p paint canvas)
  frame_holds p paint None holds = done_holds p 0 holds
  frame_holds p paint (Some canvas) holds = holds

  -- a Job that comes is held, and is not painted yet
  job_holds : (p : Program) (given : Payload) (l : Option Phase) → Q None false
      → ((job : Job) → given ≡ payload.Job job → Q (Some job) true) → Holds (took_job p given l)
  job_holds p (payload.Job job) l none comes = comes job refl
  job_holds p payload.Nothing l none comes = on_holds (unheld p) l none
  job_holds p (payload.Canvas canvas) l none comes = on_holds (unheld p) l none

  -- the answer to its next call
  module _ (none : Q None false) (p : Program) (w : Wanted) (reply : Reply) (holds : Q p.job p.unpainted)
      (comes : is_begin w.call ≡ true → (job : Job) → reply.payload ≡ payload.Job job → Q (Some job) true) where
    abbrev Kept : Wanted → (Reply → Program) → Type 0
    Kept x now = (is_begin x.call ≡ true → (job : Job) → reply.payload ≡ payload.Job job → Q (Some job) true) → Holds (now reply)

    pub took_holds : next p ≡ Some w → Holds (took p reply)
    took_holds asks =
        turn_case p Kept w
        (record {
          canvas = λ c still comes. done_holds (record p { canvas = given_canvas reply.payload }) 0 holds;
          value = λ c still comes. done_holds p reply.value holds;
          frame = λ s paint comes. frame_holds p paint (given_canvas reply.payload) holds;
          asks = λ w begins tick s next_of at comes.
              job_holds (record p { tick = tick; stage = s }) reply.payload (next_of reply.value) none (comes begins);
          ended = λ job held l comes. on_holds (unheld p) l none;
        }) asks comes

  -- programs

  abbrev pub AllHold : List Program → Type 0
  AllHold ps = AllByRecursion Holds ps

  taught_hold : (ps : List Program) → AllHold ps → AllHold (all_taught ps)
  taught_hold [] all = tt
  taught_hold (clock ∷ others) all = (all.0, each_mapped Holds Holds (taught clock) (λ p holds. holds) others all.1)

  -- with one program changed, and the setup's names handed on
  pub issued_hold : (ps : List Program) (i : ℕ) (q : Program) → Holds q → AllHold ps → AllHold (inherited ps (set ps i q))
  issued_hold ps i q holds all =
      let now = each_set Holds ps i q all holds in
      elim (is_setting_up ps && not (is_setting_up (set ps i q))) as (λ b. AllHold (cond b (all_taught (set ps i q)) (set ps i q))) [
        | true ↦ taught_hold (set ps i q) now
        | false ↦ now
      ]

  pub opening_hold : (none : Q None false) (script : PlainScript) (k n : ℕ) → AllHold (map (program script) (range_with_len k n))
  opening_hold none script k zero = tt
  opening_hold none script k (suc n) = (none, opening_hold none script (k + 1) n)
