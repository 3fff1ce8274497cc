-- The next call of a program, answered as the machine may answer it, is its client's turn.
use Rattle.wf_turn.proofs.Common.{◌≡◌, ◌∙◌, ℕ, ◌+◌, Bool, false, ◌&&◌, List, [], ◌∷◌, ◌++◌, Option, Some, None, refl, sym, ap, Call, Code}
use Rattle.wf_turn.proofs.Common.{Reply, Turn, Frame, entry, is_out_of_memory, is_running, State, step, is_marked, replay_from}
use Rattle.wf_turn.proofs.Common.{replay_turn, Program, next, took, Show, answered, inherited, program_at, set, turn}
use Rattle.wf_turn.specs.declared.stage.Wanted.{Wanted}
use Rattle.wf_calls.specs.Codes.{code_number}
use Rattle.wf_machine.specs.Object.{MayAnswer, after}
use Rattle.wf_turn.specs.Going.{IsNextCall}
use Rattle.wf_turn.proofs.AnswersAgree.{IsSame, outcome, same_outcome}
use Rattle.wf_turn.proofs.TurnOfAProgram.{marked_is}

-- the show after an answer, by what that comes to
abbrev built : Show → ℕ → State → Program × (ℕ → List Frame) → Turn → Show × Turn
built s client h o t = (
  record {
    state = h;
    programs = inherited s.programs (set s.programs client o.0);
    frames = s.frames ++ o.1 s.turns;
    turns = s.turns + 1;
  },
  t,
)

turn_at : (s : Show) (client : ℕ) (m : Bool) (p : Program) (w : Wanted) → program_at s client ≡ Some p → next p ≡ Some w
    → (w.wait && is_running s.state) ≡ false → turn s client m ≡ Some (answered s client p (step s.state client w.call m))
unfolding turn
turn_at s client m p w at asks ready = rw (at, asks, ready) refl

pub turn_is : (s : Show) (client : ℕ) (p : Program) (c : Call) (reply : Reply) → program_at s client ≡ Some p → IsNextCall s.state p c
    → MayAnswer s.state client c reply
    → turn s client (is_marked (entry client reply)) ≡ Some (answered s client p (after s.state client c reply, reply))
turn_is s client p c reply at next may =
    let W : Bool → State × Reply = λ m. step s.state client c m in
    let m : Bool = is_out_of_memory reply.code in
    let wanted : Reply = (W m).1 in
    let same : IsSame reply wanted = record { value = may.value; payload = may.payload } in
    let both : outcome (took p reply) ≡ outcome (took p wanted) = same_outcome p reply wanted same in
    let told : entry client wanted ≡ entry client reply =
    sym (ap (λ (x : Code). record { client = client; code = code_number x; value = reply.value }) may.code
    ∙ ap (λ v. record { client = client; code = code_number wanted.code; value = v }) may.value) in
    turn_at s client (is_marked (entry client reply)) p next.wanted at next.asks next.ready
    ∙ ap (λ x. Some (answered s client p (step s.state client x (is_marked (entry client reply))))) next.call
    ∙ ap (λ b. Some (answered s client p (W b))) (marked_is reply.code)
    ∙ ap (λ o. Some (built s client (W m).0 o (entry client wanted))) (sym both)
    ∙ ap (λ t. Some (built s client (W m).0 (outcome (took p reply)) t)) told

-- a replay of two parts
pub replays_both : (xs ys : List Turn) (s middle : Show) → replay_from s xs ≡ Some middle → replay_from s (xs ++ ys) ≡ replay_from middle ys
unfolding replay_from
replays_both [] ys s middle is = (let same : s ≡ middle = cc in ap (λ x. replay_from x ys) same)
replays_both (t ∷ xs) ys s middle is =
    elim (replay_turn t (turn s t.client (is_marked t))) as (λ o. (elim o as (λ _. Option Show) [
      | None ↦ None
      | Some x ↦ replay_from x xs
    ]) ≡ Some middle → (elim o as (λ _. Option Show) [ None ↦ None | Some x ↦ replay_from x (xs ++ ys) ]) ≡ replay_from middle ys) [
      | None ↦ λ none. absurd cc
      | Some x ↦ λ some. replays_both xs ys x middle some
    ] is
