-- The setup, which is the clock's alone: behind its last event the setup's names are handed on.
use Rattle.std.proofs.Common.{◌≡◌, ◌∙◌, ℕ, ◌+◌, ◌==◌, Bool, true, false, not, cond, ◌&&◌, List, [], ◌∷◌, ◌++◌, Some, refl, sym, ap, subst}
use Rattle.std.proofs.Common.{set, append_assoc, append-nil, arith, length}
use Rattle.std.proofs.lemmas.Bool.{eq-eqb, eqb-true}
use Rattle.wf_calls.specs.Codes.{entry}
use Rattle.wf_calls.specs.declared.order.Turn.{Turn}
use Rattle.wf_desk.specs.History.{IsLegal, events_of, replay}
use Rattle.wf_film.specs.Film.{Frame}
use Rattle.wf_machine.specs.Object.{MayAnswer, after}
use Rattle.wf_turn.specs.Play.{replay_from}
use Rattle.wf_turn.specs.Program.{Program, in_setup, took}
use Rattle.wf_turn.specs.Turns.{Show, all_taught, answered, frames_of, inherited, program_at}
use Rattle.wf_turn.proofs.Serials.{nothing_replayed, replay_next}
use Rattle.wf_show.proofs.NextTurns.{turn_is}
use Rattle.wf_show.specs.Played.{IsPlayed, after_event, gone_on, program_after}
use Rattle.wf_machine.specs.Histories.{Happening}
use Rattle.wf_show.specs.Shown.{frames_by, frames_in, order_of}
use Rattle.wf_show.specs.Together.{IsSetup}
use Rattle.wf_show.proofs.MergedEventsAreLegal.{and_false}

pub nothing_inherited : (clock : Program) (others : List Program) → inherited (clock ∷ others) (clock ∷ others) ≡ clock ∷ others
nothing_inherited clock others =
    elim (in_setup clock) as (λ b. cond (b && not b) (all_taught (clock ∷ others)) (clock ∷ others) ≡ clock ∷ others) [
      | true ↦ refl
      | false ↦ refl
    ]

still_setting : (clock q : Program) (others : List Program) → in_setup q ≡ true → inherited (clock ∷ others) (q ∷ others) ≡ q ∷ others
still_setting clock q others inside =
    ap (λ b. cond (in_setup clock && not b) (all_taught (q ∷ others)) (q ∷ others)) inside
    ∙ ap (λ b. cond b (all_taught (q ∷ others)) (q ∷ others)) (and_false (in_setup clock))

abbrev with_programs : Show → List Program → Show
with_programs s ps = record s { programs = ps }

-- a show behind the setup, by what it was before
abbrev pub set_up : Show → Program → List Program → List Happening → Show
set_up s clock others es =
    record s {
      state = replay after s.state es;
      programs = inherited (clock ∷ others) (program_after 0 clock es ∷ others);
      frames = s.frames ++ frames_by s.turns 0 clock es;
      turns = s.turns + length es;
    }

-- one event of the setup
module _ (s : Show) (clock : Program) (others : List Program) (e : Happening) (es : List Happening) (setup : IsSetup clock (e ∷ es))
    (played : IsPlayed 0 s.state clock (e ∷ es)) (legal : IsLegal after MayAnswer s.state (e ∷ es)) where
  here : (e.client == 0) ≡ true
  here = eq-eqb e.client 0 setup.0

  abbrev q : Program
  q = gone_on clock e.reply

  abbrev stepped : Show
  stepped =
      record s {
        state = after s.state e.client e.call e.reply;
        programs = inherited (clock ∷ others) (q ∷ others);
        frames = s.frames ++ frames_of s.turns (took clock e.reply);
        turns = s.turns + 1;
      }

  steps : replay_from (with_programs s (clock ∷ others)) (order_of (e ∷ es)) ≡ replay_from stepped (order_of es)
  steps =
      let t : Turn = entry e.client e.reply in
      let s0 : Show = with_programs s (clock ∷ others) in
      let taken = turn_is s0 e.client clock e.call e.reply (ap (program_at s0) setup.0) (played.0 here) legal.0 in
      let is : (answered s0 e.client clock (after s.state e.client e.call e.reply, e.reply)).0 ≡ stepped =
      ap (λ i. record stepped { programs = inherited (clock ∷ others) (set (clock ∷ others) i q) }) setup.0 in
      replay_next s0 stepped t (order_of es) (taken ∙ ap (λ x. Some (x, t)) is)

  program : after_event 0 clock e ≡ q
  program = ap (λ b. cond b q clock) here

  shown : frames_in s.turns 0 clock e ≡ frames_of s.turns (took clock e.reply)
  shown = ap (λ b. cond b (frames_of s.turns (took clock e.reply)) []) here

pub setup_replayed : (es : List Happening) (s : Show) (clock : Program) (others : List Program) → IsSetup clock es
    → IsPlayed 0 s.state clock es → IsLegal after MayAnswer s.state es
    → replay_from (with_programs s (clock ∷ others)) (order_of es) ≡ Some (set_up s clock others es)
setup_replayed [] s clock others setup played legal =
    nothing_replayed (with_programs s (clock ∷ others))
    ∙ ap (λ ps. Some (with_programs s ps)) (sym (nothing_inherited clock others))
    ∙ ap (λ (fs : List Frame). Some (record s { programs = inherited (clock ∷ others) (clock ∷ others); frames = fs }))
    (sym (append-nil s.frames))
    ∙ (let same : s.turns ≡ s.turns + 0 = omega arith in ap (λ n. Some (record s {
      programs = inherited (clock ∷ others) (clock ∷ others);
      frames = s.frames ++ [];
      turns = n;
    })) same)
setup_replayed (e ∷ []) s clock others setup played legal =
    let s1 : Show = stepped s clock others e [] setup played legal in
    let p1 = program s clock others e [] setup played legal in
    let f1 = shown s clock others e [] setup played legal in
    steps s clock others e [] setup played legal ∙ nothing_replayed s1
    ∙ ap (λ x. Some (record s1 { programs = inherited (clock ∷ others) (x ∷ others) })) (sym p1)
    ∙ ap (λ (fs : List Frame). Some (record s1 {
      programs = inherited (clock ∷ others) (after_event 0 clock e ∷ others);
      frames = s.frames ++ fs;
    })) (sym (append-nil (frames_in s.turns 0 clock e) ∙ f1))
setup_replayed (e ∷ d ∷ ds) s clock others setup played legal =
    let es : List Happening = d ∷ ds in
    let p1 = program s clock others e es setup played legal in
    let f1 = shown s clock others e es setup played legal in
    let r : Program = gone_on clock e.reply in
    let s1 : Show =
    record s {
      state = after s.state e.client e.call e.reply;
      frames = s.frames ++ frames_of s.turns (took clock e.reply);
      turns = s.turns + 1;
    } in
    let inside : in_setup r ≡ true = setup.2.1 in
    let last : Program = program_after 0 r es in
    let both : inherited (r ∷ others) (last ∷ others) ≡ inherited (clock ∷ others) (last ∷ others) =
    ap (λ b. cond (b && not (in_setup last)) (all_taught (last ∷ others)) (last ∷ others)) (inside ∙ sym setup.1) in
    let end : Show = record s1 { state = replay after s1.state es; turns = s1.turns + length es } in
    let count : s.turns + 1 + length es ≡ s.turns + length (e ∷ es) = omega arith in
    steps s clock others e es setup played legal
    ∙ ap (λ ps. replay_from (with_programs s1 ps) (order_of es)) (still_setting clock r others inside)
    ∙ setup_replayed (d ∷ ds) s1 r others setup.2 (subst (λ x. IsPlayed 0 s1.state x es) p1 played.1) legal.1
    ∙ ap (λ ps. Some (record end { programs = ps; frames = s1.frames ++ frames_by s1.turns 0 r es })) both
    ∙ ap (λ x. Some (record end {
      programs = inherited (clock ∷ others) (program_after 0 x es ∷ others);
      frames = s1.frames ++ frames_by s1.turns 0 x es;
    })) (sym p1)
    ∙ ap (λ (fs : List Frame). Some (record end {
      programs = inherited (clock ∷ others) (program_after 0 clock (e ∷ es) ∷ others);
      frames = fs;
    })) (append_assoc s.frames (frames_of s.turns (took clock e.reply)) (frames_by s1.turns 0 (after_event 0 clock e) es)
    ∙ ap (λ (fs : List Frame). s.frames ++ (fs ++ frames_by s1.turns 0 (after_event 0 clock e) es)) (sym f1))
    ∙ ap (λ n. Some (record end {
      programs = inherited (clock ∷ others) (program_after 0 clock (e ∷ es) ∷ others);
      frames = s.frames ++ frames_by s.turns 0 clock (e ∷ es);
      turns = n;
    })) count

-- no other client has an event in it
pub no_events : (c : ℕ) (clock : Program) (es : List Happening) → (c ≡ 0 → ⊥) → IsSetup clock es → events_of c es ≡ []
no_events c clock [] apart setup = refl
no_events c clock (e ∷ es) apart setup =
    let other : (e.client == c) ≡ false = of_test (e.client == c) refl in
    rw other (no_events c (gone_on clock e.reply) es apart setup.2)
  where
    of_test : (b : Bool) → (e.client == c) ≡ b → b ≡ false
    of_test true same = absurd (apart (sym (eqb-true e.client c same) ∙ setup.0))
    of_test false other = refl
