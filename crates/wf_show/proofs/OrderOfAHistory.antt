-- The order of a whole history of a script: the setup, and then the clients beside one another.
use Rattle.std.proofs.Common.{◌≡◌, ◌∙◌, ℕ, zero, suc, ◌+◌, ◌<◌, ◌==◌, Bool, true, false, not, cond, ◌&&◌, List, [], ◌∷◌, ◌++◌, map, take}
use Rattle.std.proofs.Common.{length}
use Rattle.std.proofs.Common.{Some, None, refl, sym, ap, subst, arith, slice_get}
use Rattle.std.specs.List.{list_all, range_with_len}
use Rattle.std.specs.Option.{is_none, is_some}
use Rattle.std.proofs.lemmas.Bool.{and_from, eqb-true}
use Rattle.std.proofs.lemmas.Option.{slice_get_within}
use Rattle.wf_desk.specs.History.{replay}
use Rattle.wf_machine.specs.Object.{after}
use Rattle.wf_model.specs.State.{State, opening}
use Rattle.wf_script.specs.Script.{PlainScript}
use Rattle.wf_turn.specs.Play.{frames_after, over_after, replay_from}
use Rattle.wf_turn.specs.Program.{Program, in_setup, place_of, program, setup_lines, setup_names, taught}
use Rattle.wf_turn.specs.Turns.{Show, all_taught, inherited, is_over, opening_show}
use Rattle.wf_turn.proofs.AnswersKeep.{same_script}
use Rattle.wf_show.proofs.LinesThatAreLeft.{IsRising, behind, opening_rise, past_setup, rise_on}
use Rattle.wf_show.proofs.NoTickNoFrame.{opening_still}
use Rattle.wf_show.proofs.NextTurns.{replays_both}
use Rattle.wf_show.specs.Played.{IsPlayed, after_event, gone_on, program_after}
use Rattle.wf_machine.specs.Histories.{Happening}
use Rattle.wf_show.specs.Shown.{frames_by, order_of}
use Rattle.wf_show.specs.Together.{AllBelow, IsOrderOf, IsSetup, IsTogether, program_in}
use Rattle.wf_show.proofs.Histories.{program_after-append, untouched}
use Rattle.wf_show.proofs.HistoryInParts.{frames_by-append, legal_parts, order_of-append, played_parts}
use Rattle.wf_show.proofs.MergedEventsAreLegal.{AllGo, Goes, IsMerged, merged, one_is}
use Rattle.wf_show.proofs.SetupEvents.{no_events, nothing_inherited, set_up, setup_replayed}

below_parts : (n : ℕ) (xs ys : List Happening) → AllBelow n (xs ++ ys) → AllBelow n ys
below_parts n [] ys all = all
below_parts n (x ∷ xs) ys all = below_parts n xs ys all.1

none_taken : {A : Type 0} (n : ℕ) (xs : List A) → xs ≡ [] → take n xs ≡ []
none_taken zero xs is = refl
none_taken (suc n) xs is = ap (take (suc n)) is

-- programs that learned nothing are as they were
fresh_taught : (script : PlainScript) (c : ℕ) → taught (program script 0) (program script c) ≡ program script c
fresh_taught script c =
    ap (λ names. record (program script c) { learned = names }) (none_taken (length (setup_names script.lines)) (program script 0).own refl)

-- what stands in a list that is made of a range
ranged : {A : Type 0} (f : ℕ → A) (k n i : ℕ) (x : A) → slice_get (map f (range_with_len k n)) i ≡ Some x → (i < n) × (f (k + i) ≡ x)
ranged f k zero i x at = absurd cc
ranged f k (suc n) zero x at = (omega arith, (let one : f k ≡ x = cc in let same : k + 0 ≡ k = omega arith in ap f same ∙ one))
ranged f k (suc n) (suc i) x at =
    let rest = ranged f (k + 1) n i x at in
    let same : k + suc i ≡ k + 1 + i = omega arith in
    (omega (arith, rest.0), ap f same ∙ rest.1)

there : {A : Type 0} (f : ℕ → A) (k n i : ℕ) → i < n → slice_get (map f (range_with_len k n)) i ≡ Some (f (k + i))
there f k zero i less = absurd (omega (arith, less))
there f k (suc n) zero less = (let same : k ≡ k + 0 = omega arith in ap (λ j. Some (f j)) same)
there f k (suc n) (suc i) less =
    let same : k + 1 + i ≡ k + suc i = omega arith in
    there f (k + 1) n i (omega (arith, less)) ∙ ap (λ j. Some (f j)) same

apart_zero : (n : ℕ) → suc n ≡ 0 → ⊥
apart_zero n same = absurd (omega (arith, same))

-- what a history makes of the show that opens
pub record IsEnded (script : PlainScript) (first rest : List Happening) : Type 0 where
  pub last : Show
  pub replayed : replay_from (opening_show script) (order_of (first ++ rest)) ≡ Some last
  pub programs : (c : ℕ) → c < 8 → slice_get last.programs c ≡ Some (program_after c (program_in script first c) (first ++ rest))
  pub eight : length last.programs ≡ 8
  pub frames : last.frames ≡ frames_by 0 0 (program script 0) (first ++ rest)

module _ (script : PlainScript) (first rest : List Happening) (whole : IsTogether script first rest) where
  abbrev opens : State
  opens = opening script.ports

  abbrev start : Program
  start = program script 0

  abbrev clock_now : Program
  clock_now = program_after 0 start first

  -- the program of another client behind the setup
  abbrev other : ℕ → Program
  other c = taught clock_now (program script c)

  abbrev untaught : List Program
  untaught = map (program script) (range_with_len 1 7)

  abbrev opened : List Program
  opened = clock_now ∷ map (taught clock_now) untaught

  inherited_is : inherited (start ∷ untaught) (clock_now ∷ untaught) ≡ opened
  inherited_is = of_setup first refl
    where
      same_all : (ps : List Program) → ((c : ℕ) (p : Program) → slice_get ps c ≡ Some p → taught start p ≡ p) → map (taught start) ps ≡ ps
      same_all [] each = refl
      same_all (p ∷ ps) each =
          ap (λ x. x ∷ map (taught start) ps) (each 0 p refl) ∙ ap (λ xs. p ∷ xs) (same_all ps (λ c q at. each (suc c) q at))

      -- there was no setup
      none : first ≡ [] → inherited (start ∷ untaught) (clock_now ∷ untaught) ≡ opened
      none empty =
          let now : clock_now ≡ start = ap (program_after 0 start) empty in
          let same : map (taught start) untaught ≡ untaught = same_all untaught (λ c p at. (
          let r = ranged (program script) 1 7 c p at in
          subst (λ x. taught start x ≡ x) r.1 (fresh_taught script (1 + c)))) in
          subst (λ x. inherited (start ∷ untaught) (x ∷ untaught) ≡ x ∷ map (taught x) untaught) (sym now)
          (nothing_inherited start untaught ∙ ap (λ xs. start ∷ xs) (sym same))

      of_setup : (es : List Happening) → first ≡ es → inherited (start ∷ untaught) (clock_now ∷ untaught) ≡ opened
      of_setup [] is = none is
      of_setup (e ∷ es) is =
          let setup : IsSetup start (e ∷ es) = subst (IsSetup start) is whole.setting in
          let taught_all : List Program = all_taught (clock_now ∷ untaught) in
          ap (λ b. cond (b && not (in_setup clock_now)) taught_all (clock_now ∷ untaught)) setup.1
          ∙ ap (λ b. cond (not b) taught_all (clock_now ∷ untaught)) whole.over

  abbrev middle : Show
  middle = record (set_up (opening_show script) start untaught first) { programs = opened }

  clock_of : (es : List Happening) (p : Program) → p.script ≡ script → IsRising p.lines
      → ((program_after 0 p es).script ≡ script) × IsRising (program_after 0 p es).lines
  clock_of [] p same rise = (same, rise)
  clock_of (e ∷ es) p same rise = clock_of es (after_event 0 p e) (one_script (e.client == 0)) (one_rise (e.client == 0))
    where
      one_script : (b : Bool) → (cond b (gone_on p e.reply) p).script ≡ script
      one_script true = same_script p e.reply ∙ same
      one_script false = same

      one_rise : (b : Bool) → IsRising (cond b (gone_on p e.reply) p).lines
      one_rise true = rise_on p e.reply rise
      one_rise false = rise

  clock_goes : Goes script middle.state rest 0 clock_now
  clock_goes =
      let own = clock_of first start refl (opening_rise script 0) in
      record {
        played = (played_parts 0 opens start first rest (whole.played 0 (omega arith))).1;
        role = (
          own.0,
          subst (λ (x : PlainScript). behind (setup_lines x.lines) clock_now.lines ≡ true) own.0 (past_setup clock_now own.1 whole.over),
        );
      }

  other_waits : (n : ℕ) → suc n < 8 → (program_after (suc n) (other (suc n)) first ≡ other (suc n))
      × IsPlayed (suc n) (replay after opens first) (other (suc n)) rest
  other_waits n within =
      let c = suc n in
      let rested = untouched c opens (other c) first (no_events c start first (apart_zero n) whole.setting) in
      let parts = played_parts c opens (other c) first rest (whole.played c within) in
      (rested.program, subst (λ x. IsPlayed c (replay after opens first) x rest) rested.program parts.1)

  other_goes : (i : ℕ) (p : Program) → (i < 7) × (other (1 + i) ≡ p) → Goes script middle.state rest (suc i) p
  other_goes i p at =
      let c : 1 + i ≡ suc i = omega arith in
      let is : other (suc i) ≡ p = ap other (sym c) ∙ at.1 in
      let still = opening_still script (suc i) (not_clock (suc i == 0) refl) whole.ticks in
      subst (Goes script middle.state rest (suc i)) is
      (record {
        played = (other_waits i (omega (arith, at.0))).1;
        role = record { lines = still.lines; painted = still.painted; calm = still.calm };
      })
    where
      not_clock : (b : Bool) → (suc i == 0) ≡ b → (suc i == 0) ≡ false
      not_clock true same = absurd (apart_zero i (eqb-true (suc i) 0 same))
      not_clock false other = other

  all_go : AllGo script middle rest
  all_go zero p at = (let is : clock_now ≡ p = one_is refl at in subst (Goes script middle.state rest 0) is clock_goes)
  all_go (suc i) p at = other_goes i p (mapped i at)
    where
      mapped : (i : ℕ) → slice_get (map (taught clock_now) untaught) i ≡ Some p → (i < 7) × (other (1 + i) ≡ p)
      mapped i at = ranged other 1 7 i p at

  -- the programs at the end
  ends : (on : IsMerged middle rest) (c : ℕ) → c < 8 → slice_get on.last.programs c
      ≡ Some (program_after c (program_in script first c) (first ++ rest))
  ends on zero within = on.programs 0 clock_now refl ∙ ap (λ x. Some x) (sym (program_after-append 0 start first rest))
  ends on (suc n) within =
      let same : 1 + n ≡ suc n = omega arith in
      let waits = other_waits n within in
      on.programs (suc n) (other (suc n)) (there other 1 7 n (omega (arith, within)) ∙ ap (λ j. Some (other j)) same)
      ∙ ap (λ x. Some (program_after (suc n) x rest)) (sym waits.0)
      ∙ ap (λ x. Some x) (sym (program_after-append (suc n) (other (suc n)) first rest))

  pub ended : IsEnded script first rest
  ended =
      let legal = legal_parts opens first rest whole.legal in
      let played = played_parts 0 opens start first rest (whole.played 0 (omega arith)) in
      let reached : replay_from (opening_show script) (order_of first) ≡ Some middle =
      setup_replayed first (opening_show script) start untaught whole.setting played.0 legal.0
      ∙ ap (λ ps. Some (record middle { programs = ps })) inherited_is in
      let on = merged script rest middle all_go (below_parts 8 first rest whole.eight) (omega arith) legal.1 in
      record {
        last = on.last;
        replayed =
            ap (replay_from (opening_show script)) (order_of-append first rest)
            ∙ replays_both (order_of first) (order_of rest) (opening_show script) middle reached ∙ on.replayed;
        programs = ends on;
        eight = on.count;
        frames = on.frames clock_now refl ∙ sym (frames_by-append 0 0 start first rest);
      }

-- all programs are through, where each is
all_over : (s : Show) → ((c : ℕ) (p : Program) → slice_get s.programs c ≡ Some p → place_of p ≡ None) → is_over s ≡ true
all_over s each = of_programs s.programs each
  where
    of_programs : (ps : List Program) → ((c : ℕ) (p : Program) → slice_get ps c ≡ Some p → place_of p ≡ None)
        → list_all (λ p. is_none (place_of p)) ps ≡ true
    of_programs [] each = refl
    of_programs (p ∷ ps) each =
        and_from (is_none (place_of p)) (list_all (λ q. is_none (place_of q)) ps) (ap is_none (each 0 p refl))
        (of_programs ps (λ c q at. each (suc c) q at))

pub is_order : (script : PlainScript) (first rest : List Happening) → IsTogether script first rest
    → IsOrderOf script first (first ++ rest)
is_order script first rest whole =
    let end = ended script first rest whole in
    record {
      legal = ap is_some end.replayed;
      frames = ap frames_after end.replayed ∙ end.frames;
      complete = λ through. ap over_after end.replayed ∙ all_over end.last (λ c p at. (
          let within : c < 8 = omega (arith, end.eight, slice_get_within end.last.programs c p at) in
          ap place_of (one_is at (end.programs c within)) ∙ through c within));
    }
