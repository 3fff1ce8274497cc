-- A turn of serial play, which is that of the client of the first line that is not through.
use Rattle.wf_turn.proofs.Common.{◌≡◌, ◌∙◌, ℕ, zero, suc, ◌==◌, Bool, true, false, not, ◌&&◌, List, [], ◌∷◌, map, Option, Some}
use Rattle.wf_turn.proofs.Common.{None, refl}
use Rattle.wf_turn.proofs.Common.{sym, ap, subst, set, slice_get, IfSome, IsSome, IsSomeAnd, IsTrue, is_some, Turn, Reply, Frame}
use Rattle.wf_turn.proofs.Common.{is_running, Running, State, step, Wanted, first_client, is_marked, Ends, EndsNext, HasNoTurn, IsCast}
use Rattle.wf_turn.proofs.Common.{Turned}
use Rattle.wf_turn.proofs.Common.{TurnedFirst, may_turn, shown_by, wanted_now, with_frames, Program, first_line, in_setup, next, place_of}
use Rattle.wf_turn.proofs.Common.{took, worked, IsFit, Show, answered, frames_of, inherited, is_setting_up, program_at, turn}
use Rattle.wf_turn.proofs.Common.{get_map, get_set, Line}
use Rattle.wf_turn.specs.Played.{IsBegunAt}
use Rattle.wf_turn.specs.Program.{is_begun}
use Rattle.wf_turn.specs.Serial.{IsFirst}
use Rattle.wf_words.specs.Places.{map_set}
use Rattle.wf_turn.proofs.FrameOfATurn.{Leaves, ended, turn_leaves}
use Rattle.wf_turn.proofs.Clients.{first_place}
use Rattle.wf_turn.proofs.ProgramsStayFit.{wants}
use Rattle.wf_turn.proofs.AnswersKeep.{begun_still, same_script, worked_lines}
use Rattle.wf_turn.proofs.Programs.{at_client, inherited_get, not_inherited, setup_set}
use Rattle.wf_turn.proofs.Replays.{TurnOf, turn_of}
use Rattle.wf_turn.proofs.TurnOfAShow.{turn_now}
use Rattle.wf_turn.proofs.TurnOfAProgram.{free_now, has_line}

not_not : (b : Bool) → not b ≡ true → b ≡ false
not_not true is = absurd cc
not_not false is = refl

and_false : (b : Bool) → (b && false) ≡ false
and_false true = refl
and_false false = refl

-- the client of the first line
module _ (s : Show) (client : ℕ) (cast : IsCast s) (alone : EndsNext s) (first : IsFirst s.programs client)
    (allowed : may_turn s.programs client ≡ true) where
  -- it has a program, which is not through
  record Stands : Type 0 where
    program : Program
    found : slice_get s.programs client ≡ Some program
    line : Line
    line_is : first_line program ≡ Some line
    fit : IsFit program

  stands : Stands
  stands = of_first (first_client (map place_of s.programs)) refl first
    where
      of_program : (k : ℕ) (o : Option Program) → slice_get s.programs client ≡ o
          → slice_get (map place_of s.programs) client ≡ Some (Some k) → Stands
      of_program k None none at = absurd (let no : None ≡ Some (Some k) = sym (unmapped s.programs client none) ∙ at in cc)
        where
          unmapped : (ps : List Program) (i : ℕ) → slice_get ps i ≡ None → slice_get (map place_of ps) i ≡ None
          unmapped [] i none = refl
          unmapped (q ∷ qs) zero none = absurd cc
          unmapped (q ∷ qs) (suc i) none = unmapped qs i none
      of_program k (Some p) found at =
          let there : Some (place_of p) ≡ Some (Some k) = sym (get_map place_of s.programs client p found) ∙ at in
          let placed_at : place_of p ≡ Some k = cc in
          let line = has_line p (rw placed_at refl) in
          record {
            program = p;
            found = found;
            line = line.0;
            line_is = line.1;
            fit = (at_client cast.script 0 s.programs client p cast.programs found).fit;
          }

      of_first : (o : Option (ℕ × ℕ)) → first_client (map place_of s.programs) ≡ o → IsSomeAnd o (λ c. c.0 ≡ client) → Stands
      of_first None is none = absurd none
      of_first (Some c) is here =
          of_program c.1 (slice_get s.programs client) refl
          (ap (slice_get (map place_of s.programs)) (sym here) ∙ first_place (map place_of s.programs) c is)

  open_setup : (not (client == 0) && is_setting_up s.programs) ≡ false
  open_setup = not_not (not (client == 0) && is_setting_up s.programs) allowed

  -- it holds the running frame's Job
  ends_running : (p : Program) → slice_get s.programs client ≡ Some p → (f : Running) → s.state.frame ≡ Some f → Ends f p
  ends_running p found f runs =
      of_first (first_client (map place_of s.programs)) first (rw runs at alone)
    where
      of_first : (o : Option (ℕ × ℕ)) → IsSomeAnd o (λ c. c.0 ≡ client) → IfSome o (λ c. IfSome (slice_get s.programs c.0) (Ends f))
          → Ends f p
      of_first None none own = absurd none
      of_first (Some c) here own =
          let at : slice_get s.programs c.0 ≡ Some p = ap (slice_get s.programs) here ∙ found in
          rw at at own

  -- so it has a turn
  pub has_turn : HasNoTurn s client → ⊥
  has_turn none = of_next (next stands.program) refl (wants stands.program stands.line stands.fit stands.line_is)
    where
      p : Program
      p = stands.program

      free : (w : Wanted) → next p ≡ Some w → (o : Option Running) → s.state.frame ≡ o → (w.wait && is_running s.state) ≡ false
      free w asks None idle = ap (λ o. w.wait && is_some o) idle ∙ and_false w.wait
      free w asks (Some f) runs =
          ap (λ b. b && is_running s.state)
          (ended p s.state client false w f runs (ends_running p stands.found f runs) asks).plain_is

      of_next : (o : Option Wanted) → next p ≡ o → IsSome o → ⊥
      of_next None asks some = absurd cc
      of_next (Some w) asks some =
          let at : program_at (with_frames [] s) client ≡ Some p = rw open_setup stands.found in
          let now : wanted_now s.state p ≡ Some w = free_now s.state p w asks (free w asks s.state.frame refl) in
          let takes : turn (with_frames [] s) client false
          ≡ Some (answered (with_frames [] s) client p (step s.state client w.call false)) =
          turn_now (with_frames [] s) client false p at ∙ rw now refl in
          let no : None ≡ Some (answered (with_frames [] s) client p (step s.state client w.call false)) = sym (none [] false) ∙ takes in
          cc

  -- what its turn leaves
  module _ (now : Show) (t : Turn) (painted : Bool) (one : Turned s client (is_marked t) now t painted) where
    abbrev shown_now : List Frame
    shown_now = shown_by s.turns painted now.programs client

    of : TurnOf (with_frames [] s) client (is_marked t) (with_frames shown_now now, t)
    of = turn_of (with_frames [] s) client (is_marked t) (with_frames shown_now now, t) (one.taken [])

    abbrev p : Program
    p = of.program

    abbrev W : State × Reply
    W = step s.state client of.wanted.call (is_marked t)

    abbrev q : Program
    q = worked (took p W.1)

    abbrev placed : List Program
    placed = set s.programs client q

    state_is : W.0 ≡ now.state
    state_is = ap (λ x. x.0.state) of.is

    programs_are : inherited s.programs placed ≡ now.programs
    programs_are = ap (λ x. x.0.programs) of.is

    frames_are : frames_of s.turns (took p W.1) ≡ shown_now
    frames_are = ap (λ x. x.0.frames) of.is

    client_is : t.client ≡ client
    client_is = sym (ap (λ x. x.1.client) of.is)

    fit : IsFit p
    fit = (at_client cast.script 0 s.programs client p cast.programs of.own).fit

    ends_free : (f : Running) → s.state.frame ≡ Some f → W.0.frame ≡ None
    ends_free f runs = (ended p s.state client (is_marked t) of.wanted f runs (ends_running p of.own f runs) of.asks).free

    ends_shows : (f : Running) → s.state.frame ≡ Some f → frames_of s.turns (took p W.1) ≡ []
    ends_shows f runs = (ended p s.state client (is_marked t) of.wanted f runs (ends_running p of.own f runs) of.asks).shows s.turns

    leaves : s.state.frame ≡ None → Leaves p (took p W.1) W.0.frame
    leaves free = turn_leaves p s.state client (is_marked t) free fit.painted of.wanted of.asks

    -- a program whose lines are the same stands where it stood, and nothing is handed on
    module _ (lines : q.lines ≡ p.lines) where
      place_is : place_of q ≡ place_of p
      place_is = ap (λ ls. place_of (record q { lines = ls })) lines

      setup_is : in_setup q ≡ in_setup p
      setup_is = ap (λ ls. in_setup (record q { lines = ls })) lines
          ∙ ap (λ x. in_setup (record p { script = x })) (same_script p W.1)

      are_placed : placed ≡ now.programs
      are_placed = sym (not_inherited s.programs placed (setup_set s.programs client p q of.own setup_is)) ∙ programs_are

      same_places : map place_of now.programs ≡ map place_of s.programs
      same_places = ap (λ ps. map place_of ps) (sym are_placed) ∙ map_set place_of s.programs client p q of.own place_is

      same_setup : is_setting_up now.programs ≡ is_setting_up s.programs
      same_setup = ap is_setting_up (sym are_placed) ∙ setup_set s.programs client p q of.own setup_is

      here_now : slice_get now.programs client ≡ Some q
      here_now = ap (λ ps. slice_get ps client) (sym are_placed) ∙ get_set s.programs client p q of.own

      first_now : IsFirst now.programs client
      first_now = subst (λ ns. IsSomeAnd (first_client ns) (λ c. c.0 ≡ client)) (sym same_places) first

      may_now : may_turn now.programs client ≡ true
      may_now = ap (λ b. not (not (client == 0) && b)) same_setup ∙ allowed

    -- where its line was begun and is not through, the lines are the same
    same_lines : IsBegunAt now.programs client → q.lines ≡ p.lines
    same_lines begun = of_program (slice_get now.programs client) stage_is begun
      where
        stage_is : IfSome (slice_get now.programs client) (λ r. r.stage ≡ q.stage)
        stage_is = subst (λ ps. IfSome (slice_get ps client) (λ r. r.stage ≡ q.stage)) programs_are
            (inherited_get (λ r. r.stage ≡ q.stage) (λ clock r is. is) s.programs placed client q
            (get_set s.programs client p q of.own) refl)

        of_program : (o : Option Program) → IfSome o (λ r. r.stage ≡ q.stage) → IsSomeAnd o (λ r. IsTrue (is_begun r.stage))
            → q.lines ≡ p.lines
        of_program None same none = absurd none
        of_program (Some r) same begun = begun_still p W.1 (subst (λ x. IsTrue (is_begun x)) same begun)

    -- a frame that runs behind the turn began by it, and is its client's to end
    record Runs (f : Running) : Type 0 where
      lines : q.lines ≡ p.lines
      ends : Ends f q

    runs_now : (f : Running) → now.state.frame ≡ Some f → Runs f
    runs_now f runs = of_frame s.state.frame refl
      where
        after_is : W.0.frame ≡ Some f
        after_is = ap (λ h. h.frame) state_is ∙ runs

        of_frame : (o : Option Running) → s.state.frame ≡ o → Runs f
        of_frame (Some g) was = absurd (let no : None ≡ Some f = sym (ends_free g was) ∙ after_is in cc)
        of_frame None free =
            (let both = rw after_is at (leaves free).ends in record { lines = worked_lines (took p W.1) ∙ both.1; ends = both.0 })

    again : (f : Running) → now.state.frame ≡ Some f → IsFirst now.programs client × (may_turn now.programs client ≡ true)
    again f runs = (first_now (runs_now f runs).lines, may_now (runs_now f runs).lines)

    alone_now : (f : Running) → now.state.frame ≡ Some f
        → IfSome (first_client (map place_of now.programs)) (λ c. IfSome (slice_get now.programs c.0) (Ends f))
    alone_now f runs = of_first (first_client (map place_of now.programs)) (again f runs).0
      where
        of_first : (o : Option (ℕ × ℕ)) → IsSomeAnd o (λ c. c.0 ≡ client) → IfSome o (λ c. IfSome (slice_get now.programs c.0) (Ends f))
        of_first None none = tt
        of_first (Some c) here =
            let at : slice_get now.programs c.0 ≡ Some q = ap (slice_get now.programs) here ∙ here_now (runs_now f runs).lines in
            rw at (runs_now f runs).ends

    begun : now.state.frame ≡ None → shown_now ≡ []
    begun idle = sym frames_are ∙ of_frame s.state.frame refl
      where
        of_frame : (o : Option Running) → s.state.frame ≡ o → frames_of s.turns (took p W.1) ≡ []
        of_frame (Some f) was = ends_shows f was
        of_frame None free = (leaves free).shows (ap (λ h. h.frame) state_is ∙ idle) s.turns

    ended_shows : (f : Running) → s.state.frame ≡ Some f → shown_now ≡ []
    ended_shows f runs = sym frames_are ∙ ends_shows f runs

    pub turned_first : TurnedFirst s client now t painted
    turned_first =
        record {
          turned = one;
          next = λ front. record {
            first = subst (λ n. IsFirst s.programs n) (sym client_is) first;
            taken = ap (λ n. turn (with_frames front s) n (is_marked t)) client_is ∙ one.taken front;
          };
          client_is = client_is;
          alone = of_alone now.state.frame refl;
          begun = begun;
          ended = of_ended s.state.frame refl;
          again = of_again now.state.frame refl;
          still =
              record {
                within = one.within;
                first = λ begun. first_now (same_lines begun);
                may = λ begun. may_now (same_lines begun);
              };
        }
      where
        of_alone : (o : Option Running) → now.state.frame ≡ o
            → IfSome o (λ f. IfSome (first_client (map place_of now.programs)) (λ c. IfSome (slice_get now.programs c.0) (Ends f)))
        of_alone None idle = tt
        of_alone (Some f) runs = alone_now f runs

        of_ended : (o : Option Running) → s.state.frame ≡ o → IsSome o → shown_now ≡ []
        of_ended None idle some = absurd cc
        of_ended (Some f) runs some = ended_shows f runs

        of_again : (o : Option Running) → now.state.frame ≡ o → IsSome o
            → IsFirst now.programs client × (may_turn now.programs client ≡ true)
        of_again None idle some = absurd cc
        of_again (Some f) runs some = again f runs
