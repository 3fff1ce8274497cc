-- One turn of a show: that of its client's program, behind which the setup's names are handed on.
use Rattle.std.proofs.lemmas.List.{length-set}
use Rattle.wf_turn.proofs.Common.{◌≡◌, ◌∙◌, ℕ, zero, suc, ◌+◌, ◌<◌, ◌≤◌, ◌==◌, Bool, true, false, not, cond, ◌&&◌, List, [], ◌∷◌, ◌++◌}
use Rattle.wf_turn.proofs.Common.{length, Option, Some, None, refl, sym, ap, subst, arith, set, slice_get, and_parts, ltb-true}
use Rattle.wf_turn.proofs.Common.{All, All-cons, All-nil, IsSomeAnd, nat_lt, get_set, entry, Turn, Frame, IsPaintable, Reply}
use Rattle.wf_turn.proofs.Common.{is_running, State, step, PlainScript, Wanted, HasNoTurn, IsCast, Takes, Turned, shown_by, wanted_now}
use Rattle.wf_turn.proofs.Common.{with_frames, frames_of, Program, next, took, worked, all_left, AreOf, IsFit, Show, all_taught, answered}
use Rattle.wf_turn.proofs.Common.{inherited}
use Rattle.wf_turn.proofs.Common.{is_setting_up, program_at, turn}
use Rattle.std.proofs.lemmas.Bool.{ltb-false}
use Rattle.wf_words.specs.Places.{length_map}
use Rattle.wf_turn.specs.Playing.{AreOfOne, IsStuckAt, TakesAt}
use Rattle.wf_turn.specs.Quota.{left as turns_left}
use Rattle.wf_turn.proofs.Programs.{are_inherited, are_set, at_client, inherited_get, inherited_same, left_inherited, left_set}
use Rattle.wf_turn.proofs.Programs.{shown_inherited}
use Rattle.wf_turn.proofs.FewerEventsLeft.{left_took}
use Rattle.wf_turn.proofs.ProgramsGoOn.{asks_line}
use Rattle.wf_turn.proofs.ProgramsStayFit.{fit_took}
use Rattle.wf_turn.proofs.AnswersKeep.{same_client, same_script}
use Rattle.wf_turn.proofs.TurnOfAProgram.{now_next}

-- the turn of a client, by its program

no_program : (show : Show) (client : ℕ) (m : Bool) → program_at show client ≡ None → turn show client m ≡ None
unfolding turn
no_program show client m none = rw none refl

abbrev by_wanted : Show → ℕ → Bool → Program → Option Wanted → Option (Show × Turn)
by_wanted show client m p o =
    elim o as (λ _. Option (Show × Turn)) [
      | None ↦ None
      | Some w ↦ Some (answered show client p (step show.state client w.call m))
    ]

pub turn_now : (show : Show) (client : ℕ) (m : Bool) (p : Program) → program_at show client ≡ Some p
    → turn show client m ≡ by_wanted show client m p (wanted_now show.state p)
unfolding turn
turn_now show client m p at = of_wanted (next p) refl
  where
    of_wait : (w : Wanted) → next p ≡ Some w → (b : Bool) → (w.wait && is_running show.state) ≡ b
        → turn show client m ≡ by_wanted show client m p (wanted_now show.state p)
    of_wait w asks true waits = rw (at, asks, waits) refl
    of_wait w asks false waits = rw (at, asks, waits) refl

    of_wanted : (o : Option Wanted) → next p ≡ o → turn show client m ≡ by_wanted show client m p (wanted_now show.state p)
    of_wanted None asks = rw (at, asks) refl
    of_wanted (Some w) asks = of_wait w asks (w.wait && is_running show.state) refl

-- a client that may have no turn

past : (ps : List Program) (i : ℕ) → length ps ≤ i → slice_get ps i ≡ None
past [] i end = refl
past (p ∷ ps) zero end = absurd (omega (arith, end))
past (p ∷ ps) (suc i) end = past ps i (omega (arith, end))

pub not_allowed : (s : Show) (client : ℕ) (setup : Bool) → IsCast s → setup ≡ is_setting_up s.programs
    → (nat_lt client 8 && not (not (client == 0) && setup)) ≡ false → HasNoTurn s client
not_allowed s client setup cast setup_is barred =
    λ front m. no_program (with_frames front s) client m (of_setup (not (client == 0) && is_setting_up s.programs) refl
    (subst (λ b. (nat_lt client 8 && not (not (client == 0) && b)) ≡ false) setup_is barred))
  where
    of_client : (b : Bool) → nat_lt client 8 ≡ b → (b && true) ≡ false → slice_get s.programs client ≡ None
    of_client true within may = absurd cc
    of_client false beyond may = past s.programs client (omega (arith, cast.eight, ltb-false client 8 beyond))

    of_setup : (b : Bool) → (not (client == 0) && is_setting_up s.programs) ≡ b → (nat_lt client 8 && not b) ≡ false
        → program_at s client ≡ None
    of_setup true is may = rw is refl
    of_setup false is may = rw is (of_client (nat_lt client 8) refl may)

-- a client that may have one
pub record MayTurn (s : Show) (client : ℕ) : Type 0 where
  pub within : client < 8
  pub program : Program
  pub found : slice_get s.programs client ≡ Some program
  pub stands : program_at s client ≡ Some program
  pub fit : IsFit program

pub within_eight : (s : Show) (client : ℕ) → IsCast s → client < 8 → (p : Program) × (slice_get s.programs client ≡ Some p)
within_eight s client cast within = there s.programs client (omega (arith, cast.eight, within))
  where
    there : (ps : List Program) (i : ℕ) → i < length ps → (p : Program) × (slice_get ps i ≡ Some p)
    there [] i below = absurd (omega (arith, below))
    there (p ∷ ps) zero below = (p, refl)
    there (p ∷ ps) (suc i) below = there ps i (omega (arith, below))

not_not : (b : Bool) → not b ≡ true → b ≡ false
not_not true is = absurd cc
not_not false is = refl

pub allowed : (s : Show) (client : ℕ) (setup : Bool) → IsCast s → setup ≡ is_setting_up s.programs
    → (nat_lt client 8 && not (not (client == 0) && setup)) ≡ true → MayTurn s client
allowed s client setup cast setup_is may =
    let both = and_parts (nat_lt client 8) (not (not (client == 0) && setup)) may in
    let within : client < 8 = ltb-true client 8 both.0 in
    let here = within_eight s client cast within in
    let open_setup : (not (client == 0) && is_setting_up s.programs) ≡ false =
    subst (λ b. (not (client == 0) && b) ≡ false) setup_is (not_not (not (client == 0) && setup) both.1) in
    record {
      within = within;
      program = here.0;
      found = here.1;
      stands = rw open_setup here.1;
      fit = (at_client cast.script 0 s.programs client here.0 cast.programs here.1).fit;
    }

module _ (s : Show) (client : ℕ) (cast : IsCast s) (may : MayTurn s client) where
  -- it has no turn now
  pub stuck : IsStuckAt client s.state s.programs → HasNoTurn s client
  stuck is = λ front m.
      let none : wanted_now s.state may.program ≡ None = rw may.found at is in
      turn_now (with_frames front s) client m may.program may.stands ∙ ap (by_wanted (with_frames front s) client m may.program) none

  -- it takes its turn
  module _ (m : Bool) (left : State) (q : Program) (t : Turn) (painted : Bool) (takes : Takes m client s.state left may.program q t painted)
    where
      abbrev W : State × Reply
      W = step s.state client takes.wanted.call m

      abbrev placed : List Program
      placed = set s.programs client q

      are_placed : AreOf cast.script 0 placed
      are_placed =
          are_set cast.script 0 s.programs client may.program q cast.programs may.found
          (ap (λ x. x.script) takes.program ∙ same_script may.program W.1) (ap (λ x. x.client) takes.program ∙ same_client may.program W.1)
          (subst IsFit (sym takes.program) (fit_took may.program W.1 may.fit))

      -- the clock's program can hand names on
      pub can_hand_on : AreOfOne placed
      can_hand_on = of_one placed are_placed (omega (arith, length-set s.programs client q, cast.eight))
        where
          each : (own : PlainScript) (k : ℕ) (rs : List Program) → own ≡ cast.script → AreOf cast.script k rs → All (λ r. r.script ≡ own) rs
          each own k [] same are = All-nil (λ r. r.script ≡ own)
          each own k (r ∷ rs) same are = All-cons (λ x. x.script ≡ own) r rs (are.0 ∙ sym same) (each own (k + 1) rs same are.3)

          of_one : (ps : List Program) → AreOf cast.script 0 ps → 0 < length ps → AreOfOne ps
          of_one [] are some = absurd (omega (arith, some))
          of_one (clock ∷ others) are some = (each clock.script 1 others are.0 are.3, are.1)

      here : slice_get placed client ≡ Some q
      here = get_set s.programs client may.program q may.found

      abbrev programs_now : List Program
      programs_now = inherited s.programs placed

      abbrev pub show_now : Show
      show_now = record { state = left; programs = programs_now; frames = []; turns = s.turns + 1 }

      cast_now : IsCast show_now
      cast_now =
          record {
            script = cast.script;
            programs = are_inherited cast.script s.programs placed are_placed;
            eight = length_map (λ r. r.script) programs_now placed (inherited_same (λ r. r.script) (λ clock r. refl) s.programs placed)
                ∙ length-set s.programs client q ∙ cast.eight;
          }

      pub turned : Turned s client m show_now t painted
      turned =
          record {
            taken = λ front.
                turn_now (with_frames front s) client m may.program may.stands
                ∙ ap (by_wanted (with_frames front s) client m may.program) takes.asks
                ∙ shows front;
            turns = refl;
            fewer = fewer;
            paintable = λ is. inherited_get (λ r. IsSomeAnd r.job IsPaintable) (λ clock r can. can) s.programs placed client q here
                (takes.paintable is);
            within = may.within;
            cast = cast_now;
          }
        where
          asks_now : next may.program ≡ Some takes.wanted
          asks_now = now_next s.state may.program takes.wanted takes.asks

          fewer : all_left programs_now + 1 ≤ all_left s.programs
          fewer =
              let line = asks_line may.program takes.wanted asks_now in
              let less = left_took may.program line.0 W.1 may.fit line.1 in
              omega (
                arith,
                left_inherited s.programs placed,
                left_set s.programs client may.program q may.found,
                less,
                ap turns_left takes.program,
              )

          of : State → Program → List Frame → Show
          of h r frames =
              record { state = h; programs = inherited s.programs (set s.programs client r); frames = frames; turns = s.turns + 1 }

          shows : (front : List Frame) → Some (answered (with_frames front s) client may.program W)
              ≡ Some (with_frames (front ++ shown_by s.turns painted programs_now client) show_now, t)
          shows front =
              let r : Program = worked (took may.program W.1) in
              let frames_is : frames_of s.turns (took may.program W.1) ≡ shown_by s.turns painted programs_now client =
              takes.frames s.turns ∙ sym (shown_inherited s.turns painted s.programs placed client q here) in
              ap (λ h. Some (of h r (front ++ frames_of s.turns (took may.program W.1)), entry client W.1)) (sym takes.state)
              ∙ ap (λ x. Some (of left x (front ++ frames_of s.turns (took may.program W.1)), entry client W.1)) (sym takes.program)
              ∙ ap (λ frames. Some (of left q (front ++ frames), entry client W.1)) frames_is
              ∙ ap (λ e. Some (of left q (front ++ shown_by s.turns painted programs_now client), e)) (sym takes.entry_is)

-- a turn of a show as it is kept, by what the code asks
module _ (s seen : Show) (view : s ≡ seen) (client : ℕ) (seen_cast : IsCast seen)
    (setup may : Bool) (setup_is : setup ≡ is_setting_up s.programs)
    (may_is : may ≡ (nat_lt client 8 && not (not (client == 0) && setup))) where
  cast_kept : IsCast s
  cast_kept = subst IsCast (sym view) seen_cast

  pub none_allowed : may ≡ false → HasNoTurn seen client
  none_allowed barred = subst (λ v. HasNoTurn v client) view (not_allowed s client setup cast_kept setup_is (sym may_is ∙ barred))

  module _ (can : may ≡ true) where
    one : MayTurn s client
    one = allowed s client setup cast_kept setup_is (sym may_is ∙ can)

    pub fit_kept : IsSomeAnd (slice_get s.programs client) IsFit
    fit_kept = rw one.found one.fit

    pub none_now : IsStuckAt client s.state s.programs → HasNoTurn seen client
    none_now is = subst (λ v. HasNoTurn v client) view (stuck s client cast_kept one is)

    module _ (m : Bool) (left : State) (placed : List Program) (t : Turn) (painted : Bool)
        (at : TakesAt m client s.state left s.programs placed t painted) where
      record Taken : Type 0 where
        now : Program
        placed_is : placed ≡ set s.programs client now
        takes : Takes m client s.state left one.program now t painted

      taken : Taken
      taken =
          let here : (q : Program) × ((placed ≡ set s.programs client q) × Takes m client s.state left one.program q t painted) =
          rw one.found at at in
          record { now = here.0; placed_is = here.1.0; takes = here.1.1 }

      pub one_kept : AreOfOne placed
      one_kept = subst AreOfOne (sym taken.placed_is) (can_hand_on s client cast_kept one m left taken.now t painted taken.takes)

      pub turned_kept : (now : List Program) → now ≡ cond (setup && not (is_setting_up placed)) (all_taught placed) placed
          → Turned seen client m (record { state = left; programs = now; frames = []; turns = s.turns + 1 }) t painted
      turned_kept now now_is =
          let of : List Program → Show = λ rs. record { state = left; programs = rs; frames = []; turns = s.turns + 1 } in
          let is : now ≡ inherited s.programs (set s.programs client taken.now) =
          now_is ∙ ap (λ b. cond (b && not (is_setting_up placed)) (all_taught placed) placed) setup_is
          ∙ ap (inherited s.programs) taken.placed_is in
          subst (λ v. Turned v client m (of now) t painted) view
          (subst (λ rs. Turned s client m (of rs) t painted) (sym is)
          (turned s client cast_kept one m left taken.now t painted taken.takes))
