-- Scripts that were made are played to their end: three turns, and eighteen and a frame for each of their rounds.
use Rattle.wf_turn.proofs.Common.{◌≡◌, ◌∙◌, ℕ, zero, suc, ◌+◌, ◌*◌, ◌<◌, ◌≤◌, ◌==◌, Bool, true, false, not, List, [], ◌∷◌, ◌++◌, length}
use Rattle.wf_turn.proofs.Common.{map, Option, Some, None, refl, sym, ap, subst, arith, append-nil, append_assoc, length-append}
use Rattle.wf_turn.proofs.Common.{filter, enumerate_from, list_all, nat_tests, Turn, PlainScript, Line, Name, Canvas, Frame}
use Rattle.wf_turn.proofs.Common.{FilmForm, State, Reply, Call, bound, bound_name, line_done, first_client, is_marked, frames_after}
use Rattle.wf_turn.proofs.Common.{IsNextTurn}
use Rattle.wf_turn.proofs.Common.{Show, opening_show, all_taught}
use Rattle.wf_turn.proofs.Common.{answered, frames_of, inherited, is_setting_up, replay, serial_order, Program, place_of}
use Rattle.wf_turn.proofs.Common.{in_setup, next, plain, program, setup_lines, took, worked, entry, bare, pos}
use Rattle.std.specs.Prelude.{◌%◌, codes, if◌then◌else◌}
use Rattle.wf_pixel.specs.declared.Rect.{Rect}
use Rattle.wf_pixel.specs.declared.Size.{Size}
use Rattle.wf_stream.specs.Buffers.{ReadBuffer, home, is_blocked, never}
use Rattle.wf_calls.specs.declared.call.Call.TheVariants as call
use Rattle.wf_calls.specs.Replies.{done}
use Rattle.wf_scene.specs.Layers.{nowhere}
use Rattle.wf_model.specs.Objects.{Context, no_objects}
use Rattle.wf_model.specs.State.{opening}
use Rattle.wf_model.specs.Step.{act, step as step_of}
use Rattle.wf_script.specs.declared.line.Verb.TheVariants as verb
use Rattle.wf_script.specs.Generator.{client_of_round, context, device, made, made_ports, named_line, plain_line, round, rounds, setup}
use Rattle.std.proofs.lemmas.Bool.{and_parts, not-true}
use Rattle.wf_script.proofs.Made.{rounds_more}
use Rattle.wf_film.specs.Film.{film_bytes}
use Rattle.wf_turn.specs.MadePlay.{IsMadePlay, made_bytes}
use Rattle.wf_turn.specs.Play.{IsComplete, film, marks}
use Rattle.wf_turn.proofs.MadeRoundSteps.{Round, eight, state}
use Rattle.wf_turn.proofs.MadeRoundSteps as step
use Rattle.wf_turn.proofs.TurnsOfLines.{all_wait, events, none_skipped, own_lines, programs_by, put, same, same_programs, showing, waits}
use Rattle.wf_turn.proofs.TurnsOfLines.{first_here, others_later, program_now, put_is, takes, through}
use Rattle.wf_turn.proofs.LinesPlayed.{Plays, and_then, nothing_played, one_turn, with_lines}
use Rattle.wf_turn.proofs.RoundsPlayed.{Old, nothing_bound, of_setup, round_plays, with_own}
use Rattle.wf_turn.proofs.MadeFilmBytes.{AllSized, film_long}
use Rattle.wf_turn.proofs.Serials.{complete, is_serial, replayed}

-- the size of the port
abbrev made_size : Size
made_size = record { w = 64; h = 48 }

-- the lines of a number of rounds from one on
abbrev rounds_from : ℕ → ℕ → List Line
rounds_from i zero = []
rounds_from i (suc n) = round i ++ rounds_from (i + 1) n

all_events : (i n : ℕ) → events (rounds_from i n) ≡ true
all_events i zero = refl
all_events i (suc n) = all_events (i + 1) n

counted : {s e : Show} {n k : ℕ} → n ≡ k → Plays s e n → Plays s e k
counted {s} {e} same plays = subst (λ (m : ℕ). Plays s e m) same plays

-- an order that leaves a script through, with the entries, the frames and the bytes of the film of this number of rounds
record IsWhole (script : PlainScript) (rounds : ℕ) (order : List Turn) : Type 0 where
  complete : IsComplete script order
  events : length order ≡ 3 + 18 * rounds
  frames : length (frames_after (replay script order)) ≡ rounds
  bytes : (form : FilmForm) → length (film form script order) ≡ made_bytes form rounds

-- a play that goes on to its end
record Ends (start : Show) (rounds : ℕ) (before : List Frame) : Type 0 where
  after : Show
  plays : Plays start after (18 * rounds)
  frames : List Frame
  frames_are : after.frames ≡ before ++ frames
  shown : length frames ≡ rounds
  pixels : AllSized frames
  over : first_client (map place_of after.programs) ≡ None

-- the numbers of the round behind one
record RoundAt (i : ℕ) : Type 0 where
  numbers : Round
  made_is : numbers.made ≡ 2 + 3 * i
  numbered_is : numbers.numbered ≡ 1 + i
  begun_is : numbers.begun ≡ 2 * i

-- where a stream may be made, and a buffer of the screen taken
room : (read was : ReadBuffer) (r : Round) (x y : ℕ) (d : Rect) (later : Bool) → step.HasRoom made_size read was r x y d later
room read was r x y d false = refl
room read was r x y d true = refl

free : (read : ReadBuffer) → is_blocked (step.idle made_size read) ≡ false
free never = refl
free _ = refl

abbrev first_round : RoundAt 0
first_round = record {
  numbers = record {
    made = 2;
    numbered = 1;
    begun = 0;
    stream = 3;
    source = 4;
    element = 5;
    number = 2;
    composed = 1;
    shown = 2;
    low = omega arith;
    few = omega arith;
    stream_is = refl;
    source_is = refl;
    element_is = refl;
    first = omega arith;
    number_is = refl;
    begun_few = omega arith;
    composed_is = refl;
    shown_is = refl;
  };
  made_is = refl;
  numbered_is = refl;
  begun_is = refl;
}

abbrev one_later : (i : ℕ) → i < 1000 → RoundAt i → RoundAt (i + 1)
one_later i small here =
    let r : Round = here.numbers in
    let made : r.element ≡ 5 + 3 * i = omega (arith, here.made_is, r.stream_is, r.source_is, r.element_is) in
    let numbered : r.number ≡ 2 + i = omega (arith, here.numbered_is, r.number_is) in
    let begun : r.shown ≡ 2 + 2 * i = omega (arith, here.begun_is, r.composed_is, r.shown_is) in
    record {
      numbers = record {
        made = r.element;
        numbered = r.number;
        begun = r.shown;
        stream = r.element + 1;
        source = (r.element + 1) + 1;
        element = ((r.element + 1) + 1) + 1;
        number = r.number + 1;
        composed = r.shown + 1;
        shown = (r.shown + 1) + 1;
        low = omega arith;
        few = omega arith;
        stream_is = refl;
        source_is = refl;
        element_is = refl;
        first = omega arith;
        number_is = refl;
        begun_few = omega arith;
        composed_is = refl;
        shown_is = refl;
      };
      made_is = omega arith;
      numbered_is = omega arith;
      begun_is = omega arith;
    }

module _ (lines : List Line) (three : setup_lines lines ≡ 3) (learned : ℕ → List (Name × ℕ))
    (knows : (j : ℕ) → (j == 0) ≡ false → learned j ≡ of_setup) where
  rounds_end : (n i : ℕ) → i + n ≤ 1000 → (a : ℕ) → 2 < a → (own : ℕ → List (Name × ℕ)) → ((j : ℕ) → (j == 0) ≡ false → Old i (own j))
      → (ticks : ℕ → ℕ) (frames : List Frame) (turns : ℕ) (read was : ReadBuffer) (r : RoundAt i) (d : Rect) (later : Bool)
      → (x y : ℕ) → step.IsLater made_size read was r.numbers x y d later
      → Ends (showing (state made_size (step.start made_size read was r.numbers x y d later))
      (all_wait (with_lines lines) a (rounds_from i n) own learned ticks) frames turns) n frames
  rounds_end zero i few a late own old ticks frames turns read was r d later x y past = record {
    after = showing (state made_size (step.start made_size read was r.numbers x y d later))
        (all_wait (with_lines lines) a [] own learned ticks) frames turns;
    plays = nothing_played _;
    frames = [];
    frames_are = sym (append-nil frames);
    shown = refl;
    pixels = tt;
    over = refl;
  }
  rounds_end (suc n) i few a late own old ticks frames turns read was r d later x y past =
      let small : i < 1000 = omega arith in
      let other : (client_of_round i == 0) ≡ false = grind (arith, nat_tests) in
      let two : 2 ≤ r.numbers.number = omega arith in
      let left =
      round_plays lines three (rounds_from (i + 1) n) (all_events (i + 1) n) a late i small own learned ticks frames turns
      (knows (client_of_round i) other) (old (client_of_round i) other) made_size read was r.numbers d later past
      (room read was r.numbers (5 * i % 56) (3 * i % 40) d later) (free read) in
      let rest =
      rounds_end n (i + 1) (omega arith) left.place left.late left.own_next (λ j apart. left.old j (old j apart)) left.ticks
      (frames ++ left.frame ∷ [])
      left.turns (home left.screen) (home left.image) (one_later i small r)
      (step.dest made_size read was r.numbers (5 * i % 56) (3 * i % 40) d) true 0 0 two in
      record {
        after = rest.after;
        plays = counted (let e : 18 + 18 * n ≡ 18 * suc n = omega arith in e) (and_then left.plays rest.plays);
        frames = left.frame ∷ rest.frames;
        frames_are = rest.frames_are ∙ append_assoc frames (left.frame ∷ []) rest.frames;
        shown = omega (arith, rest.shown);
        pixels = (left.pixels, rest.pixels);
        over = rest.over;
      }

-- the setup

module _ (n : ℕ) where
  abbrev rest : List Line
  rest = rounds_from 0 (suc n)

  abbrev script : PlainScript
  script = with_lines (setup ++ rest)

  abbrev none : ℕ → List (Name × ℕ)
  none j = []

  abbrev no_tick : ℕ → ℕ
  no_tick j = 0

  opened : opening_show script ≡ showing (opening made_ports) (all_wait script 0 (setup ++ rest) none none no_tick) [] 0
  opened =
      ap (λ (ps : List Program). record { state = opening made_ports; programs = ps; frames = []; turns = 0 })
      (same_programs (program script) (all_wait script 0 (setup ++ rest) none none no_tick) each)
    where
      each : (j : ℕ) → program script j ≡ all_wait script 0 (setup ++ rest) none none no_tick j
      each j =
          ap (λ (s : Option Canvas × List (ℕ × Line)). record (waits script j s.1 [] [] 0) { canvas = s.0 })
          (none_skipped j 0 (setup ++ rest) (all_events 0 (suc n)))

  -- a line of the setup, behind which there is another one
  module _ (a : ℕ) (l : Line) (ls : List Line) (mine : l.client ≡ 0) (all : events ls ≡ true) (own own_next : ℕ → List (Name × ℕ))
      (before after : State) (c : Call) (v turns : ℕ) where
    abbrev its_program : Program
    its_program = waits script 0 ((a, l) ∷ own_lines 0 (a + 1) ls) (own 0) [] 0

    abbrev now : ℕ → Program
    now = all_wait script a (l ∷ ls) own none no_tick

    abbrev left_program : Program
    left_program = waits script 0 (own_lines 0 (a + 1) ls) (own_next 0) [] 0

    is_its : now 0 ≡ its_program
    is_its = program_now script a 0 l ls mine own none no_tick

    module _ (asks : next its_program ≡ Some (plain c)) (stepped : step_of before 0 c false ≡ (after, bare (done v)))
        (took_is : took its_program (bare (done v)) ≡ line_done its_program v) (own_is : own_next 0 ≡ bound (bound_name l) v (own 0))
        (kept : (j : ℕ) → (j == 0) ≡ false → own_next j ≡ own j) where
      left : took its_program (bare (done v)) ≡ left_program
      left =
          took_is
          ∙ ap (λ (s : Option Canvas × List (ℕ × Line)).
          record (waits script 0 s.1 (bound (bound_name l) v (own 0)) [] 0) { canvas = s.0 })
          (none_skipped 0 (a + 1) ls all)
          ∙ ap (λ (o : List (Name × ℕ)). waits script 0 (own_lines 0 (a + 1) ls) o [] 0) (sym own_is)

      -- its turn, with the programs as they are handed on
      turned : (programs : List Program)
          → inherited (programs_by now) (programs_by (put now 0 (worked (took its_program (bare (done v)))))) ≡ programs
          → IsNextTurn (showing before now [] turns) (entry 0 (bare (done v)))
          (record { state = after; programs = programs; frames = []; turns = turns + 1 })
      turned programs handed_on = record {
        first = first_here now 0 a (omega arith) (λ j other. others_later script a 0 l ls mine own none no_tick j other)
            (ap (λ (p : Program). place_of p) is_its);
        taken =
            takes (showing before now [] turns) 0 its_program (plain c) (ap (λ (p : Program). Some p) is_its) asks refl
            ∙ ap (λ (d : State × Reply). Some (answered (showing before now [] turns) 0 its_program d)) stepped
            ∙ ap (λ (ps : List Program). Some (
              record {
                state = after;
                programs = ps;
                frames = [] ++ frames_of turns (took its_program (bare (done v)));
                turns = turns + 1;
              },
              entry 0 (bare (done v)),
            ))
            (ap (inherited (programs_by now)) (put_is now (worked (took its_program (bare (done v)))) 0 (omega arith)) ∙ handed_on)
            ∙ ap (λ (p : Program). Some (
              record {
                state = after;
                programs = programs;
                frames = [] ++ frames_of turns p;
                turns = turns + 1;
              },
              entry 0 (bare (done v)),
            )) left;
      }

      -- all wait for the next line
      all_left : programs_by (put now 0 (worked (took its_program (bare (done v)))))
          ≡ programs_by (all_wait script (a + 1) ls own_next none no_tick)
      all_left =
          through script a 0 l ls mine own none no_tick (put now 0 (worked (took its_program (bare (done v))))) own_next no_tick
          (λ j other. rw other refl) (ap worked left) kept (λ j other. refl)

      -- in the midst of the setup nothing is handed on
      goes_on : is_setting_up (programs_by now) ≡ true → in_setup left_program ≡ true
          → Plays (showing before now [] turns) (showing after (all_wait script (a + 1) ls own_next none no_tick) [] (turns + 1)) 1
      goes_on was is =
          let placed : List Program = programs_by (put now 0 (worked (took its_program (bare (done v))))) in
          let still : is_setting_up placed ≡ true = ap (λ (p : Program). in_setup (worked p)) left ∙ is in
          let kept_on : inherited (programs_by now) placed ≡ placed = rw (was, still) refl in
          one_turn (entry 0 (bare (done v))) refl
          (turned (programs_by (all_wait script (a + 1) ls own_next none no_tick)) (kept_on ∙ all_left))

      -- behind its last line the names are handed on
      ends : is_setting_up (programs_by now) ≡ true → in_setup left_program ≡ false
          → Plays (showing before now [] turns)
          (record {
            state = after;
            programs = all_taught (programs_by (all_wait script (a + 1) ls own_next none no_tick));
            frames = [];
            turns = turns + 1;
          }) 1
      ends was is =
          let placed : List Program = programs_by (put now 0 (worked (took its_program (bare (done v))))) in
          let over : is_setting_up placed ≡ false = ap (λ (p : Program). in_setup (worked p)) left ∙ is in
          let handed_on : inherited (programs_by now) placed ≡ all_taught placed = rw (was, over) refl in
          one_turn (entry 0 (bare (done v))) refl
          (turned (all_taught (programs_by (all_wait script (a + 1) ls own_next none no_tick))) (handed_on ∙ ap all_taught all_left))

  -- the states behind the calls of the setup
  abbrev begins : step.Parts
  begins = step.start made_size never never first_round.numbers 0 0 nowhere false

  abbrev state_1 : State
  state_1 = record (opening made_ports) {
    made = 1;
    core = record no_objects { devices = record { handle = 1; register = None } ∷ [] };
  }

  abbrev state_3 : State
  state_3 = state made_size begins

  abbrev state_2 : State
  state_2 = record state_3 {
    core = record state_3.core { contexts = map (λ (c : Context). record c { active = false }) state_3.core.contexts };
  }

  device_made : step_of (opening made_ports) 0 call.DeviceNew false ≡ (state_1, bare (done 1))
  unfolding step_of act
  device_made = refl

  context_made : step_of state_1 0 (call.ScreenContext 1 (pos 1)) false ≡ (state_2, bare (done 2))
  unfolding step_of act
  context_made = refl

  made_active : step_of state_2 0 (call.Activate 1 2) false ≡ (state_3, bare (done 0))
  unfolding step_of act
  made_active = refl

  abbrev line_0 : Line
  line_0 = named_line 0 (codes "d") verb.DeviceNew

  abbrev line_1 : Line
  line_1 = named_line 0 (codes "c") (verb.ScreenContext device (pos 1))

  abbrev line_2 : Line
  line_2 = plain_line 0 (verb.Activate device context)

  abbrev own_1 : ℕ → List (Name × ℕ)
  own_1 = with_own none 0 ((codes "d", 1) ∷ [])

  abbrev own_2 : ℕ → List (Name × ℕ)
  own_2 = with_own none 0 of_setup

  abbrev handed : ℕ → List (Name × ℕ)
  handed j = if j == 0 then [] else of_setup

  turn_1 : Plays (showing (opening made_ports) (all_wait script 0 (setup ++ rest) none none no_tick) [] 0)
      (showing state_1 (all_wait script 1 (line_1 ∷ line_2 ∷ rest) own_1 none no_tick) [] 1) 1
  turn_1 =
      goes_on 0 line_0 (line_1 ∷ line_2 ∷ rest) refl (all_events 0 (suc n)) none own_1 (opening made_ports) state_1 call.DeviceNew 1 0 refl
      device_made refl refl (λ j other. rw other refl) refl refl

  turn_2 : Plays (showing state_1 (all_wait script 1 (line_1 ∷ line_2 ∷ rest) own_1 none no_tick) [] 1)
      (showing state_2 (all_wait script 2 (line_2 ∷ rest) own_2 none no_tick) [] 2) 1
  turn_2 =
      goes_on 1 line_1 (line_2 ∷ rest) refl (all_events 0 (suc n)) own_1 own_2 state_1 state_2 (call.ScreenContext 1 (pos 1)) 2 1 refl
      context_made refl refl (λ j other. rw other refl) refl refl

  turn_3 : Plays (showing state_2 (all_wait script 2 (line_2 ∷ rest) own_2 none no_tick) [] 2)
      (showing state_3 (all_wait script 3 rest own_2 handed no_tick) [] 3) 1
  turn_3 =
      ends 2 line_2 rest refl (all_events 0 (suc n)) own_2 own_2 state_2 state_3 (call.Activate 1 2) 0 2 refl
      made_active refl refl (λ j other. refl) refl refl

  set_up : Plays (opening_show script) (showing state_3 (all_wait script 3 rest own_2 handed no_tick) [] 3) 3
  set_up = subst (λ (s : Show). Plays s (showing state_3 (all_wait script 3 rest own_2 handed no_tick) [] 3) 3) (sym opened)
      (and_then turn_1 (and_then turn_2 turn_3))

  learned_behind : (j : ℕ) → (j == 0) ≡ false → handed j ≡ of_setup
  learned_behind j other = rw other refl

  old_behind : (j : ℕ) → (j == 0) ≡ false → Old 0 (own_2 j)
  old_behind j other =
      let bare_is : own_2 j ≡ [] = rw other refl in
      subst (λ (rows : List (Name × ℕ)). Old 0 rows) (sym bare_is) (nothing_bound 0)

  module _ (few : suc n ≤ 1000) where
    to_end : Ends (showing state_3 (all_wait script 3 rest own_2 handed no_tick) [] 3) (suc n) []
    to_end =
        rounds_end (setup ++ rest) refl handed learned_behind (suc n) 0 (omega arith) 3 (omega arith) own_2 old_behind no_tick [] 3 never
        never first_round nowhere false 0 0 tt

    whole : Plays (opening_show script) to_end.after (3 + 18 * suc n)
    whole = and_then set_up to_end.plays

    short : length whole.order ≤ 40 * length (setup ++ rest)
    short = omega (arith, whole.long, length-append setup rest, long_rest)
      where
        rounds_long : (k i : ℕ) → length (rounds_from i k) ≡ 13 * k
        rounds_long zero i = refl
        rounds_long (suc k) i = length-append (round i) (rounds_from (i + 1) k) ∙ omega (arith, rounds_long k (i + 1))

        long_rest : length rest ≡ 13 * suc n
        long_rest = rounds_long (suc n) 0

    no_marks : marks whole.order ≡ []
    no_marks = none_marked 0 whole.order whole.unmarked
      where
        none_marked : (place : ℕ) (ts : List Turn) → list_all (λ t. not (is_marked t)) ts ≡ true
            → map (λ row. row.0) (filter (λ row. is_marked row.1) (enumerate_from place ts)) ≡ []
        none_marked place [] all = refl
        none_marked place (t ∷ ts) all =
            let parts = and_parts (not (is_marked t)) (list_all (λ u. not (is_marked u)) ts) all in
            let other : is_marked t ≡ false = not-true (is_marked t) parts.0 in
            rw other (none_marked (place + 1) ts parts.1)

    -- it is the order of serial play, which refuses memory to no call
    serial : whole.order ≡ serial_order script []
    serial =
        is_serial script to_end.after whole.order whole.run short to_end.over
        ∙ ap (λ (ms : List ℕ). serial_order script ms) no_marks

    shown_frames : frames_after (replay script whole.order) ≡ to_end.frames
    shown_frames = ap frames_after (replayed script to_end.after whole.order whole.run short) ∙ to_end.frames_are

    ended : IsWhole script (suc n) whole.order
    ended = record {
      complete = complete script to_end.after whole.order whole.run short to_end.over;
      events = whole.long;
      frames = ap length shown_frames ∙ to_end.shown;
      bytes = λ form.
          ap (λ (fs : List Frame). length (film_bytes (record { form = form; frames = fs; order = whole.order }))) shown_frames
          ∙ film_long form to_end.frames whole.order (suc n) to_end.pixels to_end.shown whole.long;
    }

-- the rounds from the first one on
rounds_are : (n i : ℕ) → rounds i ++ rounds_from i n ≡ rounds (n + i)
rounds_are zero i = append-nil (rounds i) ∙ (let e : i ≡ 0 + i = omega arith in ap rounds e)
rounds_are (suc n) i =
    sym (append_assoc (rounds i) (round i) (rounds_from (i + 1) n))
    ∙ ap (λ (ls : List Line). ls ++ rounds_from (i + 1) n) (sym (rounds_more i))
    ∙ rounds_are n (i + 1) ∙ (let e : n + (i + 1) ≡ suc n + i = omega arith in ap rounds e)

all_rounds : (n : ℕ) → rounds_from 0 n ≡ rounds n
unfolding rounds
all_rounds n = rounds_are n 0 ∙ (let e : n + 0 ≡ n = omega arith in ap rounds e)

pub made_plays : (n : ℕ) → 1 ≤ n → n ≤ 1000 → IsMadePlay n (serial_order (made n) [])
made_plays zero some few = absurd (omega arith)
made_plays (suc n) some few =
    let same_script : script n ≡ made (suc n) = ap (λ (ls : List Line). with_lines (setup ++ ls)) (all_rounds (suc n)) in
    let over : IsWhole (script n) (suc n) (serial_order (script n) []) =
    subst (λ (ts : List Turn). IsWhole (script n) (suc n) ts) (serial n few) (ended n few) in
    let all : IsWhole (made (suc n)) (suc n) (serial_order (made (suc n)) []) =
    subst (λ (s : PlainScript). IsWhole s (suc n) (serial_order s [])) same_script over in
    record { complete = all.complete; events = all.events; frames = all.frames; bytes = all.bytes }
