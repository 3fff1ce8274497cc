-- The film that serial play puts, whole or cut.
use Rattle.wf_turn.proofs.Common.{◌≡◌, ◌∙◌, ℕ, ◌+◌, ◌*◌, ◌≤◌, ◌==◌, true, false, cond, List, [], ◌∷◌, ◌++◌, map, length, None, Ok}
use Rattle.wf_turn.proofs.Common.{inl, inr, refl, sym, ap, subst, arith, append_assoc, append-nil, flat_map, filter, sum_by, enumerate_from}
use Rattle.wf_turn.proofs.Common.{range_with_len, length-append, sum_by-cons, Turn, Frame, frame_bytes, tail_bytes, Puts, PutsPart}
use Rattle.wf_turn.proofs.Common.{puts_both, stops_late, Line, PlainScript, Some, first_client, frames_after, replay, Plays, StopsTurns}
use Rattle.wf_turn.proofs.Common.{with_frames, Program, lines_from, place_of, program, all_left, left, line_quota, lines_left, most_turns}
use Rattle.wf_turn.proofs.Common.{quota, quota_of, IsRun, Show, FilmForm, opening_show}
use Rattle.std.proofs.Common.{Err}
use Rattle.std.specs.List.{list_all, AllByRecursion}
use Rattle.wf_calls.specs.Orders.{IsEntry}
use Rattle.wf_film.specs.Stands.{IsFilm, IsFrameIn, as_read}
use Rattle.wf_film.specs.declared.form.FilmForm.TheVariants as forms
use Rattle.wf_film.specs.Film.{Writing, head_bytes, magic}
use Rattle.wf_script.specs.Script.{may_tick}
use Rattle.wf_turn.specs.declared.player.PlayStop.{PlayStop}
use Rattle.wf_turn.specs.declared.player.PlayStop.TheVariants as stop
use Rattle.wf_turn.specs.declared.stage.Stage.TheVariants as stage
use Rattle.wf_turn.proofs.FewerEventsLeft.{left_before}
use Rattle.wf_turn.proofs.QuotaSums.{most_40}
use Rattle.wf_turn.specs.Films.{PlaysSerially, clock_turns}
use Rattle.wf_turn.specs.Play.{film, head, plain_film}
use Rattle.wf_turn.specs.Played.{Replays}
use Rattle.wf_turn.proofs.Ranges.{film_stands}
use Rattle.wf_turn.proofs.Clocks.{opening_clocked, run_clocked, shows_alone}
use Rattle.wf_turn.proofs.Serials.{begins_serial, complete, is_serial, legal, replayed, run_more}
use Rattle.wf_script.specs.declared.TheConstants.{MOST_LINES}

-- how many events the programs make at most

quota_from : (client at : ℕ) (lines : List Line) → lines_left (filter (λ l. l.1.client == client) (enumerate_from at lines))
    ≡ quota lines client
quota_from client at [] = refl
quota_from client at (l ∷ lines) =
    let rest = quota_from client (at + 1) lines in
    elim (l.client == client) as (λ b. (l.client == client) ≡ b
    → lines_left (cond b ((at, l) ∷ filter (λ m. m.1.client == client) (enumerate_from (at + 1) lines))
    (filter (λ m. m.1.client == client) (enumerate_from (at + 1) lines))) ≡ quota (l ∷ lines) client) [
      | true ↦ λ here. (
          let this : quota_of client l ≡ line_quota l.verb = ap (λ b. cond b (line_quota l.verb) 0) here in
          omega (
            arith,
            rest,
            this,
            sum_by-cons (quota_of client) l lines,
            sum_by-cons (λ m. line_quota m.1.verb) (at, l)
                (filter (λ m. m.1.client == client) (enumerate_from (at + 1) lines)),
          ))
      | false ↦ λ other. (
          let this : quota_of client l ≡ 0 = ap (λ b. cond b (line_quota l.verb) 0) other in
          omega (arith, rest, this, sum_by-cons (quota_of client) l lines))
    ] refl

pub left_opening : (script : PlainScript) (client : ℕ) → left (program script client) ≤ quota script.lines client
left_opening script client =
    let start : Program = record {
      script = script;
      client = client;
      lines = [];
      own = [];
      learned = [];
      canvas = None;
      job = None;
      unpainted = false;
      stage = stage.Fresh;
      tick = 0;
    } in
    omega (arith, left_before start (lines_from client 0 script.lines), quota_from client 0 script.lines)

left_all : (script : PlainScript) (ns : List ℕ) → all_left (map (program script) ns) ≤ sum_by (quota script.lines) ns
left_all script [] = omega arith
left_all script (n ∷ ns) = omega (
  arith,
  left_opening script n,
  left_all script ns,
  sum_by-cons left (program script n) (map (program script) ns),
  sum_by-cons (quota script.lines) n ns,
)

pub left_most : (script : PlainScript) → all_left (opening_show script).programs ≤ most_turns script.lines
left_most script = left_all script (range_with_len 0 8)

pub left_few : (script : PlainScript) → all_left (opening_show script).programs ≤ 40 * length script.lines
left_few script = omega (arith, left_most script, most_40 script.lines)

pub magic_length : (form : FilmForm) → length (magic form) ≡ 4
magic_length forms.One = refl
magic_length forms.Two = refl

-- the clock's entries of an order that ends with one of them
one_turn : (t : Turn) → t.client ≡ 0 → clock_turns (t ∷ []) ≡ t ∷ []
one_turn t own = rw own refl

module _ {K : Type 0} (took : K → List ℕ → Type 0) (form : FilmForm) (script : PlainScript) where
  abbrev start : Show
  start = opening_show script

  -- entries that lead from the opening to a show, and whose frames are put
  module _ (a b : K) (was written : ℕ) (now : Show) (order : List Turn)
      (plays : Plays took a b form was written Replays start now order) where
    pub reached : replay script order ≡ Some (with_frames plays.frames now)
    reached = plays.run

    frames_are : frames_after (replay script order) ≡ plays.frames
    frames_are = ap frames_after reached

    pub head_put : (k : K) → Puts took k a (magic form) → Puts took k b (head form script order)
    head_put k first = subst (λ fs. Puts took k b (head_bytes form fs)) (sym frames_are)
        (puts_both took k a b (magic form) (flat_map (frame_bytes form) plays.frames) first plays.put.put)

    pub film_put : (k c : K) → Puts took k a (magic form) → Puts took b c (tail_bytes order) → Puts took k c (film form script order)
    film_put k c first tail = puts_both took k b c (head form script order) (tail_bytes order) (head_put k first) tail

    pub head_length : length (head form script order) ≡ length (magic form) + length (flat_map (frame_bytes form) plays.frames)
    head_length = ap (λ fs. length (head_bytes form fs)) frames_are
        ∙ length-append (magic form) (flat_map (frame_bytes form) plays.frames)

  -- turns of serial play

  module _ (a b : K) (was written : ℕ) (now : Show) (order : List Turn) (plays : Plays took a b form was written IsRun start now order)
      (many : length order ≤ all_left start.programs) where
    few : length order ≤ 40 * length script.lines
    few = omega (arith, many, left_few script)

    abbrev last : Show
    last = with_frames plays.frames now

    abbrev as_replay : Plays took a b form was written Replays start now order
    as_replay = record {
      frames = plays.frames;
      run = replayed script last order plays.run few;
      put = plays.put;
    }

    pub stands : AllByRecursion IsEntry order → length script.lines ≤ MOST_LINES → IsFilm (as_read (plain_film form script order))
    stands values small =
        film_stands form script order (legal script last order plays.run few)
        (subst (AllByRecursion (IsFrameIn form)) (sym (frames_are a b was written now order as_replay)) plays.put.stand) values
        (omega (arith, few, small))

    pub whole : (k c : K) → Puts took k a (magic form) → first_client (map place_of now.programs) ≡ None → Puts took b c (tail_bytes order)
        → PlaysSerially took k c form script (Ok order)
    whole k c first over tail = (
      (film_put a b was written now order as_replay k c first tail, complete script last order plays.run few over),
      is_serial script last order plays.run few over,
    )

    pub cut_journal : (k c : K) (stopped : ℕ) → was ≡ length (magic form) → Puts took k a (magic form)
        → first_client (map place_of now.programs) ≡ None → PutsPart took b c written (tail_bytes order) stopped
        → PlaysSerially took k c form script (Err (stop.WriteFault stopped order))
    cut_journal k c stopped was_is first over part =
        let at : written ≡ 0 + length (head form script order) =
        omega (arith, plays.put.written_is, was_is, head_length a b was written now order as_replay) in (
          record {
            legal = legal script last order plays.run few;
            cut = inr (inr (record {
              complete = complete script last order plays.run few over;
              put = stops_late took k b c 0 written (head form script order) (tail_bytes order) stopped
                  (head_put a b was written now order as_replay k first) at part;
              least = omega (arith, at, part.least);
            }));
          },
          begins_serial script last order plays.run few,
        )

  pub cut_magic : (k a : K) (written : ℕ) → PutsPart took k a 0 (magic form) written
      → PlaysSerially took k a form script (Err (stop.WriteFault written []))
  cut_magic k a written part = (
    record { legal = legal script start [] refl (omega arith); cut = inl (record { put = part; none = refl }) },
    begins_serial script start [] refl (omega arith),
  )

  -- the frames of a run
  head_is : (now : Show) (order : List Turn) (frames : List Frame) → IsRun start order (with_frames frames now)
      → length order ≤ 40 * length script.lines → frames_after (replay script order) ≡ frames
  head_is now order frames run few = ap frames_after (replayed script (with_frames frames now) order run few)

  pub cut_frame : list_all may_tick script.lines ≡ true → (k a b : K) (written : ℕ) (now : Show) (order : List Turn)
      → Puts took k a (magic form) → StopsTurns took a b form (length (magic form)) written start now order
      → length order ≤ all_left start.programs → PlaysSerially took k b form script (Err (stop.WriteFault written order))
  cut_frame ticks k a b written now order first stops many =
      let few : length order ≤ 40 * length script.lines = omega (arith, many, left_few script) in
      let fs = stops.frames ++ stops.frame ∷ [] in
      let begun : IsRun start (stops.before ++ stops.begins ∷ []) (with_frames fs stops.middle) =
      run_more start (with_frames stops.frames stops.last) (with_frames fs stops.middle) stops.before stops.begins stops.run
      (stops.begun stops.frames) in
      let ended : IsRun start ((stops.before ++ stops.begins ∷ []) ++ stops.ends ∷ []) (with_frames (fs ++ []) now) =
      run_more start (with_frames fs stops.middle) (with_frames (fs ++ []) now) (stops.before ++ stops.begins ∷ []) stops.ends begun
      (stops.ended fs) in
      let order_is : (stops.before ++ stops.begins ∷ []) ++ stops.ends ∷ [] ≡ order =
      append_assoc stops.before (stops.begins ∷ []) (stops.ends ∷ []) ∙ sym stops.played_is in
      let run : IsRun start order (with_frames fs now) =
      subst (λ gs. IsRun start order (with_frames gs now)) (append-nil fs)
      (subst (λ ts. IsRun start ts (with_frames (fs ++ []) now)) order_is ended) in
      let longer : length order ≡ length stops.before + 2 = ap length stops.played_is
      ∙ length-append stops.before (stops.begins ∷ stops.ends ∷ []) in
      let before_frames = head_is stops.last stops.before stops.frames stops.run (omega (arith, few, longer)) in
      let begun_frames = head_is stops.middle (stops.before ++ stops.begins ∷ []) fs begun
      (omega (arith, few, longer, length-append stops.before (stops.begins ∷ []))) in
      let frames = head_is now order fs run few in
      let joined : fs ≡ frames_after (replay script stops.before) ++ stops.frame ∷ [] =
      ap (λ gs. gs ++ stops.frame ∷ []) (sym before_frames) in
      let clocked = run_clocked start (with_frames stops.frames stops.last) stops.before stops.run (opening_clocked script ticks) in
      let own = shows_alone (with_frames stops.frames stops.last) stops.middle stops.begins stops.frame clocked stops.begun in (
        record {
          legal = legal script (with_frames fs now) order run few;
          cut = inr (inl (record {
            before = stops.before;
            begins = stops.begins;
            later = stops.ends ∷ [];
            ends = stops.ends;
            frame = stops.frame;
            order_is = stops.played_is;
            own = own;
            only = one_turn stops.ends (stops.own ∙ own);
            shows = begun_frames ∙ joined;
            last = frames ∙ joined;
            put = subst (λ gs. PutsPart took k b 0 (head_bytes form gs) written) (sym frames)
                (stops_late took k a b 0 (length (magic form)) (magic form) (flat_map (frame_bytes form) fs) written first
                (omega arith) stops.part);
            least = subst (λ gs. length (head_bytes form gs) ≤ written) (sym before_frames)
                (omega (arith, stops.least, length-append (magic form) (flat_map (frame_bytes form) stops.frames)));
          }));
        },
        begins_serial script (with_frames fs now) order run few,
      )

  -- the stop that is answered
  pub stop_is : (k a : K) (r : PlayStop) (written : ℕ) (given order : List Turn) → r ≡ stop.WriteFault written given → given ≡ order
      → PlaysSerially took k a form script (Err (stop.WriteFault written order)) → PlaysSerially took k a form script (Err r)
  stop_is k a r written given order is same plays = subst (λ x. PlaysSerially took k a form script (Err x))
      (sym (is ∙ ap (λ o. stop.WriteFault written o) same)) plays

  -- a show that is open, and what was written before it
  module _ (s : Show) (opened : s ≡ start) (a b : K) (was : Writing) (written : ℕ) (now : Show) (order : List Turn)
      (begins : was ≡ record { form = form; written = length (magic form) }) where
    pub plays_open : Plays took a b was.form was.written written IsRun s now order
        → Plays took a b form (length (magic form)) written IsRun start now order
    plays_open plays =
        subst (λ v. Plays took a b form (length (magic form)) written IsRun v now order) opened
        (subst (λ (w : Writing). Plays took a b w.form w.written written IsRun s now order) begins plays)

    pub stops_open : StopsTurns took a b was.form was.written written s now order
        → StopsTurns took a b form (length (magic form)) written start now order
    stops_open stops =
        subst (λ v. StopsTurns took a b form (length (magic form)) written v now order) opened
        (subst (λ (w : Writing). StopsTurns took a b w.form w.written written s now order) begins stops)

-- there is room for all turns of a show that is open, and few enough bytes
pub left_open : (s : Show) (script : PlainScript) → s ≡ opening_show script → all_left s.programs ≤ most_turns script.lines
left_open s script opened = omega (arith, left_most script, ap (λ v. all_left v.programs) opened)
