-- The film that a play on threads puts, whole or cut.
use Rattle.std.proofs.Common.{◌≡◌, ◌∙◌, ℕ, ◌+◌, ◌≤◌, ◌==◌, true, false, cond, List, [], ◌∷◌, ◌++◌, length, refl, sym, ap, subst}
use Rattle.std.proofs.Common.{arith, append-nil, append_assoc}
use Rattle.std.specs.Prelude.{flat_map}
use Rattle.std.proofs.lemmas.Bool.{eq-eqb}
use Rattle.std.proofs.lemmas.List.{length-append}
use Rattle.wf_calls.specs.Codes.{entry}
use Rattle.wf_calls.specs.declared.order.Turn.{Turn}
use Rattle.wf_desk.specs.History.{events_of}
use Rattle.wf_film.specs.declared.form.FilmForm.{FilmForm}
use Rattle.wf_film.specs.Film.{Frame, Writing, frame_bytes, head_bytes, magic, tail_bytes}
use Rattle.wf_io.specs.Bytes.{Puts, PutsPart}
use Rattle.wf_io.specs.Parts.{puts_both, stops_late}
use Rattle.wf_script.specs.Script.{PlainScript}
use Rattle.wf_turn.specs.Films.{CutsFrame, CutsJournal, CutsMagic, clock_turns}
use Rattle.wf_turn.specs.Play.{IsComplete, film, frames_after, replay}
use Rattle.wf_turn.specs.Program.{Program, program}
use Rattle.wf_show.specs.declared.player.Player.{Player}
use Rattle.wf_show.specs.Clocks.{Cuts, shown_to}
use Rattle.wf_show.specs.Ends.{IsCutLate, IsFilmed}
use Rattle.wf_show.specs.Played.{program_after}
use Rattle.wf_machine.specs.Histories.{Happening}
use Rattle.wf_show.specs.Shown.{frames_by, order_of}
use Rattle.wf_show.proofs.FramesOfEvents.{frames_untouched}
use Rattle.wf_show.proofs.FrontsAreLegal.{EachFront}
use Rattle.wf_show.proofs.Histories.{events_of-append}
use Rattle.wf_show.proofs.HistoryInParts.{frames_by-append, order_of-append}

-- the clock's entries are those of its events
clock_of : (es : List Happening) → clock_turns (order_of es) ≡ order_of (events_of 0 es)
clock_of [] = refl
clock_of (e ∷ es) =
    let rest = clock_of es in
    let t : Turn = entry e.client e.reply in
    elim (e.client == 0) as (λ b. cond b (t ∷ clock_turns (order_of es)) (clock_turns (order_of es))
    ≡ order_of (cond b (e ∷ events_of 0 es) (events_of 0 es))) [
      | true ↦ ap (λ (ts : List Turn). t ∷ ts) rest
      | false ↦ rest
    ]

pub no_turns : (es : List Happening) → events_of 0 es ≡ [] → clock_turns (order_of es) ≡ []
no_turns es none = clock_of es ∙ ap order_of none

module _ {K : Type 0} (took : K → List ℕ → Type 0) (form : FilmForm) (script : PlainScript) (history : List Happening)
    (fronts : EachFront script history) where
  abbrev p : Program
  p = program script 0

  abbrev order : List Turn
  order = order_of history

  pub shown_all : (shown : List Frame) → frames_by 0 0 p history ≡ shown → frames_after (replay script order) ≡ shown
  shown_all shown is = (fronts history [] (sym (append-nil history))).frames ∙ is

  -- the whole film
  pub whole : (a b c : K) (writer : Writing) (clock : Player) → IsFilmed took a b form writer clock
      → frames_by 0 0 p history ≡ shown_to clock → Puts took b c (tail_bytes order) → Puts took a c (film form script order)
  whole a b c writer clock filmed is tail =
      subst (λ (fs : List Frame). Puts took a c (head_bytes form fs ++ tail_bytes order)) (sym (shown_all (shown_to clock) is))
      (puts_both took a b c (head_bytes form (shown_to clock)) (tail_bytes order) filmed.put tail)

  pub cut_journal : (a b c : K) (writer : Writing) (clock : Player) (written : ℕ) → IsFilmed took a b form writer clock
      → frames_by 0 0 p history ≡ shown_to clock → IsComplete script order
      → PutsPart took b c writer.written (tail_bytes order) written → CutsJournal took a c form script order written
  cut_journal a b c writer clock written filmed is complete part =
      let shown = shown_all (shown_to clock) is in
      let at : writer.written ≡ 0 + length (head_bytes form (shown_to clock)) = filmed.writer_is ∙ omega arith in
      record {
        complete = complete;
        put =
            subst (λ (fs : List Frame). PutsPart took a c 0 (head_bytes form fs ++ tail_bytes order) written) (sym shown)
            (stops_late took a b c 0 writer.written (head_bytes form (shown_to clock)) (tail_bytes order) written filmed.put at part);
        least = subst (λ (fs : List Frame). length (head_bytes form fs) ≤ written) (sym shown) (omega (arith, at, part.least));
      }

  pub cut_magic : (a b : K) (written : ℕ) → PutsPart took a b 0 (magic form) written → events_of 0 history ≡ []
      → CutsMagic took a b form script order written
  cut_magic a b written part none = record { put = part; none = no_turns history none }

  -- a frame that was cut
  module _ (a b : K) (written : ℕ) (first clock : Player) (late : IsCutLate took a b form written first clock)
      (script_is : first.program.script ≡ script) (fresh : first.pass.seen ≡ []) (zs : List Happening)
      (history_is : history ≡ clock.pass.seen ++ zs) (nobody : events_of 0 zs ≡ []) where
    abbrev cuts : Cuts took late.begun b form (length (magic form)) written first clock
    cuts = late.cuts

    abbrev front : List Happening
    front = cuts.begun.before

    abbrev begins : Happening
    begins = cuts.begun.event

    abbrev ends : Happening
    ends = cuts.ends.event

    abbrev between : List Happening
    between = cuts.ends.goes_on.0

    abbrev later : List Happening
    later = between ++ ends ∷ zs

    seen_is : clock.pass.seen ++ zs ≡ (front ++ begins ∷ []) ++ later
    seen_is =
        ap (λ (l : List Happening). l ++ zs) (cuts.ends.seen ∙ ap (λ (l : List Happening). l ++ ends ∷ []) cuts.ends.goes_on.1)
        ∙ append_assoc (cuts.middle.pass.seen ++ between) (ends ∷ []) zs
        ∙ append_assoc cuts.middle.pass.seen between (ends ∷ zs)
        ∙ ap (λ (l : List Happening). l ++ later) cuts.begun.seen

    parts : history ≡ front ++ begins ∷ later
    parts = history_is ∙ seen_is ∙ append_assoc front (begins ∷ []) later

    only_one : clock_turns (order_of later) ≡ entry ends.client ends.reply ∷ []
    only_one =
        let here : (ends.client == 0) ≡ true = eq-eqb ends.client 0 cuts.ends.own in
        let last : events_of 0 (ends ∷ zs) ≡ ends ∷ events_of 0 zs = ap (λ x. cond x (ends ∷ events_of 0 zs) (events_of 0 zs)) here in
        clock_of later
        ∙ ap order_of (events_of-append 0 between (ends ∷ zs) ∙ ap (λ (l : List Happening). l ++ events_of 0 (ends ∷ zs)) cuts.ends.between
        ∙ last ∙ ap (λ (l : List Happening). ends ∷ l) nobody)

    -- what each front shows
    of_script : (c : Player) → c.program.script ≡ script → frames_by 0 0 p c.pass.seen ≡ shown_to c
    of_script c same = ap (λ (s : PlainScript). frames_by 0 0 (program s 0) c.pass.seen) (sym same)

    last_script : cuts.last.program.script ≡ script
    last_script = cuts.script ∙ script_is

    middle_script : cuts.middle.program.script ≡ script
    middle_script = cuts.begun.script ∙ last_script

    clock_script : clock.program.script ≡ script
    clock_script = cuts.ends.script ∙ middle_script

    nothing_first : shown_to first ≡ []
    nothing_first = ap (frames_by 0 0 (program first.program.script 0)) fresh

    frames_are : shown_to cuts.last ≡ cuts.frames
    frames_are = cuts.adds ∙ ap (λ (fs : List Frame). fs ++ cuts.frames) nothing_first

    front_shows : frames_after (replay script (order_of front)) ≡ cuts.frames
    front_shows =
        let more = cuts.begun.goes_on in
        (fronts front (begins ∷ later) parts).frames ∙ ap (frames_by 0 0 p) more.1
        ∙ frames_by-append 0 0 p cuts.last.pass.seen more.0
        ∙ ap (λ (fs : List Frame). frames_by 0 0 p cuts.last.pass.seen ++ fs)
        (frames_untouched (0 + length cuts.last.pass.seen) 0 (program_after 0 p cuts.last.pass.seen) more.0 cuts.begun.between)
        ∙ append-nil (frames_by 0 0 p cuts.last.pass.seen) ∙ of_script cuts.last last_script ∙ frames_are

    begun_shows : frames_after (replay script (order_of front ++ entry begins.client begins.reply ∷ [])) ≡ cuts.frames ++ cuts.frame ∷ []
    begun_shows =
        ap (λ (ts : List Turn). frames_after (replay script ts)) (sym (order_of-append front (begins ∷ [])))
        ∙ (fronts (front ++ begins ∷ []) later (history_is ∙ seen_is)).frames
        ∙ ap (frames_by 0 0 p) (sym cuts.begun.seen) ∙ of_script cuts.middle middle_script
        ∙ cuts.shows ∙ ap (λ (fs : List Frame). fs ++ cuts.frame ∷ []) frames_are

    all_shows : frames_after (replay script order) ≡ cuts.frames ++ cuts.frame ∷ []
    all_shows =
        shown_all (shown_to clock)
        (ap (frames_by 0 0 p) history_is ∙ frames_by-append 0 0 p clock.pass.seen zs
        ∙ ap (λ (fs : List Frame). frames_by 0 0 p clock.pass.seen ++ fs)
        (frames_untouched (0 + length clock.pass.seen) 0 (program_after 0 p clock.pass.seen) zs nobody)
        ∙ append-nil (frames_by 0 0 p clock.pass.seen) ∙ of_script clock clock_script)
        ∙ cuts.quiet ∙ cuts.shows ∙ ap (λ (fs : List Frame). fs ++ cuts.frame ∷ []) frames_are

    pub cut_frame : CutsFrame took a b form script order written
    cut_frame =
        let fs : List Frame = cuts.frames ++ cuts.frame ∷ [] in
        let joined : fs ≡ frames_after (replay script (order_of front)) ++ cuts.frame ∷ [] =
        ap (λ (l : List Frame). l ++ cuts.frame ∷ []) (sym front_shows) in
        record {
          before = order_of front;
          begins = entry begins.client begins.reply;
          later = order_of later;
          ends = entry ends.client ends.reply;
          frame = cuts.frame;
          order_is = ap order_of parts ∙ order_of-append front (begins ∷ later);
          own = cuts.begun.own;
          only = only_one;
          shows = begun_shows ∙ joined;
          last = all_shows ∙ joined;
          put =
              subst (λ (l : List Frame). PutsPart took a b 0 (head_bytes form l) written) (sym all_shows)
              (stops_late took a late.begun b 0 (length (magic form)) (magic form) (flat_map (frame_bytes form) fs) written late.magic_put
              (omega arith) cuts.put);
          least =
              subst (λ (l : List Frame). length (head_bytes form l) ≤ written) (sym front_shows)
              (omega (arith, cuts.least, length-append (magic form) (flat_map (frame_bytes form) cuts.frames)));
        }
