-- The film that a play writes, whole or cut. The clock, which is client 0, alone begins what is shown and writes it.
use Rattle.std.specs.Prelude.{◌≡◌, ℕ, ◌≤◌, ◌==◌, ◌⊎◌, List, [], ◌∷◌, ◌++◌, filter, length, Result, Ok, Err}
use Rattle.wf_calls.specs.declared.order.Turn.{Turn}
use Rattle.wf_film.specs.declared.form.FilmForm.{FilmForm}
use Rattle.wf_film.specs.Film.{Frame, magic}
use Rattle.wf_io.specs.Bytes.{Puts, PutsNothing, PutsPart}
use Rattle.wf_io.specs.Causes.{Rose}
use Rattle.wf_script.specs.Script.{PlainScript}
use Rattle.wf_turn.specs.declared.player.PlayStop.{PlayStop}
use Rattle.wf_turn.specs.declared.player.PlayStop.TheVariants as stop
use Rattle.wf_turn.specs.Play.{IsComplete, IsLegal, film, frames_after, head, replay}
use Rattle.wf_turn.specs.Serial.{IsInFileOrder}

-- the entries of the clock
abbrev pub clock_turns : List Turn → List Turn
clock_turns order = filter (λ t. t.client == 0) order

module _ {K : Type 0} (took : K → List ℕ → Type 0) (old new : K) (form : FilmForm) (script : PlainScript) (order : List Turn) (written : ℕ)
  where
    -- the magic was not put whole: the clock has no turn
    pub record CutsMagic : Type 0 where
      pub put : PutsPart took old new 0 (magic form) written
      pub none : clock_turns order ≡ []

    -- a frame was not put whole: it is the last one, and behind the clock's turn that begins it the clock has only the frame's end
    pub record CutsFrame : Type 0 where
      pub before : List Turn
      pub begins : Turn
      pub later : List Turn
      pub ends : Turn
      pub frame : Frame
      pub order_is : order ≡ before ++ begins ∷ later
      pub own : begins.client ≡ 0
      pub only : clock_turns later ≡ ends ∷ []
      pub shows : frames_after (replay script (before ++ begins ∷ [])) ≡ frames_after (replay script before) ++ frame ∷ []
      pub last : frames_after (replay script order) ≡ frames_after (replay script before) ++ frame ∷ []
      pub put : PutsPart took old new 0 (head form script order) written
      pub least : length (head form script before) ≤ written

    -- the journal was not put whole: everything was played
    pub record CutsJournal : Type 0 where
      pub complete : IsComplete script order
      pub put : PutsPart took old new 0 (film form script order) written
      pub least : length (head form script order) ≤ written

    -- the first `written` bytes were put, and all of them are of the film of a legal order
    pub record IsCutFilm : Type 0 where
      pub legal : IsLegal script order
      pub cut : CutsMagic ⊎ (CutsFrame ⊎ CutsJournal)

module _ {K : Type 0} (took : K → List ℕ → Type 0) (old new : K) (form : FilmForm) (script : PlainScript) where
  -- what was put, by what a play answers: the film of the whole order, which is legal and complete; a front of the film, with the
  -- order so far; or nothing
  abbrev pub PlaysFilm : Result (List Turn) PlayStop → Type 0
  PlaysFilm (Ok order) = Puts took old new (film form script order) × IsComplete script order
  PlaysFilm (Err (stop.WriteFault written order)) = IsCutFilm took old new form script order written
  PlaysFilm (Err stop.NoMemory) = PutsNothing took old new

  -- so it is, and the order is that of the file
  abbrev pub PlaysSerially : Result (List Turn) PlayStop → Type 0
  PlaysSerially result = PlaysFilm result × IsInFileOrder script result

-- a write fault comes only where the count of faults rose, and the count never falls
abbrev pub IsCaused : {T : Type 0} → ℕ → ℕ → Result T PlayStop → Type 0
IsCaused before now (Ok _) = before ≤ now
IsCaused before now (Err (stop.WriteFault written order)) = (before ≤ now) × Rose before now
IsCaused before now (Err stop.NoMemory) = before ≤ now
