-- Turns that are played one after another, and whose frames are put.
use Rattle.std.specs.Prelude.{◌≡◌, ℕ, ◌+◌, ◌<◌, ◌≤◌, Bool, List, [], ◌∷◌, ◌++◌, length, flat_map, slice_get, IsSome, IsSomeAnd, IsTrue}
use Rattle.std.specs.Prelude.{None, Some}
use Rattle.wf_calls.specs.declared.order.Turn.{Turn}
use Rattle.wf_film.specs.declared.form.FilmForm.{FilmForm}
use Rattle.wf_film.specs.Film.{Frame, frame_bytes}
use Rattle.wf_film.specs.Frames.{PutsFrames}
use Rattle.wf_io.specs.Bytes.{PutsPart}
use Rattle.wf_turn.specs.Playing.{EndsNext, Turned, may_turn, shown_by, with_frames}
use Rattle.wf_turn.specs.Program.{Program, is_begun}
use Rattle.wf_turn.specs.Serial.{IsFirst, IsNextTurn, IsRun}
use Rattle.wf_turn.specs.Turns.{Show, turn}
use Rattle.wf_turn.specs.Play.{is_marked, replay_from, replay_turn}

-- how one entry leads from a show to the next: in a replay, as the turn that it tells; in serial play, as the turn of the first line's
-- client too
abbrev pub Follows : Show → Turn → Show → Type 0
Follows show t after = replay_turn t (turn show t.client (is_marked t)) ≡ Some after

-- so entries lead from a show to another
abbrev pub Replays : Show → List Turn → Show → Type 0
Replays show ts after = replay_from show ts ≡ Some after

-- one entry leads from a show to the next, and its frames stand behind whatever was shown before
abbrev pub Shows : (Show → Turn → Show → Type 0) → Show → Turn → List Frame → Show → Type 0
Shows Next show t frames after = (front : List Frame) → Next (with_frames front show) t (with_frames (front ++ frames) after)

-- a client's line was begun that is not through
abbrev pub IsBegunAt : List Program → ℕ → Type 0
IsBegunAt programs client = IsSomeAnd (slice_get programs client) (λ p. IsTrue (is_begun p.stage))

-- a client whose line, where it was begun and is not through, is still the first one
pub record IsFirstStill (programs : List Program) (client : ℕ) : Type 0 where
  pub within : client < 8
  pub first : IsBegunAt programs client → IsFirst programs client
  pub may : IsBegunAt programs client → IsTrue (may_turn programs client)

-- the turn of the first line's client: a running frame is the same client's to end next; and what ends a
-- frame shows nothing, as does a turn behind which no frame runs
pub record TurnedFirst (show : Show) (client : ℕ) (now : Show) (t : Turn) (painted : Bool) : Type 0 where
  pub turned : Turned show client (is_marked t) now t painted
  pub next : Shows IsNextTurn show t (shown_by show.turns painted now.programs client) now
  pub client_is : t.client ≡ client
  pub alone : EndsNext now
  pub begun : now.state.frame ≡ None → shown_by show.turns painted now.programs client ≡ []
  pub ended : IsSome show.state.frame → shown_by show.turns painted now.programs client ≡ []
  pub again : IsSome now.state.frame → IsFirst now.programs client × IsTrue (may_turn now.programs client)
  pub still : IsFirstStill now.programs client

module _ {K : Type 0} (took : K → List ℕ → Type 0) (old new : K) (form : FilmForm) (was written : ℕ) where
  -- one entry leads from a show to the next, and its frames are put
  pub record PlaysTurn (Next : Show → Turn → Show → Type 0) (show now : Show) (t : Turn) : Type 0 where
    pub frames : List Frame
    pub next : Shows Next show t frames now
    pub put : PutsFrames took old new form was written frames

  -- entries lead from a show to another, and their frames are put
  pub record Plays (Run : Show → List Turn → Show → Type 0) (start now : Show) (ts : List Turn) : Type 0 where
    pub frames : List Frame
    pub run : Run (with_frames [] start) ts (with_frames frames now)
    pub put : PutsFrames took old new form was written frames

  -- one turn of serial play more
  pub record PlaysNext (show now : Show) (played after : List Turn) : Type 0 where
    pub turn : Turn
    pub plays : PlaysTurn IsNextTurn show now turn
    pub after_is : after ≡ played ++ turn ∷ []

  -- a turn of serial play whose frame was not put whole, and then the end of that frame
  pub record StopsTurn (show now : Show) (played after : List Turn) : Type 0 where
    pub begins : Turn
    pub ends : Turn
    pub frame : Frame
    pub middle : Show
    pub begun : Shows IsNextTurn show begins (frame ∷ []) middle
    pub ended : Shows IsNextTurn middle ends [] now
    pub own : ends.client ≡ begins.client
    pub after_is : after ≡ played ++ begins ∷ ends ∷ []
    pub part : PutsPart took old new was (frame_bytes form frame) written

  -- turns of serial play up to a frame that was not put whole, and its end
  pub record StopsTurns (start now : Show) (played : List Turn) : Type 0 where
    pub before : List Turn
    pub begins : Turn
    pub ends : Turn
    pub frames : List Frame
    pub frame : Frame
    pub last : Show
    pub middle : Show
    pub run : IsRun (with_frames [] start) before (with_frames frames last)
    pub begun : Shows IsNextTurn last begins (frame ∷ []) middle
    pub ended : Shows IsNextTurn middle ends [] now
    pub own : ends.client ≡ begins.client
    pub played_is : played ≡ before ++ begins ∷ ends ∷ []
    pub part : PutsPart took old new was (flat_map (frame_bytes form) (frames ++ frame ∷ [])) written
    pub least : was + length (flat_map (frame_bytes form) frames) ≤ written
