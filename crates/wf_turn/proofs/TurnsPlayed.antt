-- Turns that are played one after another, and their frames.
use Rattle.wf_turn.proofs.Common.{◌≡◌, ◌∙◌, ℕ, ◌+◌, ◌*◌, ◌<◌, ◌≤◌, Bool, true, false, ◌⊎◌, inl, inr, List, [], ◌∷◌, ◌++◌, length, Option}
use Rattle.wf_turn.proofs.Common.{Some, None, refl, sym, ap, subst, arith, append_assoc, append-nil, flat_map, slice_get, IsSome}
use Rattle.wf_turn.proofs.Common.{Turn, Job, JobKind, FilmForm, Frame, frame_bytes, frame_of, PutsPart}
use Rattle.wf_turn.proofs.Common.{stops_late, Running, EndsNext, IsCast, Plays, PlaysTurn, Shows, StopsTurns, TurnedFirst, frames_if}
use Rattle.wf_turn.proofs.Common.{shown_by}
use Rattle.wf_turn.proofs.Common.{with_frames, Program, all_left, IsNextTurn, IsRun, Show, shown, option_map, map, first_client, place_of}
use Rattle.wf_turn.proofs.Common.{may_turn, IfSome, IsTrue}
use Rattle.std.proofs.Common.{◌^◌}
use Rattle.std.proofs.lemmas.Grind.{flat_map-append}
use Rattle.wf_calls.specs.declared.call.JobKind.TheVariants as kind
use Rattle.wf_film.specs.declared.TheConstants.{FRAME_BYTES}
use Rattle.wf_film.specs.Film.{Writing}
use Rattle.wf_film.proofs.PutFrames.{both_frames, no_frames}
use Rattle.wf_turn.specs.Played.{StopsTurn}
use Rattle.wf_turn.specs.Playing.{job_frames}

flat_one : (form : FilmForm) (frames more : List Frame)
    → flat_map (frame_bytes form) (frames ++ more) ≡ flat_map (frame_bytes form) frames ++ flat_map (frame_bytes form) more
flat_one form frames more = flat_map-append (frame_bytes form) frames more

module _ {K : Type 0} (took : K → List ℕ → Type 0) where
  -- before the first turn
  pub none_played : (k : K) (form : FilmForm) (was : ℕ) (Run : Show → List Turn → Show → Type 0) (start : Show)
      → Run (with_frames [] start) [] (with_frames [] start) → Plays took k k form was was Run start start []
  none_played k form was Run start nothing =
      record {
        frames = [];
        run = nothing;
        put = no_frames took form k was;
      }

  -- one turn more
  pub one_played : (Next : Show → Turn → Show → Type 0) (Run : Show → List Turn → Show → Type 0)
      → ((s last now : Show) (ts : List Turn) (t : Turn) → Run s ts last → Next last t now → Run s (ts ++ t ∷ []) now)
      → (a b c : K) (form : FilmForm) (was middle written : ℕ) (start last now : Show) (ts : List Turn) (t : Turn)
      → Plays took a b form was middle Run start last ts → PlaysTurn took b c form middle written Next last now t
      → Plays took a c form was written Run start now (ts ++ t ∷ [])
  one_played Next Run more a b c form was middle written start last now ts t so_far one =
      record {
        frames = so_far.frames ++ one.frames;
        run = more (with_frames [] start) (with_frames so_far.frames last) (with_frames (so_far.frames ++ one.frames) now) ts t so_far.run
            (one.next so_far.frames);
        put = both_frames took form a b c was middle written so_far.frames one.frames so_far.put one.put;
      }

  -- turns of serial play were played, this client's is next, if there is one, and there is room for those that are left
  pub record IsPlaying (old new : K) (was : Writing) (writer : Writing) (start now : Show) (next : Option ℕ) (played : List Turn)
      (most room before_faults faults : ℕ) : Type 0
    where
      pub plays : Plays took old new was.form was.written writer.written IsRun start now played
      pub form_is : writer.form ≡ was.form
      pub fits : length played + all_left now.programs ≤ room
      pub many : length played + all_left now.programs ≤ most
      pub few : writer.written + all_left now.programs * FRAME_BYTES < 2 ^ 62
      pub early : now.turns + all_left now.programs < 2 ^ 31
      pub later : before_faults ≤ faults
      pub cast : IsCast now
      pub alone : EndsNext now
      pub next_is : option_map (λ c. c.0) (first_client (map place_of now.programs)) ≡ next
      pub allowed : IfSome next (λ c. IsTrue (may_turn now.programs c))

  -- a turn whose frame was not put whole
  pub one_stopped : (a b c : K) (form : FilmForm) (was middle written : ℕ) (start last now : Show) (played after : List Turn)
      → Plays took a b form was middle IsRun start last played → StopsTurn took b c form middle written last now played after
      → StopsTurns took a c form was written start now after
  one_stopped a b c form was middle written start last now played after so_far stop =
      let one : flat_map (frame_bytes form) (stop.frame ∷ []) ≡ frame_bytes form stop.frame = append-nil (frame_bytes form stop.frame) in
      record {
        before = played;
        begins = stop.begins;
        ends = stop.ends;
        frames = so_far.frames;
        frame = stop.frame;
        last = last;
        middle = stop.middle;
        run = so_far.run;
        begun = stop.begun;
        ended = stop.ended;
        own = stop.own;
        played_is = stop.after_is;
        part =
            subst (λ bytes. PutsPart took a c was bytes written)
            (sym (flat_one form so_far.frames (stop.frame ∷ []) ∙ ap (λ bytes. flat_map (frame_bytes form) so_far.frames ++ bytes) one))
            (stops_late took a b c was middle (flat_map (frame_bytes form) so_far.frames) (frame_bytes form stop.frame) written
            so_far.put.put so_far.put.written_is stop.part);
        least = omega (arith, so_far.put.written_is, stop.part.least);
      }

-- what is shown is one frame at most
pub one_shown : (begin : ℕ) (painted : Bool) (ps : List Program) (client : ℕ)
    → (shown_by begin painted ps client ≡ []) ⊎ ((f : Frame) × (shown_by begin painted ps client ≡ f ∷ []))
one_shown begin painted ps client = of_program (slice_get ps client) refl
  where
    of_kind : (k : JobKind) (tick : ℕ) (job : Job) → (shown k tick begin job ≡ []) ⊎ ((f : Frame) × (shown k tick begin job ≡ f ∷ []))
    of_kind (kind.Context handle target) tick job = inl refl
    of_kind (kind.Port port) tick job = inr (frame_of port tick begin job.image, refl)

    of_job : (p : Program) (o : Option Job) → p.job ≡ o → (job_frames begin p ≡ []) ⊎ ((f : Frame) × (job_frames begin p ≡ f ∷ []))
    of_job p None is = inl (rw is refl)
    of_job p (Some job) is = elim (of_kind job.kind p.tick job) [ inl none ↦ inl (rw is none) | inr one ↦ inr (one.0, rw is one.1) ]

    of_painted : (b : Bool) (p : Program) → (frames_if begin b p ≡ []) ⊎ ((f : Frame) × (frames_if begin b p ≡ f ∷ []))
    of_painted true p = of_job p p.job refl
    of_painted false p = inl refl

    of_program : (o : Option Program) → slice_get ps client ≡ o
        → (shown_by begin painted ps client ≡ []) ⊎ ((f : Frame) × (shown_by begin painted ps client ≡ f ∷ []))
    of_program None is = inl (rw is refl)
    of_program (Some p) is = elim (of_painted painted p) [ inl none ↦ inl (rw is none) | inr one ↦ inr (one.0, rw is one.1) ]

-- where a frame was not put whole, one was shown, and it runs
module _ {K : Type 0} (took : K → List ℕ → Type 0) (k a : K) (form : FilmForm) (was written : ℕ)
    (show middle : Show) (client : ℕ) (t : Turn) (painted : Bool) (begins : TurnedFirst show client middle t painted)
    (part : PutsPart took k a was (flat_map (frame_bytes form) (shown_by show.turns painted middle.programs client)) written) where
  pub record Cut : Type 0 where
    pub frame : Frame
    pub shows : shown_by show.turns painted middle.programs client ≡ frame ∷ []
    pub runs : IsSome middle.state.frame

  pub cut : Cut
  cut =
      elim (one_shown show.turns painted middle.programs client) [
        | inl none ↦
            absurd (let short = part.short in
            let nothing : length (flat_map (frame_bytes form) (shown_by show.turns painted middle.programs client)) ≡ 0 =
            ap (λ fs. length (flat_map (frame_bytes form) fs)) none in omega (arith, part.least, short, nothing))
        | inr one ↦ record { frame = one.0; shows = one.1; runs = of_running one.0 middle.state.frame refl one.1 }
      ]
    where
      of_running : (f : Frame) (o : Option Running) → middle.state.frame ≡ o → shown_by show.turns painted middle.programs client ≡ f ∷ []
          → IsSome middle.state.frame
      of_running f None free shows = absurd (let no : [] ≡ f ∷ [] = sym (begins.begun free) ∙ shows in cc)
      of_running f (Some r) runs shows = rw runs refl

  -- its end is the next turn
  pub stopped : (now : Show) (u : Turn) (ended : Bool) (played first after : List Turn) → TurnedFirst middle client now u ended
      → first ≡ played ++ t ∷ [] → after ≡ first ++ u ∷ [] → StopsTurn took k a form was written show now played after
  stopped now u ended played first after ends first_is after_is =
      record {
        begins = t;
        ends = u;
        frame = cut.frame;
        middle = middle;
        begun = subst (λ fs. Shows IsNextTurn show t fs middle) cut.shows begins.next;
        ended = subst (λ fs. Shows IsNextTurn middle u fs now) (ends.ended cut.runs) ends.next;
        own = ends.client_is ∙ sym begins.client_is;
        after_is = after_is ∙ ap (λ ts. ts ++ u ∷ []) first_is ∙ append_assoc played (t ∷ []) (u ∷ []);
        part = subst (λ bytes. PutsPart took k a was bytes written) (ap (λ fs. flat_map (frame_bytes form) fs) cut.shows
            ∙ append-nil (frame_bytes form cut.frame)) part;
      }
