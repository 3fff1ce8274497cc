-- The clock's calls one after another, and the frames that they put.
use Rattle.std.proofs.Common.{◌≡◌, ◌∙◌, ℕ, ◌+◌, ◌*◌, ◌<◌, ◌≤◌, ◌^◌, Bool, true, false, List, [], ◌∷◌, ◌++◌, length, Option, Some, None}
use Rattle.std.proofs.Common.{refl, sym, ap, subst}
use Rattle.std.proofs.Common.{arith, append-nil, append_assoc}
use Rattle.std.specs.Prelude.{flat_map}
use Rattle.std.specs.Option.{IsSome}
use Rattle.std.specs.List.{AllByRecursion}
use Rattle.std.proofs.lemmas.List.{length-append}
use Rattle.std.proofs.lemmas.Grind.{flat_map-append}
use Rattle.atomic_table.specs.Seated.{TableId}
use Rattle.wf_calls.specs.declared.call.Job.{Job}
use Rattle.wf_calls.specs.declared.call.JobKind.{JobKind}
use Rattle.wf_calls.specs.declared.call.JobKind.TheVariants as kind
use Rattle.wf_desk.specs.History.{IsPrefix}
use Rattle.wf_film.specs.declared.form.FilmForm.{FilmForm}
use Rattle.wf_film.specs.declared.TheConstants.{FRAME_BYTES}
use Rattle.wf_film.specs.Film.{Frame, Writing, frame_bytes, frame_of, head_bytes, magic}
use Rattle.wf_film.specs.Frames.{PutsFrames}
use Rattle.wf_film.specs.Stands.{IsFrameIn}
use Rattle.wf_film.proofs.PutFrames.{both_frames, no_frames}
use Rattle.wf_io.specs.Bytes.{Puts, PutsPart}
use Rattle.wf_io.specs.Parts.{puts_both, stops_late}
use Rattle.wf_turn.specs.Playing.{frames_if, job_frames}
use Rattle.wf_turn.specs.Program.{Program, in_setup, is_work, place_of, took}
use Rattle.wf_turn.specs.Ready.{IsFit}
use Rattle.wf_turn.specs.Turns.{frames_of, shown}
use Rattle.wf_turn.proofs.TurnOfAProgram.{work_frames}
use Rattle.wf_show.specs.declared.player.Player.{Player}
use Rattle.wf_show.specs.Clocks.{Advanced, Cuts, IsClock, SetsUp, Shows, ShowsSoFar, shown_to, start}
use Rattle.wf_show.specs.Shown.{frames_by}
use Rattle.wf_show.specs.Ends.{IsFilmed}
use Rattle.wf_machine.specs.Histories.{Happening}
use Rattle.wf_show.proofs.EndsShowNothing.{at_line, end_shows, inside_still, is_ending, to_end}

pub no_more : (xs : List Happening) → IsPrefix xs xs
no_more xs = ([], sym (append-nil xs))

pub longer : (xs ys zs : List Happening) → IsPrefix xs ys → IsPrefix ys zs → IsPrefix xs zs
longer xs ys zs first second = (
  first.0 ++ second.0,
  second.1 ∙ ap (λ (l : List Happening). l ++ second.0) first.1 ∙ append_assoc xs first.0 second.0,
)

pub sees_more : (a b : Player) (painted : Bool) → Advanced a b painted → IsPrefix a.pass.seen b.pass.seen
sees_more a b painted one =
    longer a.pass.seen one.before b.pass.seen one.goes_on (one.event ∷ [], one.seen)

-- what is painted comes of a call that leaves its line to go on
module _ (desk : TableId) (a b : Player) (clock : IsClock desk a) (one : Advanced a b true) where
  fit : IsFit a.program
  fit = clock.so_far.fit

  pub asks_again : IsSome (place_of a.program) → IsSome (place_of b.program)
  asks_again more =
      let same : place_of b.program ≡ place_of a.program =
      ap place_of one.program ∙ at_line a.program one.event.reply fit.painted (sym one.painted_is) in
      subst IsSome (sym same) more

  pub still_inside : in_setup b.program ≡ in_setup a.program
  still_inside = ap in_setup one.program ∙ inside_still a.program one.event.reply fit.painted (sym one.painted_is)

  -- and the end that follows shows nothing
  pub ends_quietly : (c : Player) (ended : Bool) → IsClock desk b → Advanced b c ended → shown_to c ≡ shown_to b
  ends_quietly c ended now last =
      let here = to_end a.program one.event.reply fit.painted (sym one.painted_is) in
      let ending : is_ending b.program.stage ≡ true = ap (λ (q : Program). is_ending q.stage) one.program ∙ here.stage in
      let nothing : frames_of c.pass.place (took b.program last.event.reply) ≡ [] =
      end_shows c.pass.place b.program last.event.reply now.so_far.fit.painted ending in
      let none : frames_if c.pass.place ended c.program ≡ [] =
      ap (λ x. frames_if c.pass.place x c.program) last.painted_is
      ∙ ap (frames_if c.pass.place (is_work (took b.program last.event.reply))) last.program
      ∙ sym (work_frames c.pass.place (took b.program last.event.reply)) ∙ nothing in
      last.shows ∙ ap (λ (fs : List Frame). shown_to b ++ fs) none ∙ append-nil (shown_to b)

pub sets_both : (a b c : Player) → in_setup b.program ≡ in_setup a.program → SetsUp a b → SetsUp b c → SetsUp a c
sets_both a b c still first second inside so_far = second (still ∙ inside) (first inside so_far)

module _ {K : Type 0} (bytes : K → List ℕ → Type 0) (form : FilmForm) where
  abbrev film : List Frame → List ℕ
  film frames = flat_map (frame_bytes form) frames

  joined : (xs ys : List Frame) → film (xs ++ ys) ≡ film xs ++ film ys
  joined xs ys = flat_map-append (frame_bytes form) xs ys

  pub nothing_shown : (k : K) (was : ℕ) (a : Player) → Shows bytes k k form was was a a
  nothing_shown k was a =
      record {
        script = refl;
        goes_on = no_more a.pass.seen;
        frames = [];
        adds = sym (append-nil (shown_to a));
        put = no_frames bytes form k was;
      }

  pub both_shown : (k m n : K) (was middle written : ℕ) (a b c : Player) → Shows bytes k m form was middle a b
      → Shows bytes m n form middle written b c → Shows bytes k n form was written a c
  both_shown k m n was middle written a b c first second =
      let xs : List Frame = first.frames in
      let ys : List Frame = second.frames in
      record {
        script = second.script ∙ first.script;
        goes_on = longer a.pass.seen b.pass.seen c.pass.seen first.goes_on second.goes_on;
        frames = xs ++ ys;
        adds = second.adds ∙ ap (λ (fs : List Frame). fs ++ ys) first.adds ∙ append_assoc (shown_to a) xs ys;
        put = both_frames bytes form k m n was middle written xs ys first.put second.put;
      }

  -- a call without a Job, and one with a Job, whose frame was put where it is a port's
  pub none_shown : (k : K) (was : ℕ) (a b : Player) → Advanced a b false → Shows bytes k k form was was a b
  none_shown k was a b one =
      record {
        script = one.script;
        goes_on = sees_more a b false one;
        frames = [];
        adds = one.shows;
        put = no_frames bytes form k was;
      }

  pub one_shown : (k n : K) (was written : ℕ) (a b : Player) → Advanced a b true
      → PutsFrames bytes k n form was written (job_frames b.pass.place b.program) → Shows bytes k n form was written a b
  one_shown k n was written a b one put =
      record {
        script = one.script;
        goes_on = sees_more a b true one;
        frames = job_frames b.pass.place b.program;
        adds = one.shows;
        put = put;
      }

  -- the magic, and then all frames of a clock that saw nothing before
  pub all_filmed : (k m n : K) (writer : Writing) (first last : Player) → first.pass.seen ≡ [] → Puts bytes k m (magic form)
      → Shows bytes m n form (length (magic form)) writer.written first last → writer.written < 2 ^ 62
      → IsFilmed bytes k n form writer last
  all_filmed k m n writer first last fresh head all few =
      let nothing : shown_to first ≡ [] = ap (frames_by 0 0 (start first)) fresh in
      let shown : shown_to last ≡ all.frames = all.adds ∙ ap (λ (fs : List Frame). fs ++ all.frames) nothing in
      record {
        put = subst (λ fs. Puts bytes k n (head_bytes form fs)) (sym shown)
            (puts_both bytes k m n (magic form) (film all.frames) head all.put.put);
        writer_is = subst (λ fs. writer.written ≡ length (head_bytes form fs)) (sym shown)
            (all.put.written_is ∙ sym (length-append (magic form) (film all.frames)));
        few = few;
        each = subst (AllByRecursion (IsFrameIn form)) (sym shown) all.put.stand;
      }

  -- a frame of which a part was put is one
  record IsOne (frames : List Frame) : Type 0 where
    pub frame : Frame
    pub is : frames ≡ frame ∷ []

  one_of : (k n : K) (was written begin : ℕ) (p : Program) → PutsPart bytes k n was (film (job_frames begin p)) written
      → IsOne (job_frames begin p)
  one_of k n was written begin p part = of_job p.job part
    where
      of_kind : (tick : ℕ) (job : Job) (j : JobKind) → PutsPart bytes k n was (film (shown j tick begin job)) written
          → IsOne (shown j tick begin job)
      of_kind tick job (kind.Context handle target) part = absurd (omega (arith, part.least, part.short))
      of_kind tick job (kind.Port port) part = record { frame = frame_of port tick begin job.image; is = refl }

      of_job : (o : Option Job) → PutsPart bytes k n was (film (job_frames begin (record p { job = o }))) written
          → IsOne (job_frames begin (record p { job = o }))
      of_job None part = absurd (omega (arith, part.least, part.short))
      of_job (Some job) part = of_kind p.tick job job.kind part

  pub cut : (desk : TableId) (k n : K) (was written : ℕ) (a b c : Player) (ended : Bool) → IsClock desk a → IsClock desk b
      → Advanced a b true → Advanced b c ended → PutsPart bytes k n was (film (job_frames b.pass.place b.program)) written
      → Cuts bytes k n form was written a c
  cut desk k n was written a b c ended clock now begun ends part =
      let one = one_of k n was written b.pass.place b.program part in
      record {
        last = a;
        middle = b;
        begun = begun;
        ended = ended;
        ends = ends;
        script = refl;
        goes_on = no_more a.pass.seen;
        frames = [];
        frame = one.frame;
        adds = sym (append-nil (shown_to a));
        shows = begun.shows ∙ ap (λ (fs : List Frame). shown_to a ++ fs) one.is;
        quiet = ends_quietly desk a b clock begun c ended now ends;
        put = subst (λ fs. PutsPart bytes k n was (film fs) written) one.is part;
        least = omega (arith, part.least);
      }

  pub cut_later : (k m n : K) (was middle written : ℕ) (a b c : Player) → Shows bytes k m form was middle a b
      → Cuts bytes m n form middle written b c → Cuts bytes k n form was written a c
  cut_later k m n was middle written a b c first cuts =
      let xs : List Frame = first.frames in
      let ys : List Frame = cuts.frames in
      let zs : List Frame = cuts.frame ∷ [] in
      let all : film ((xs ++ ys) ++ zs) ≡ film xs ++ film (ys ++ zs) = ap film (append_assoc xs ys zs) ∙ joined xs (ys ++ zs) in
      record {
        last = cuts.last;
        middle = cuts.middle;
        begun = cuts.begun;
        ended = cuts.ended;
        ends = cuts.ends;
        script = cuts.script ∙ first.script;
        goes_on = longer a.pass.seen b.pass.seen cuts.last.pass.seen first.goes_on cuts.goes_on;
        frames = xs ++ ys;
        frame = cuts.frame;
        adds = cuts.adds ∙ ap (λ (fs : List Frame). fs ++ ys) first.adds ∙ append_assoc (shown_to a) xs ys;
        shows = cuts.shows;
        quiet = cuts.quiet;
        put = subst (λ bs. PutsPart bytes k n was bs written) (sym all)
            (stops_late bytes k m n was middle (film xs) (film (ys ++ zs)) written first.put.put first.put.written_is cuts.put);
        least = omega (arith, first.put.written_is, cuts.least, ap length (joined xs ys), length-append (film xs) (film ys));
      }

  -- so far
  pub so_far_nothing : (desk : TableId) (k : K) (was : ℕ) (a : Player) (faults : ℕ) → IsClock desk a
      → was + a.pass.left * FRAME_BYTES < 2 ^ 62 → ShowsSoFar bytes desk k k form was was a a faults faults
  so_far_nothing desk k was a faults clock few =
      record { all = nothing_shown k was a; clock = clock; few = few; later = omega arith }

  pub goes_further : (desk : TableId) (k m n : K) (was middle written : ℕ) (a b c : Player) (f0 f1 f2 : ℕ)
      → ShowsSoFar bytes desk k m form was middle a b f0 f1 → Shows bytes m n form middle written b c → IsClock desk c
      → c.pass.left + 1 ≡ b.pass.left → written ≤ middle + FRAME_BYTES → f1 ≤ f2 → ShowsSoFar bytes desk k n form was written a c f0 f2
  goes_further desk k m n was middle written a b c f0 f1 f2 so_far more clock fewer most later =
      record {
        all = both_shown k m n was middle written a b c so_far.all more;
        clock = clock;
        few = omega (arith, so_far.few, fewer, most);
        later = omega (arith, so_far.later, later);
      }

-- what a cut leaves of the clock
pub cut_script : {K : Type 0} (bytes : K → List ℕ → Type 0) (k n : K) (form : FilmForm) (was written : ℕ) (a b : Player)
    → Cuts bytes k n form was written a b → b.program.script ≡ a.program.script
cut_script bytes k n form was written a b cuts = cuts.ends.script ∙ cuts.begun.script ∙ cuts.script

pub cut_sees : {K : Type 0} (bytes : K → List ℕ → Type 0) (k n : K) (form : FilmForm) (was written : ℕ) (a b : Player)
    → Cuts bytes k n form was written a b → IsPrefix a.pass.seen b.pass.seen
cut_sees bytes k n form was written a b cuts =
    let begun = sees_more cuts.last cuts.middle true cuts.begun in
    let ended = sees_more cuts.middle b cuts.ended cuts.ends in
    longer a.pass.seen cuts.last.pass.seen b.pass.seen cuts.goes_on
    (longer cuts.last.pass.seen cuts.middle.pass.seen b.pass.seen begun ended)
