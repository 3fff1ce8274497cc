-- The image that a frame takes of each screen, after any order, is of the last frame that ended into it.
use Rattle.wf_turn.proofs.Common.{◌≡◌, ◌∙◌, ℕ, ◌+◌, Bool, true, false, cond, List, [], ◌∷◌, ◌++◌, map, length, Option, Some, None, refl}
use Rattle.wf_turn.proofs.Common.{sym}
use Rattle.wf_turn.proofs.Common.{ap, subst, arith, Ok, nat_le, zip, range_with_len, IfSome, nat_tests, is_in}
use Rattle.wf_turn.proofs.Common.{Bitmap, Scene, Call, Job, JobKind, Reply, Turn, entry, is_begin, is_ok_code, job_of, next_images}
use Rattle.wf_turn.proofs.Common.{scene_streams, Beginning, begin_call, start, State, Running, act}
use Rattle.wf_turn.proofs.Common.{step}
use Rattle.wf_turn.proofs.Common.{PlainScript, Wanted, is_marked, replay, Program, next, painted_job, took, worked, took_canvas, plain}
use Rattle.wf_turn.proofs.Common.{line_done, took_frame, given_canvas, took_job, Show, opening_show, turn, program_at, each_at}
use Rattle.wf_turn.proofs.Common.{moves_frame, by_begin, next_is, port_is}
use Rattle.wf_calls.specs.declared.call.Call.TheVariants as call
use Rattle.wf_calls.specs.declared.call.JobKind.TheVariants as kind
use Rattle.wf_calls.specs.declared.reply.Payload.TheVariants as payload
use Rattle.wf_calls.specs.declared.ports.Modes.{Modes}
use Rattle.wf_model.specs.Frames.{context_beginning}
use Rattle.wf_model.specs.Names.{settle_if, target_names}
use Rattle.wf_model.specs.State.{screen}
use Rattle.wf_model.specs.Beginnings.{IsOfContext, composed_is}
use Rattle.wf_model.specs.Objects.{Context}
use Rattle.wf_turn.specs.Moments.{AsksContext, At, Composes, EndsInto, IsOfLastFrame, by_line, image_after, in_tick}
use Rattle.wf_turn.specs.Program.{waiting}
use Rattle.wf_turn.proofs.Cases.{IsTick, turn_case}
use Rattle.wf_turn.proofs.FrameThatEndedLast.{asked_is, at_end, at_more, last_ends, last_stays}
use Rattle.wf_turn.proofs.FramesCounted.{Goes, step_goes}
use Rattle.wf_turn.proofs.JobThatIsHeld.{AllHold, issued_hold, opening_hold, took_holds, Holds}
use Rattle.wf_turn.proofs.Replays.{Step, order_keeps, taken_turn, turn_of}
use Rattle.wf_turn.proofs.StreamsOfScreens.{AreFine, AreHome, IsDelivered, Others, home_stays, next_image_home, screen_composed}
use Rattle.wf_turn.proofs.ScreenCalls.{AreScreens, EndsNone, begin_ends_none, by_end, ended_keeps, others_stay, own_number, step_keeps}
use Rattle.wf_turn.proofs.ScreenCalls.{still_ends_none}
use Rattle.wf_words.specs.Each.{each_other}

-- of images, which were composed for which stream, and which were begun for which stream under which number
module _ (n : ℕ) (Composed : ℕ → Bitmap → Type 0) (Begun : ℕ → ℕ → Bitmap → Type 0) where
  -- what the Job of a context's frame delivers to a screen was begun
  abbrev IsDrawn : JobKind → ℕ → Bitmap → Type 0
  IsDrawn (kind.Context handle target) number image = nat_le target n ≡ true → Begun target number image
  IsDrawn (kind.Port p) number image = Unit {0}

  record BringsHome (job : Job) : Type 0 where
    contents : AreHome n Composed job.contents
    image : IsDrawn job.kind job.number job.image

  -- a Job has a number that was given, and brings home what was composed while its frame runs
  record IsBegun (h : State) (job : Job) : Type 0 where
    numbered : nat_le job.number h.begun ≡ true
    brings : (r : Running) → h.frame ≡ Some r → job.number ≡ r.number → BringsHome job

  -- so does the Job that a program holds, once it is painted
  abbrev WillBring : State → Option Job → Bool → Type 0
  WillBring h job unpainted = IfSome job (λ j. IsBegun h (cond unpainted (painted_job j) j))

  -- and it is painted
  abbrev Brings : State → Option Job → Bool → Type 0
  Brings h job unpainted = (unpainted ≡ false) × IfSome job (IsBegun h)

  worked_brings : (h : State) (p : Program) → WillBring h p.job p.unpainted → Brings h (worked p).job (worked p).unpainted
  worked_brings h p will = by_parts p.unpainted p.job will
    where
      by_parts : (b : Bool) (o : Option Job) → WillBring h o b
          → Brings h (worked (record p { job = o; unpainted = b })).job (worked (record p { job = o; unpainted = b })).unpainted
      by_parts true None will = (refl, tt)
      by_parts true (Some job) will = (refl, will)
      by_parts false o will = (refl, will)

  -- a show whose screens have what was composed
  record AreComposed (show : Show) : Type 0 where
    state : AreScreens n Composed show.state
    programs : AllHold (Brings show.state) show.programs

-- of what was composed and begun before an entry and after it
module _ (n : ℕ) (Before After : ℕ → Bitmap → Type 0) (Begun Later : ℕ → ℕ → Bitmap → Type 0) where
  -- what is composed stays so, but for a stream that a frame ends into; an image that was begun is composed where its frame ends, and
  -- one is begun where a context composes it
  record Tells (show : Show) (t : Turn) : Type 0 where
    stays : (k : ℕ) (image : Bitmap) → ((m : ℕ) → EndsInto k m show t → ⊥) → Before k image → After k image
    ends : (k number : ℕ) (image : Bitmap) → Begun k number image → EndsInto k number show t → After k image
    keeps : (k number : ℕ) (image : Bitmap) → Begun k number image → Later k number image
    begins : (k number : ℕ) (image : Bitmap) → Composes k number image show t → Later k number image

  abbrev Stay : Type 0
  Stay = (k : ℕ) (image : Bitmap) → Before k image → After k image

  -- a Job that was begun brings home what was composed, while its frame goes on
  still_begun : (h after : State) → Goes h after → ((r : Running) → after.frame ≡ Some r → Stay)
      → ((k number : ℕ) (image : Bitmap) → Begun k number image → Later k number image) → (job : Job) → IsBegun n Before Begun h job
      → IsBegun n After Later after job
  still_begun h after goes stay keeps job is = record {
    numbered = grind (arith, nat_tests, is.numbered, goes.counted);
    brings = λ r runs own.
        (let brings = is.brings r (goes.runs job.number is.numbered r runs own) own in
        record { contents = home_stays n Before After job.contents (stay r runs) brings.contents; image = drawn job.kind brings.image });
  }
    where
      drawn : (k : JobKind) → IsDrawn n Before Begun k job.number job.image → IsDrawn n After Later k job.number job.image
      drawn (kind.Context handle target) begun = λ screen. keeps target job.number job.image (begun screen)
      drawn (kind.Port p) begun = tt

  module _ (show : Show) (client : ℕ) (m : Bool) (p : Program) (stands : program_at show client ≡ Some p)
      (are : AreScreens n Before show.state) where
    abbrev h : State
    h = show.state

    abbrev TellsOf : State × Reply → Type 0
    TellsOf x = Tells show (entry client x.1)

    -- what the turn leaves of the screens, and of what is composed while a frame runs
    record Turned (x : State × Reply) : Type 0 where
      state : AreScreens n After x.0
      stay : (r : Running) → x.0.frame ≡ Some r → Stay

    -- a call that ends no frame
    other_stays : (w : Wanted) → next p ≡ Some w → EndsNone w.call → (x : State × Reply) → TellsOf x → Stay
    other_stays w asks none x tells k image = tells.stays k image
        (λ number ends. (
        let is : plain (call.End ends.job) ≡ w = asked_is show (entry client x.1) p w (plain (call.End ends.job)) stands asks ends.asks in
        none ends.job (sym (ap (λ (y : Wanted). y.call) is))))

    other_turned : (w : Wanted) → next p ≡ Some w → EndsNone w.call → TellsOf (step h client w.call m) → Turned (step h client w.call m)
    unfolding step
    other_turned w asks none tells =
        let stay : Stay = other_stays w asks none (step h client w.call m) tells in
        record {
          state = others_stay n Before After (step h client w.call m).0 stay (step_keeps n Before h client w.call m none are);
          stay = λ r runs. stay;
        }

    -- the end of the frame whose Job the program holds
    end_turned : (job : Job) → next p ≡ Some (plain (call.End job)) → IsBegun n Before Begun h job
        → TellsOf (step h client (call.End job) m) → Turned (step h client (call.End job) m)
    unfolding act step
    end_turned job asks begun =
        by_end (λ x. TellsOf x → Turned (settle_if (is_ok_code x.1.code) x.0, x.1)) h job
        (λ tells. (
        let stay : Stay = λ k image. tells.stays k image (λ number ends. absurd (let no : 10 ≡ 0 = ends.code in cc)) in
        record { state = others_stay n Before After h stay are; stay = λ r runs. stay }))
        (λ r runs own tells. (
        let brings = begun.brings r runs (own_number job r own) in
        record {
          state = ended_keeps n Before After job r h runs own brings.contents (delivered tells job.kind refl brings.image)
              (others tells) are;
          stay = λ r none. absurd cc;
        }))
      where
        delivered : Tells show (record { client = client; code = 0; value = 0 }) → (k : JobKind) → job.kind ≡ k
            → IsDrawn n Before Begun k job.number job.image → IsDelivered n Before After k job.image
        delivered tells (kind.Port q) is drawn = tt
        delivered tells (kind.Context handle target) is drawn = λ screen. tells.ends target job.number job.image (drawn screen)
            (record {
              job = job;
              handle = handle;
              asks = record { program = p; own = stands; next_is = asks };
              drew = is;
              numbered = refl;
              code = refl;
            })

        others : Tells show (record { client = client; code = 0; value = 0 }) → Others n Before After job.kind
        others tells k image apart = tells.stays k image (λ number ends. (
            let is = asked_is show (record { client = client; code = 0; value = 0 }) p (plain (call.End job)) (plain (call.End ends.job))
            stands asks ends.asks in
            let both : call.End ends.job ≡ call.End job = ap (λ (w : Wanted). w.call) is in
            let same : ends.job ≡ job = cc in
            let drew : job.kind ≡ kind.Context ends.handle k = ap (λ (j : Job). j.kind) (sym same) ∙ ends.drew in
            let other : is_in k (k ∷ []) ≡ false = subst (λ x. is_in k (target_names x) ≡ false) drew apart in
            grind (arith, nat_tests, other)))

    abbrev Turns : Wanted → (Reply → Program) → Type 0
    Turns w now = next p ≡ Some w → TellsOf (step h client w.call m) → Turned (step h client w.call m)

    turned : IfSome p.job (IsBegun n Before Begun h) → (w : Wanted) → next p ≡ Some w → TellsOf (step h client w.call m)
        → Turned (step h client w.call m)
    turned begun w asks =
        turn_case p Turns w
        (record {
          canvas = λ c still asks. other_turned (plain c) asks (still_ends_none c still);
          value = λ c still asks. other_turned (plain c) asks (still_ends_none c still);
          frame = λ s paint asks. other_turned (plain (call.Acquire s)) asks (still_ends_none (call.Acquire s) refl);
          asks = λ w begins tick s next_of at asks. other_turned w asks (begin_ends_none w.call begins);
          ended = λ job held l asks. end_turned job asks (rw held at begun);
        }) asks asks

    -- what a Job that comes brings home, where its entry tells of what was composed
    contents_home : Stay → (scene : Scene) → AreHome n After (next_images (scene_streams scene) h.streams)
    contents_home stay scene =
        home_stays n Before After (next_images (scene_streams scene) h.streams) stay
        (next_image_home n Before h.frame (scene_streams scene) h.streams are.streams)

    -- the Job of a context's frame
    composed_brings : Stay → (c : Context) (b : Beginning) → IsOfContext c h b → AsksContext show (entry client (start b h).1) c
        → TellsOf (start b h) → BringsHome n After Later (painted_job (job_of b h))
    composed_brings stay c b own asks tells =
        let its = context_beginning c.handle c.target c.committed own.buffers h in
        let told : TellsOf (start its h) = subst (λ x. TellsOf (start x h)) own.is tells in
        let asked : AsksContext show (entry client (start its h).1) c =
        subst (λ x. AsksContext show (entry client (start x h).1) c) own.is asks in
        subst (λ x. BringsHome n After Later (painted_job (job_of x h))) (sym own.is)
        (record {
          contents = contents_home stay c.committed;
          image = λ screen. told.begins c.target (h.begun + 1) (painted_job (job_of its h)).image (record {
            context = c;
            asks = asked;
            target = refl;
            numbered = refl;
            code = refl;
            value = refl;
            shows = rw own.at refl;
          });
        })

    -- the Job of a frame that is asked for
    begun_brings : Stay → (c : Call) (wait : Bool) (tick : ℕ) → IsTick p (record { call = c; wait = wait }) tick
        → next p ≡ Some (record { call = c; wait = wait }) → is_begin c ≡ true → (b : Beginning) → begin_call c h ≡ Ok (Some b)
        → TellsOf (start b h) → BringsHome n After Later (painted_job (job_of b h))
    begun_brings stay (call.BeginNext after) wait tick at asks begins b is tells =
        let own = next_is after h b is in
        let waits : next p ≡ Some (waiting (call.BeginNext after)) =
        subst (λ x. next p ≡ Some (record { call = call.BeginNext after; wait = x })) at asks in
        composed_brings stay own.context b own.own (in_tick after (record { program = p; own = stands; next_is = waits }) own.next) tells
    begun_brings stay (call.BeginContext d c) wait tick at asks begins b is tells =
        let own = composed_is d c h b is in
        composed_brings stay own.context b own.own
        (by_line d c wait (record { program = p; own = stands; next_is = asks }) own.found own.inactive) tells
    begun_brings stay (call.BeginPort port) wait tick at asks begins b is tells =
        let own = port_is port h b is in
        subst (λ x. BringsHome n After Later (painted_job (job_of x h))) (sym own.is)
        (record { contents = contents_home stay own.scene; image = tt })
    begun_brings stay _ wait tick at asks begins b is tells = absurd cc

    abbrev Comes : Wanted → (Reply → Program) → Type 0
    Comes w now =
        next p ≡ Some w → is_begin w.call ≡ true → TellsOf (step h client w.call m) → (job : Job)
        → (step h client w.call m).1.payload ≡ payload.Job job → IsBegun n After Later (step h client w.call m).0 (painted_job job)

    no_begin : (c : Call) (now : Reply → Program) → moves_frame c ≡ false → Comes (plain c) now
    no_begin c now still asks begins = absurd (let no : true ≡ false = sym begins ∙ no_begin_moves c still in cc)
      where
        no_begin_moves : (c : Call) → moves_frame c ≡ false → is_begin c ≡ false
        no_begin_moves (call.BeginNext after) still = absurd cc
        no_begin_moves (call.BeginPort port) still = absurd cc
        no_begin_moves (call.BeginContext d c) still = absurd cc
        no_begin_moves _ still = refl

    at_question : (w : Wanted) (tick : ℕ) (now : Reply → Program) → IsTick p w tick → Comes w now
    unfolding step
    at_question w tick now at asks begins tells =
        by_begin (λ x. TellsOf x → Stay → (job : Job) → x.1.payload ≡ payload.Job job
        → IsBegun n After Later (settle_if (is_ok_code x.1.code) x.0) (painted_job job)) h w.call m begins
        (λ register code a tells stay job has. absurd cc)
        (λ b is tells stay job has. (
        let same : job_of b h ≡ job = cc in
        let brings = begun_brings stay w.call w.wait tick at asks begins b is tells in
        subst (λ j. IsBegun n After Later (settle_if true (start b h).0) (painted_job j)) same
        (record { numbered = grind (arith, nat_tests); brings = λ r runs own. brings })))
        tells (other_stays w asks (begin_ends_none w.call begins) (act h w.call m) tells)

    begin_brings : (w : Wanted) → next p ≡ Some w → Comes w (took p)
    begin_brings w asks =
        turn_case p Comes w
        (record {
          canvas = λ c still. no_begin c (λ reply. took_canvas p reply.payload) still;
          value = λ c still. no_begin c (λ reply. line_done p reply.value) still;
          frame = λ s paint. no_begin (call.Acquire s) (λ reply. took_frame p paint (given_canvas reply.payload)) refl;
          asks = λ w begins tick s next_of at.
              at_question w tick (λ reply. took_job (record p { tick = tick; stage = s }) reply.payload (next_of reply.value)) at;
          ended = λ job held l asks begins. absurd cc;
        }) asks

  turn_composed : (show : Show) (client : ℕ) (m : Bool) (done : Show × Turn) → turn show client m ≡ Some done → Tells show done.1
      → AreComposed n Before Begun show → AreComposed n After Later done.0
  turn_composed show client m done taken tells are =
      let t = turn_of show client m done taken in
      let p : Program = t.program in
      let x : State × Reply = step show.state client t.wanted.call m in
      let own_tells : Tells show (entry client x.1) = subst (λ y. Tells show y.1) (sym t.is) tells in
      let held : Brings n Before Begun show.state p.job p.unpainted =
      each_at (Holds (Brings n Before Begun show.state)) show.programs client p are.programs t.own in
      let now = turned show client m p t.stands are.state held.1 t.wanted t.asks own_tells in
      let still : AllHold (Brings n After Later x.0) show.programs =
      each_other (Holds (Brings n Before Begun show.state)) (Holds (Brings n After Later x.0))
      (λ q holds. (holds.0, of_job show.state x.0 (step_goes show.state client t.wanted.call m) now.stay own_tells.keeps q.job holds.1))
      show.programs are.programs in
      let own : Brings n After Later x.0 p.job p.unpainted =
      each_at (Holds (Brings n After Later x.0)) show.programs client p still t.own in
      let will : WillBring n After Later x.0 (took p x.1).job (took p x.1).unpainted =
      took_holds (WillBring n After Later x.0) tt p t.wanted x.1 (rw own.0 own.1)
      (λ begins job has. begin_brings show client m p t.stands are.state t.wanted t.asks t.asks begins own_tells job has) t.asks in
      subst (λ y. AreComposed n After Later y.0) t.is
      (record {
        state = now.state;
        programs = issued_hold (Brings n After Later x.0) show.programs client (worked (took p x.1))
            (worked_brings n After Later x.0 (took p x.1) will) still;
      })
    where
      of_job : (h after : State) → Goes h after → ((r : Running) → after.frame ≡ Some r → Stay)
          → ((k number : ℕ) (image : Bitmap) → Begun k number image → Later k number image) → (o : Option Job)
          → IfSome o (IsBegun n Before Begun h) → IfSome o (IsBegun n After Later after)
      of_job h after goes stay keeps None is = tt
      of_job h after goes stay keeps (Some job) is = still_begun h after goes stay keeps job is

opening_fine : (n : ℕ) (Composed : ℕ → Bitmap → Type 0) (modes : List Modes) (i : ℕ)
    → AreFine n Composed None (map screen (zip (range_with_len i (length modes)) modes))
opening_fine n Composed [] i = tt
opening_fine n Composed (m ∷ ms) i = (
  λ up. record { bare = refl; drawn = λ out. absurd cc; plain = refl; single = refl; image = tt },
  opening_fine n Composed ms (i + 1),
)

module _ (script : PlainScript) (order : List Turn) where
  abbrev ports : ℕ
  ports = length script.ports.modes.items

  -- which image is of the last frame that ended so far, and which was begun so far
  abbrev Last : List Turn → ℕ → Bitmap → Type 0
  Last ts = IsOfLastFrame script ts

  abbrev Begun : List Turn → ℕ → ℕ → Bitmap → Type 0
  Begun ts stream number image = At script ts (Composes stream number image)

  abbrev Keeps : List Turn → Show → Type 0
  Keeps ts show = AreComposed ports (Last ts) (Begun ts) show

  step_composed : (show after : Show) (s : Step script order show after) → Keeps s.earlier show → Keeps (s.earlier ++ s.entry ∷ []) after
  step_composed show after s are =
      let t : Turn = s.entry in
      let more : List Turn = s.earlier ++ t ∷ [] in
      turn_composed ports (Last s.earlier) (Last more) (Begun s.earlier) (Begun more) show t.client (is_marked t) (after, t)
      (taken_turn t (turn show t.client (is_marked t)) after s.takes)
      (record {
        stays = last_stays script s.earlier t show s.reached;
        ends = λ k number image begun ends. last_ends script s.earlier t show s.reached k image number begun ends;
        keeps = λ k number image begun. at_more script s.earlier t show s.reached (Composes k number image) begun;
        begins = λ k number image composes. at_end script s.earlier t show s.reached (Composes k number image) composes;
      }) are

  opening_composed : Keeps [] (opening_show script)
  opening_composed =
      record {
        state = record {
          streams = opening_fine ports (Last []) script.ports.modes.items 1;
          numbered = grind (arith, nat_tests);
        };
        programs = opening_hold (Brings ports (Last []) (Begun []) (opening_show script).state) (refl, tt) script 0 8;
      }

  pub screens_show_last : (port : ℕ) (image : Bitmap) → nat_le port ports ≡ true → image_after port (replay script order) ≡ Some image
      → IsOfLastFrame script order port image
  screens_show_last port image declared has = of_show (replay script order) refl has
    where
      of_show : (o : Option Show) → replay script order ≡ o → image_after port o ≡ Some image → IsOfLastFrame script order port image
      of_show None none has = absurd cc
      of_show (Some last) is has =
          let are = order_keeps script order Keeps step_composed opening_composed last is in
          screen_composed ports (Last order) last.state.frame port last.state.streams image are.state.streams declared has
