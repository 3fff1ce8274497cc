-- While no frame runs, each screen that a frame ended into has an image.
use Rattle.wf_turn.proofs.Common.{◌≡◌, ◌∙◌, ◌⊎◌, ◌<◌, ◌≤◌, ℕ, ◌+◌, Bool, true, false, cond, ◌==◌, ◌||◌, List, [], ◌∷◌, ◌++◌, map}
use Rattle.wf_turn.proofs.Common.{length, Option}
use Rattle.wf_turn.proofs.Common.{Some, None, refl, sym, ap, subst, arith, Ok, nat_le, zip, range_with_len, option_map, nat_tests}
use Rattle.wf_turn.proofs.Common.{and_parts}
use Rattle.wf_turn.proofs.Common.{flat_map, suc, zero, Size}
use Rattle.wf_turn.proofs.Common.{eqb-true, is_in, inl, inr, length-map, list_all, IsSome, Bitmap, image_of, Buffers, acquired, KeptStream}
use Rattle.wf_turn.proofs.Common.{stream_at, Call, Code, Job, JobKind, Reply, Turn, entry, is_ok_code, job_of}
use Rattle.wf_turn.proofs.Common.{home_if, next_images, next_image_of, scene_streams, Beginning, begin_call, Images, State, Running}
use Rattle.wf_turn.proofs.Common.{running_of}
use Rattle.wf_turn.proofs.Common.{is_of_frame, act, step, effect, PlainScript, Wanted, is_marked, replay, Program, next, plain, Show}
use Rattle.wf_turn.proofs.Common.{opening_show, turn, program_at, next_is, port_is}
use Rattle.wf_stream.specs.Buffers.{is_plain, latched, next_image, posted, taken_of}
use Rattle.wf_stream.specs.Buffers.ReadBuffer.{home}
use Rattle.wf_stream.specs.Streams.{change_stream, unnamed, has_number}
use Rattle.wf_calls.specs.declared.call.Call.TheVariants as call
use Rattle.wf_calls.specs.declared.call.JobKind.TheVariants as kind
use Rattle.wf_calls.specs.declared.ports.Modes.{Modes}
use Rattle.wf_calls.specs.Replies.{bare, done, gives_back_job}
use Rattle.wf_calls.specs.Parts.{Register, of_device, of_display, register_of, no_register}
use Rattle.wf_model.specs.Beginnings.{composed_is}
use Rattle.wf_model.specs.Composing.{display_side}
use Rattle.wf_model.specs.DisplaySides.{display_answer}
use Rattle.wf_model.specs.Effects.{Effect, IsReturn, acquires, begins, composes, displays, ends, makes, refuses, returns, tells, unnames}
use Rattle.wf_model.specs.Frames.{brought_home, content_shape, delivered, drawing, end_frame, has_shape, latched_among, start}
use Rattle.wf_model.specs.Kept.{modes_in, modes_stay}
use Rattle.wf_model.specs.Named.{in_back, in_first, in_front}
use Rattle.wf_model.specs.Names.{all_names, core_names, display_names, frame_names, own_names, pipeline_names, settle_if, target_names}
use Rattle.wf_model.specs.Registers.{offered}
use Rattle.wf_model.specs.State.{initial_port, screen}
use Rattle.wf_model.specs.declared.Content.{Content}
use Rattle.wf_model.specs.declared.display.Port.{Port}
use Rattle.wf_turn.specs.Moments.{At, EndsInto, image_after, is_free_after}
use Rattle.wf_turn.proofs.Cases.{turn_case}
use Rattle.wf_turn.proofs.FrameThatEndedLast.{asked_is, at_either}
use Rattle.wf_turn.proofs.Replays.{Step, order_keeps, taken_turn, turn_of}
use Rattle.wf_turn.proofs.ScreenCalls.{EndsNone, begin_ends_none, by_end, still_ends_none}
use Rattle.wf_words.specs.Mapped.{at_filtered, at_mapped, at_more}
use Rattle.wf_words.specs.Options.{not_some}

abbrev key_of : KeptStream → ℕ
key_of s = s.number

-- a frame takes an image of a stream to which one was posted
posted_waits : (image : Bitmap) (b : Buffers) → next_image (posted image b) ≡ None → ⊥
posted_waits image b none = of_plain (is_plain b) b.waiting none
  where
    of_plain : (plain : Bool) (xs : List Bitmap) → taken_of (cond plain (image ∷ []) (xs ++ image ∷ [])) b.read ≡ None → ⊥
    of_plain true xs none = absurd cc
    of_plain false [] none = absurd cc
    of_plain false (x ∷ xs) none = absurd cc

in_range : (k low many : ℕ) → low ≤ k → k < low + many → is_in k (range_with_len low many) ≡ true
in_range k low zero from to = absurd (omega arith)
in_range k low (suc many) from to =
    elim (low == k) as (λ b. (low == k) ≡ b → (b || is_in k (range_with_len (low + 1) many)) ≡ true) [
      | true ↦ λ here. refl
      | false ↦ λ apart. in_range k (low + 1) many (grind (arith, nat_tests)) (omega arith)
    ] refl

-- the streams whose images the running frame has
abbrev shown : Option Running → List ℕ
shown None = []
shown (Some f) = map (λ c. c.stream) f.contents

-- a frame has the image that it takes of each stream that its scene names
taken_there : (ns : List ℕ) (k : ℕ) (ss : List KeptStream) (s : KeptStream) (image : Bitmap) → stream_at k ss ≡ Some s
    → next_image s.buffers ≡ Some image → is_in k ns ≡ true → is_in k (map (λ c. c.stream) (map content_shape (next_images ns ss))) ≡ true
taken_there [] k ss s image at has within = absurd cc
taken_there (j ∷ ns) k ss s image at has within = of_key (j == k) refl (taken_there ns k ss s image at has)
  where
    names : List ℕ → List ℕ
    names ms = map (λ c. c.stream) (map content_shape (next_images ms ss))

    Later : Type 0
    Later = is_in k ns ≡ true → is_in k (map (λ c. c.stream) (map content_shape (next_images ns ss))) ≡ true

    of_next_image : (j == k) ≡ false → Later → (o : Option Bitmap) → next_image_of (stream_at j ss) ≡ o
        → is_in k (map (λ c. c.stream) (map content_shape (next_images (j ∷ ns) ss))) ≡ true
    of_next_image apart later None is = rw is (later (rw apart at within))
    of_next_image apart later (Some other) is = rw (is, apart) (later (rw apart at within))

    of_key : (b : Bool) → (j == k) ≡ b → Later → is_in k (map (λ c. c.stream) (map content_shape (next_images (j ∷ ns) ss))) ≡ true
    of_key true here later =
        let there : next_image_of (stream_at j ss) ≡ Some image =
        ap (λ m. next_image_of (stream_at m ss)) (eqb-true j k here) ∙ ap next_image_of at ∙ has in
        rw (there, here) refl
    of_key false apart later = of_next_image apart later (next_image_of (stream_at j ss)) refl

-- a Job of a frame has an image for each stream of the frame's contents
contents_there : (cs : List Content) (xs : Images) (k : ℕ) → list_all (λ c. has_shape (image_of c.stream xs) c) cs ≡ true
    → is_in k (map (λ c. c.stream) cs) ≡ true → image_of k xs ≡ None → ⊥
contents_there [] xs k all within none = absurd cc
contents_there (c ∷ cs) xs k all within none = of_key (c.stream == k) refl (contents_there cs xs k parts.1)
  where
    parts : (has_shape (image_of c.stream xs) c ≡ true) × (list_all (λ d. has_shape (image_of d.stream xs) d) cs ≡ true)
    parts = and_parts (has_shape (image_of c.stream xs) c) (list_all (λ d. has_shape (image_of d.stream xs) d) cs) all

    of_key : (b : Bool) → (c.stream == k) ≡ b → (is_in k (map (λ d. d.stream) cs) ≡ true → image_of k xs ≡ None → ⊥) → ⊥
    of_key true here later =
        let nothing : image_of c.stream xs ≡ None = ap (λ m. image_of m xs) (eqb-true c.stream k here) ∙ none in
        (let no : false ≡ true = rw nothing at parts.0 in cc)
    of_key false apart later = later (rw apart at within) none

module _ (n : ℕ) (Ended : ℕ → Type 0) where
  -- a stream is kept; and if a frame takes no image of it, though one ended into it, the running frame has that
  abbrev pub HasImage : Option Running → ℕ → Option KeptStream → Type 0
  HasImage f k None = ⊥
  HasImage f k (Some s) = next_image s.buffers ≡ None → Ended k → is_in k (shown f) ≡ true

  -- so are the screens of all ports
  pub record AreKept (h : State) : Type 0 where
    pub streams : (k : ℕ) → nat_le 1 k ≡ true → nat_le k n ≡ true → HasImage h.frame k (stream_at k h.streams)
    pub ports : length h.display.ports ≡ n

  -- a change of streams that takes no image away
  mapped_has : (g : KeptStream → KeptStream) → ((s : KeptStream) → (g s).number ≡ s.number)
      → ((s : KeptStream) → next_image (g s).buffers ≡ None → next_image s.buffers ≡ None)
      → (f : Option Running) (k : ℕ) (ss : List KeptStream)
      → HasImage f k (stream_at k ss) → HasImage f k (stream_at k (map g ss))
  mapped_has g same empties f k ss has = subst (HasImage f k) (sym (at_mapped key_of g same k ss)) (of_stream (stream_at k ss) has)
    where
      of_stream : (o : Option KeptStream) → HasImage f k o → HasImage f k (option_map g o)
      of_stream None has = has
      of_stream (Some s) has = λ none ended. has (empties s none) ended

  changed_has : (j : ℕ) (g : Buffers → Buffers) → ((b : Buffers) → next_image (g b) ≡ None → next_image b ≡ None)
      → (f : Option Running) (k : ℕ)
      (ss : List KeptStream) → HasImage f k (stream_at k ss) → HasImage f k (stream_at k (change_stream j g ss))
  changed_has j g empties f k ss has = mapped_has put numbers takes f k ss has
    where
      put : KeptStream → KeptStream
      put s = cond (s.number == j) (record s { buffers = g s.buffers }) s

      numbers : (s : KeptStream) → (put s).number ≡ s.number
      numbers s = elim (s.number == j) as (λ b. (cond b (record s { buffers = g s.buffers }) s).number ≡ s.number) [
        | true ↦ refl
        | false ↦ refl
      ]

      takes : (s : KeptStream) → next_image (put s).buffers ≡ None → next_image s.buffers ≡ None
      takes s = elim (s.number == j)
          as (λ b. next_image (cond b (record s { buffers = g s.buffers }) s).buffers ≡ None → next_image s.buffers ≡ None) [
            | true ↦ empties s.buffers
            | false ↦ λ none. none
          ]

  unnamed_has : (handle : ℕ) (f : Option Running) (k : ℕ) (ss : List KeptStream) → HasImage f k (stream_at k ss)
      → HasImage f k (stream_at k (map (unnamed handle) ss))
  unnamed_has handle f k ss has = mapped_has (unnamed handle) numbers takes f k ss has
    where
      numbers : (s : KeptStream) → (unnamed handle s).number ≡ s.number
      numbers s = elim (s.handle == handle) as (λ b. (cond b (record s { handle = 0 }) s).number ≡ s.number) [ true ↦ refl | false ↦ refl ]

      takes : (s : KeptStream) → next_image (unnamed handle s).buffers ≡ None → next_image s.buffers ≡ None
      takes s = elim (s.handle == handle)
          as (λ b. next_image (cond b (record s { handle = 0 }) s).buffers ≡ None → next_image s.buffers ≡ None) [
            | true ↦ λ none. none
            | false ↦ λ none. none
          ]

  -- a frame begins

  latched_has : (ns : List ℕ) (r : Running) (k : ℕ) (ss : List KeptStream) → r.contents ≡ map content_shape (next_images ns ss)
      → HasImage None k (stream_at k ss) → HasImage (Some r) k (stream_at k (map (latched_among ns) ss))
  latched_has ns r k ss contents has =
      subst (HasImage (Some r) k) (sym (at_mapped key_of (latched_among ns) numbers k ss)) (of_stream (stream_at k ss) refl has)
    where
      numbers : (s : KeptStream) → (latched_among ns s).number ≡ s.number
      numbers s = elim (is_in s.number ns) as (λ b. (cond b (record s { buffers = latched s.buffers }) s).number ≡ s.number) [
        | true ↦ refl
        | false ↦ refl
      ]

      of_next_image : (s : KeptStream) → stream_at k ss ≡ Some s → (o : Option Bitmap) → next_image s.buffers ≡ o → HasImage None k (Some s)
          → (b : Bool) → is_in s.number ns ≡ b → next_image (latched_among ns s).buffers ≡ None → Ended k → is_in k (shown (Some r)) ≡ true
      of_next_image s at None is has b within none ended = absurd (let no : false ≡ true = has is ended in cc)
      of_next_image s at (Some image) is has true within none ended =
          let number : s.number ≡ k = has_number k ss s at in
          let there = taken_there ns k ss s image at is (subst (λ m. is_in m ns ≡ true) number within) in
          subst (λ cs. is_in k (map (λ c. c.stream) cs) ≡ true) (sym contents) there
      of_next_image s at (Some image) is has false apart none ended =
          absurd (let no : Some image ≡ None = sym is ∙ (rw apart at none) in cc)

      of_stream : (o : Option KeptStream) → stream_at k ss ≡ o → HasImage None k o → HasImage (Some r) k (option_map (latched_among ns) o)
      of_stream None at has = has
      of_stream (Some s) at has = of_next_image s at (next_image s.buffers) refl has (is_in s.number ns) refl

  drawing_has : (d : JobKind) (f : Option Running) (k : ℕ) (ss : List KeptStream) → HasImage f k (stream_at k ss)
      → HasImage f k (stream_at k (drawing d ss))
  drawing_has (kind.Context handle target) f k ss has = changed_has target acquired (λ b none. none) f k ss has
  drawing_has (kind.Port p) f k ss has = has

  -- a frame ends: what it had is home

  home_has : (job : Job) (r : Running) → is_of_frame job r ≡ true → (k : ℕ) (ss : List KeptStream) → HasImage (Some r) k (stream_at k ss)
      → HasImage None k (stream_at k (brought_home job.contents ss))
  home_has job r own k ss has =
      subst (HasImage None k) (sym (at_mapped key_of bring numbers k ss)) (of_stream (stream_at k ss) refl has)
    where
      bring : KeptStream → KeptStream
      bring s = home_if (image_of s.number job.contents) s

      numbers : (s : KeptStream) → (bring s).number ≡ s.number
      numbers s = of_image (image_of s.number job.contents)
        where
          of_image : (o : Option Bitmap) → (home_if o s).number ≡ s.number
          of_image None = refl
          of_image (Some image) = refl

      whole : list_all (λ c. has_shape (image_of c.stream job.contents) c) r.contents ≡ true
      whole = grind (arith, own)

      of_waiting : (image : Bitmap) (xs : List Bitmap) → taken_of xs (home image) ≡ None → ⊥
      of_waiting image [] none = absurd cc
      of_waiting image (own ∷ rest) none = absurd cc

      of_image : (s : KeptStream) → s.number ≡ k → HasImage (Some r) k (Some s) → (o : Option Bitmap) → image_of s.number job.contents ≡ o
          → next_image (home_if o s).buffers ≡ None → Ended k → ⊥
      of_image s number has None is none ended =
          contents_there r.contents job.contents k whole (has none ended) (subst (λ m. image_of m job.contents ≡ None) number is)
      of_image s number has (Some image) is none ended = of_waiting image s.buffers.waiting none

      of_stream : (o : Option KeptStream) → stream_at k ss ≡ o → HasImage (Some r) k o → HasImage None k (option_map bring o)
      of_stream None at has = has
      of_stream (Some s) at has = λ none ended.
          absurd (of_image s (has_number k ss s at) has (image_of s.number job.contents) refl none ended)

  -- each screen has a name
  named : (k : ℕ) (h : State) → nat_le 1 k ≡ true → nat_le k n ≡ true → length h.display.ports ≡ n → is_in k (all_names h) ≡ true
  named k h from to ports =
      let screens : List ℕ = range_with_len 1 (length h.display.ports) in
      let sources : List ℕ = map (λ s. s.stream) h.display.sources in
      let is : is_in k screens ≡ true = ap (λ m. is_in k (range_with_len 1 m)) ports
      ∙ in_range k 1 n (grind (arith, nat_tests, from)) (grind (arith, nat_tests, to)) in
      let own : is_in k (display_names h.display) ≡ true =
      in_front k (screens ++ sources) (flat_map pipeline_names h.display.pipelines) (in_front k screens sources is) in
      let front : List ℕ = flat_map own_names h.streams ++ core_names h.core in
      in_front k (front ++ display_names h.display) (frame_names h.frame) (in_back k front (display_names h.display) own)

  settled_kept : (b : Bool) (h : State) → AreKept h → AreKept (settle_if b h)
  settled_kept false h are = are
  settled_kept true h are = record {
    streams = λ k from to.
        subst (HasImage h.frame k)
        (sym (at_filtered key_of (λ m. is_in m (all_names h)) k (named k h from to are.ports) h.streams))
        (are.streams k from to);
    ports = are.ports;
  }

  -- every call but an end

  offered_kept : (register : Register) (refused : Code) (h : State) → AreKept h → AreKept (offered register refused h)
  offered_kept (of_device d) refused h are = record { streams = are.streams; ports = are.ports }
  offered_kept of_display refused h are = record { streams = are.streams; ports = are.ports }
  offered_kept no_register refused h are = are

  more_has : (f : Option Running) (k : ℕ) (ss : List KeptStream) (made : KeptStream) → HasImage f k (stream_at k ss)
      → HasImage f k (stream_at k (ss ++ made ∷ []))
  more_has f k ss made has = of_stream (stream_at k ss) refl has
    where
      of_stream : (o : Option KeptStream) → stream_at k ss ≡ o → HasImage f k o → HasImage f k (stream_at k (ss ++ made ∷ []))
      of_stream None at has = absurd has
      of_stream (Some s) at has = subst (HasImage f k) (sym (at_more key_of k ss made s at)) has

  begun_kept : (b : Beginning) (h : State) → h.frame ≡ None → length b.display.ports ≡ length h.display.ports → AreKept h
      → AreKept (start b h).0
  begun_kept b h free ports are = record {
    streams = λ k from to.
        (let r : Running = running_of (job_of b h) in
        let was : HasImage None k (stream_at k h.streams) =
        subst (λ f. HasImage f k (stream_at k h.streams)) free (are.streams k from to) in
        drawing_has b.kind (Some r) k (map (latched_among (scene_streams b.scene)) h.streams)
        (latched_has (scene_streams b.scene) r k h.streams refl was));
    ports = ports ∙ are.ports;
  }

  effect_kept : (h : State) (c : Call) (x : State × Reply) → Effect h c x → EndsNone c → AreKept h → AreKept x.0
  effect_kept h c x (refuses honest left) none are = subst AreKept (sym left) (offered_kept (register_of c) x.1.code h are)
  effect_kept h c x (composes m w value does is) none are =
      subst (λ y. AreKept y.0) (sym is) (record { streams = are.streams; ports = are.ports })
  effect_kept h c x (displays m w value does is) none are =
      let same : map (λ (p : Port). p.modes.items) w.display.ports ≡ map (λ (p : Port). p.modes.items) h.display.ports =
      subst (λ o. modes_in (display_answer (display_side h) o).0 ≡ modes_in (display_side h)) does (modes_stay m c (display_side h)) in
      let many : length w.display.ports ≡ length h.display.ports =
      sym (length-map w.display.ports (λ (p : Port). p.modes.items)) ∙ ap (λ (ms : List (List Size)). length ms) same
      ∙ length-map h.display.ports (λ (p : Port). p.modes.items) in
      subst (λ y. AreKept y.0) (sym is) (record { streams = are.streams; ports = many ∙ are.ports })
  effect_kept h c x (makes new is) none are =
      subst (λ y. AreKept y.0) (sym is)
      (record { streams = λ k from to. more_has h.frame k h.streams _ (are.streams k from to); ports = are.ports })
  effect_kept h c x (unnames handle is) none are =
      subst (λ y. AreKept y.0) (sym is)
      (record { streams = λ k from to. unnamed_has handle h.frame k h.streams (are.streams k from to); ports = are.ports })
  effect_kept h c x (acquires handle s at is) none are =
      subst (λ y. AreKept y.0) (sym is)
      (record {
        streams = λ k from to. changed_has s.number acquired (λ b none. none) h.frame k h.streams (are.streams k from to);
        ports = are.ports;
      })
  effect_kept h c x (returns canvas f way out is) none are =
      subst (λ y. AreKept y.0) (sym is)
      (record {
        streams = λ k from to. changed_has canvas.stream f (of_way way) h.frame k h.streams (are.streams k from to);
        ports = are.ports;
      })
    where
      of_way : IsReturn canvas f → (b : Buffers) → next_image (f b) ≡ None → next_image b ≡ None
      of_way (inl is) b none =
          absurd (posted_waits canvas.image b (ap (λ (g : Buffers → Buffers). next_image (g b)) (sym is) ∙ none))
      of_way (inr is) b none = ap (λ (g : Buffers → Buffers). next_image (g b)) (sym is) ∙ none
  effect_kept h c x (begins b free begun is) none are =
      subst (λ y. AreKept y.0) (sym is) (begun_kept b h (not_some h.frame free) (begun_ports c b begun) are)
    where
      begun_ports : (c : Call) (b : Beginning) → begin_call c h ≡ Ok (Some b) → length b.display.ports ≡ length h.display.ports
      begun_ports (call.BeginNext after) b is = ap (λ (x : Beginning). length x.display.ports) (next_is after h b is).own.is
      begun_ports (call.BeginContext d c) b is = ap (λ (x : Beginning). length x.display.ports) (composed_is d c h b is).own.is
      begun_ports (call.BeginPort port) b is = ap (λ (x : Beginning). length x.display.ports) (port_is port h b is).is
      begun_ports _ b is = absurd cc
  effect_kept h c x (ends job r call_is runs own is) none are = absurd (none job call_is)
  effect_kept h c x (tells value is) none are = subst (λ y. AreKept y.0) (sym is) are

-- into which streams a frame ended before an entry, and behind it
module _ (n : ℕ) (Before After : ℕ → Type 0) where
  other_has : (f : Option Running) (k : ℕ) → (After k → Before k) → (o : Option KeptStream) → HasImage n Before f k o
      → HasImage n After f k o
  other_has f k was None has = has
  other_has f k was (Some s) has = λ none ended. has none (was ended)

  others_kept : (h : State) → ((k : ℕ) → After k → Before k) → AreKept n Before h → AreKept n After h
  others_kept h was are = record {
    streams = λ k from to. other_has h.frame k (was k) (stream_at k h.streams) (are.streams k from to);
    ports = are.ports;
  }

  -- what a frame drew into has the image
  delivered_has : (d : JobKind) (image : Bitmap) (k : ℕ) (ss : List KeptStream) → (is_in k (target_names d) ≡ false → After k → Before k)
      → HasImage n Before None k (stream_at k ss) → HasImage n After None k (stream_at k (delivered d image ss))
  delivered_has (kind.Port p) image k ss was has = other_has None k (was refl) (stream_at k ss) has
  delivered_has (kind.Context handle target) image k ss was has =
      subst (HasImage n After None k) (sym (at_mapped key_of put numbers k ss)) (of_stream (stream_at k ss) refl has)
    where
      put : KeptStream → KeptStream
      put s = cond (s.number == target) (record s { buffers = posted image s.buffers }) s

      numbers : (s : KeptStream) → (put s).number ≡ s.number
      numbers s = elim (s.number == target) as (λ b. (cond b (record s { buffers = posted image s.buffers }) s).number ≡ s.number) [
        | true ↦ refl
        | false ↦ refl
      ]

      of_key : (s : KeptStream) → s.number ≡ k → (b : Bool) → (s.number == target) ≡ b → HasImage n Before None k (Some s)
          → HasImage n After None k (Some (put s))
      of_key s number true here has = rw here (λ none ended. absurd (posted_waits image s.buffers none))
      of_key s number false apart has =
          let other : is_in k (target ∷ []) ≡ false = grind (arith, nat_tests, apart, number) in
          rw apart (λ none ended. has none (was other ended))

      of_stream : (o : Option KeptStream) → stream_at k ss ≡ o → HasImage n Before None k o
          → HasImage n After None k (option_map put o)
      of_stream None at has = has
      of_stream (Some s) at has = of_key s (has_number k ss s at) (s.number == target) refl has

  ended_kept : (job : Job) (r : Running) (h : State) → h.frame ≡ Some r → is_of_frame job r ≡ true
      → ((k : ℕ) → is_in k (target_names job.kind) ≡ false → After k → Before k) → AreKept n Before h
      → AreKept n After (settle_if true (end_frame job h))
  ended_kept job r h runs own was are =
      settled_kept n After true (end_frame job h)
      (record {
        streams = λ k from to.
            (let has : HasImage n Before (Some r) k (stream_at k h.streams) =
            subst (λ f. HasImage n Before f k (stream_at k h.streams)) runs (are.streams k from to) in
            delivered_has job.kind job.image k (brought_home job.contents h.streams) (was k) (home_has n Before job r own k h.streams has));
        ports = are.ports;
      })

  module _ (show : Show) (client : ℕ) (m : Bool) (p : Program) (stands : program_at show client ≡ Some p)
      (are : AreKept n Before show.state) where
    abbrev h : State
    h = show.state

    -- a frame ended before, or the entry ends it
    abbrev Grows : State × Reply → Type 0
    Grows x = (k : ℕ) → After k → Before k ⊎ ((number : ℕ) × EndsInto k number show (entry client x.1))

    other_turned : (w : Wanted) → next p ≡ Some w → EndsNone w.call → Grows (step h client w.call m)
        → AreKept n After (step h client w.call m).0
    unfolding step
    other_turned w asks none grows =
        others_kept (step h client w.call m).0 (λ k ended. of_either k (grows k ended))
        (settled_kept n Before (is_ok_code (act h w.call m).1.code) (act h w.call m).0
        (effect_kept n Before h w.call (act h w.call m) (effect h w.call m) none are))
      where
        of_either : (k : ℕ) → Before k ⊎ ((number : ℕ) × EndsInto k number show (entry client (act h w.call m).1)) → Before k
        of_either k (inl before) = before
        of_either k (inr x) =
            let is = asked_is show (entry client (act h w.call m).1) p w (plain (call.End x.1.job)) stands asks x.1.asks in
            absurd (none x.1.job (sym (ap (λ (y : Wanted). y.call) is)))

    end_turned : (job : Job) → next p ≡ Some (plain (call.End job)) → Grows (step h client (call.End job) m)
        → AreKept n After (step h client (call.End job) m).0
    unfolding act step
    end_turned job asks =
        by_end (λ x. Grows x → AreKept n After (settle_if (is_ok_code x.1.code) x.0)) h job
        (λ grows. others_kept h (λ k ended. of_back k (grows k ended)) are)
        (λ r runs own grows. ended_kept job r h runs own (λ k apart ended. of_other k apart (grows k ended)) are)
      where
        of_back : (k : ℕ) → Before k ⊎ ((number : ℕ) × EndsInto k number show (entry client (gives_back_job job))) → Before k
        of_back k (inl before) = before
        of_back k (inr x) = absurd (let no : 10 ≡ 0 = x.1.code in cc)

        of_other : (k : ℕ) → is_in k (target_names job.kind) ≡ false
            → Before k ⊎ ((number : ℕ) × EndsInto k number show (entry client (bare (done 0)))) → Before k
        of_other k apart (inl before) = before
        of_other k apart (inr x) =
            let is = asked_is show (entry client (bare (done 0))) p (plain (call.End job)) (plain (call.End x.1.job)) stands asks
            x.1.asks in
            let both : call.End x.1.job ≡ call.End job = ap (λ (w : Wanted). w.call) is in
            let same : x.1.job ≡ job = cc in
            let drew : job.kind ≡ kind.Context x.1.handle k = ap (λ (j : Job). j.kind) (sym same) ∙ x.1.drew in
            let other : is_in k (k ∷ []) ≡ false = subst (λ x. is_in k (target_names x) ≡ false) drew apart in
            absurd (let no : true ≡ false = sym (in_first k []) ∙ other in cc)

    turned : (w : Wanted) → next p ≡ Some w → Grows (step h client w.call m) → AreKept n After (step h client w.call m).0
    turned w asks =
        turn_case p (λ x now. next p ≡ Some x → Grows (step h client x.call m) → AreKept n After (step h client x.call m).0) w
        (record {
          canvas = λ c still asks. other_turned (plain c) asks (still_ends_none c still);
          value = λ c still asks. other_turned (plain c) asks (still_ends_none c still);
          frame = λ s paint asks. other_turned (plain (call.Acquire s)) asks (still_ends_none (call.Acquire s) refl);
          asks = λ w begins tick s next_of at asks. other_turned w asks (begin_ends_none w.call begins);
          ended = λ job held l asks. end_turned job asks;
        }) asks asks

  turn_kept : (show : Show) (client : ℕ) (m : Bool) (done : Show × Turn) → turn show client m ≡ Some done
      → ((k : ℕ) → After k → Before k ⊎ ((number : ℕ) × EndsInto k number show done.1)) → AreKept n Before show.state
      → AreKept n After done.0.state
  turn_kept show client m done taken grows are =
      let t = turn_of show client m done taken in
      let own_grows : (k : ℕ) → After k
      → Before k ⊎ ((number : ℕ) × EndsInto k number show (entry client (step show.state client t.wanted.call m).1)) =
      subst (λ (y : Show × Turn). (k : ℕ) → After k → Before k ⊎ ((number : ℕ) × EndsInto k number show y.1)) (sym t.is) grows in
      subst (λ (y : Show × Turn). AreKept n After y.0.state) t.is
      (turned show client m t.program t.stands are t.wanted t.asks own_grows)

opening_has : (n : ℕ) (Ended : ℕ → Type 0) (modes : List Modes) (i k : ℕ) → i ≤ k → k < i + length modes → (Ended k → ⊥)
    → HasImage n Ended None k (stream_at k (map screen (zip (range_with_len i (length modes)) modes)))
opening_has n Ended [] i k from to never = absurd (omega arith)
opening_has n Ended (m ∷ ms) i k from to never =
    elim (i == k) as (λ b. (i == k) ≡ b
    → HasImage n Ended None k (cond b (Some (screen (i, m))) (stream_at k (map screen (zip (range_with_len (i + 1) (length ms)) ms))))) [
      | true ↦ λ here none ended. absurd (never ended)
      | false ↦ λ apart. opening_has n Ended ms (i + 1) k (grind (arith, nat_tests)) (omega arith) never
    ] refl

module _ (script : PlainScript) (order : List Turn) where
  abbrev ports : ℕ
  ports = length script.ports.modes.items

  -- a frame ended into a stream so far
  abbrev HasEnded : List Turn → ℕ → Type 0
  HasEnded ts k = (number : ℕ) × At script ts (EndsInto k number)

  abbrev Keeps : List Turn → Show → Type 0
  Keeps ts show = AreKept ports (HasEnded ts) show.state

  step_kept : (show after : Show) (s : Step script order show after) → Keeps s.earlier show → Keeps (s.earlier ++ s.entry ∷ []) after
  step_kept show after s are =
      let t : Turn = s.entry in
      turn_kept ports (HasEnded s.earlier) (HasEnded (s.earlier ++ t ∷ [])) show t.client (is_marked t) (after, t)
      (taken_turn t (turn show t.client (is_marked t)) after s.takes)
      (λ k ended. of_either k ended (at_either script s.earlier t show s.reached (EndsInto k ended.0) ended.1)) are
    where
      of_either : (k : ℕ) (ended : HasEnded (s.earlier ++ s.entry ∷ []) k)
          → ((before : At script s.earlier (EndsInto k ended.0)) × (before.earlier ≡ ended.1.earlier)) ⊎ EndsInto k ended.0 show s.entry
          → HasEnded s.earlier k ⊎ ((number : ℕ) × EndsInto k number show s.entry)
      of_either k ended (inl x) = inl (ended.0, x.0)
      of_either k ended (inr x) = inr (ended.0, x)

  none_ended : (k : ℕ) → HasEnded [] k → ⊥
  none_ended k (number, at) = of_cut at.earlier at.cut
    where
      of_cut : (ts : List Turn) → [] ≡ ts ++ at.entry ∷ at.later → ⊥
      of_cut [] cut = absurd cc
      of_cut (t ∷ ts) cut = absurd cc

  opening_kept : Keeps [] (opening_show script)
  opening_kept = record {
    streams = λ k from to.
        opening_has ports (HasEnded []) script.ports.modes.items 1 k (grind (arith, nat_tests, from)) (grind (arith, nat_tests, to))
        (none_ended k);
    ports = length-map script.ports.modes.items initial_port;
  }

  pub ports_stay : (last : Show) → replay script order ≡ Some last → length last.state.display.ports ≡ ports
  ports_stay last is = (order_keeps script order Keeps step_kept opening_kept last is).ports

  pub screen_has_image : (port number : ℕ) → nat_le 1 port ≡ true → nat_le port ports ≡ true → At script order (EndsInto port number)
      → is_free_after (replay script order) ≡ true → IsSome (image_after port (replay script order))
  screen_has_image port number from to ended free = of_show (replay script order) refl free
    where
      of_image : (o : Option Bitmap) → (o ≡ None → ⊥) → IsSome o
      of_image None some = absurd (some refl)
      of_image (Some image) some = refl

      of_stream : (f : Option Running) → f ≡ None → (o : Option KeptStream) → HasImage ports (HasEnded order) f port o
          → IsSome (next_image_of o)
      of_stream f is None has = absurd has
      of_stream f is (Some s) has =
          of_image (next_image s.buffers)
          (λ none. (let no : false ≡ true = subst (λ g. is_in port (shown g) ≡ true) is (has none (number, ended)) in cc))

      of_show : (o : Option Show) → replay script order ≡ o → is_free_after o ≡ true → IsSome (image_after port o)
      of_show None none free = absurd cc
      of_show (Some last) is free =
          let are = order_keeps script order Keeps step_kept opening_kept last is in
          of_stream last.state.frame (not_some last.state.frame (grind (arith, nat_tests, free)))
          (stream_at port last.state.streams) (are.streams port from to)
