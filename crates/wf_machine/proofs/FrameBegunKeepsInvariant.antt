-- The machine once a frame has begun.
use Rattle.wf_machine.proofs.Common.{◌≡◌, ℕ, ◌+◌, ◌-◌, ◌^◌, ◌<◌, true, false, not, List, [], length, map, Option, Some, None, refl, sym, ap}
use Rattle.wf_machine.proofs.Common.{subst, ◌∙◌, arith, is_some, nat_lt, option_map, lt-ltb, length-map, Size, Format, is_a8, blank}
use Rattle.wf_machine.proofs.Common.{Buffers, acquired, KeptStream, StoreView, IsNumbered, buffers_at, held, Job, JobKind, gives_job}
use Rattle.wf_machine.proofs.Common.{Content, DisplayState, Running, State, CoreState, content_shape, drawing, Beginning, is_running}
use Rattle.wf_machine.proofs.Common.{job_of, latch}
use Rattle.wf_machine.proofs.Common.{latched_among, next_images, scene_streams, start, layer_names, Images, Frame, Inside, AllFit}
use Rattle.wf_machine.proofs.Common.{KindFits, PortsFit, contents_of, Holds, state_of, AreShapedAs, IsAnswer, IsOfSomePort, SameImage}
use Rattle.wf_machine.proofs.Common.{modes_of, running_of, sizes_of}
use Rattle.std.proofs.Common.{flat_map}
use Rattle.wf_calls.specs.declared.call.JobKind.TheVariants as kind
use Rattle.wf_model.specs.Frames.{running_of as shape_of_job}
use Rattle.wf_model.specs.Picture.{Fits}
use Rattle.wf_machine.proofs.ImagesOfBegunFrame.{all_latched, all_numbered, taken_once}
use Rattle.wf_machine.proofs.StreamsLatched.{numbered_latch}
use Rattle.wf_machine.proofs.StreamsMapped.{bytes_mapped, changed_at, changed_keeps, latch_keeps, numbered_mapped, seen_mapped}
use Rattle.wf_machine.proofs.StreamsStillFit.{acquired_keeps, all_kept, shape_kept}
use Rattle.wf_model.specs.Named.{SeenSame}
use Rattle.wf_objects.specs.Named.{still_fits}
use Rattle.wf_display.specs.Named.{still_shown, zero_unseen}

-- streams while a frame draws, of which the write buffer of a context's target is out

pub drawn_numbered : (k : JobKind) (high : ℕ) (ss : List KeptStream) → IsNumbered 0 ss high → IsNumbered 0 (drawing k ss) high
drawn_numbered (kind.Context handle target) high ss rising =
    numbered_mapped (changed_at target acquired) (changed_keeps target acquired (shape_kept acquired acquired_keeps)) 0 high ss rising
drawn_numbered (kind.Port port) high ss rising = rising

drawn_bytes : (k : JobKind) (ss : List KeptStream) → (held (drawing k ss)).bytes ≡ (held ss).bytes
drawn_bytes (kind.Context handle target) ss = bytes_mapped (changed_at target acquired)
    (changed_keeps target acquired (shape_kept acquired acquired_keeps)) ss
drawn_bytes (kind.Port port) ss = refl

drawn_fit : (k : JobKind) (cs : List Content) (ss : List KeptStream) → AllFit cs ss → AllFit cs (drawing k ss)
drawn_fit (kind.Context handle target) cs ss fit = all_kept acquired target cs ss acquired_keeps fit
drawn_fit (kind.Port port) cs ss fit = fit

drawn_seen : (k : JobKind) (n : ℕ) (ss : List KeptStream) → SeenSame (buffers_at n ss) (buffers_at n (drawing k ss))
drawn_seen (kind.Context handle target) n ss = seen_mapped (changed_at target acquired)
    (changed_keeps target acquired (shape_kept acquired acquired_keeps)) n ss
drawn_seen (kind.Port port) n ss = λ b found. (b, found, refl, refl)

pub seen_twice : (o p q : Option Buffers) → SeenSame o p → SeenSame p q → SeenSame o q
seen_twice o p q first second b found =
    let c = first b found in
    let d = second c.0 c.1 in
    (d.0, d.1, d.2 ∙ c.2, d.3 ∙ c.3)

-- what a frame of a kind that composes a scene leaves of the streams keeps their shapes
begun_seen : (k : JobKind) (ns : List ℕ) (n : ℕ) (ss : List KeptStream)
    → SeenSame (buffers_at n ss) (buffers_at n (drawing k (latch ns ss)))
begun_seen k ns n ss =
    seen_twice (buffers_at n ss) (buffers_at n (latch ns ss)) (buffers_at n (drawing k (latch ns ss)))
    (seen_mapped (latched_among ns) (latch_keeps ns) n ss) (drawn_seen k n (latch ns ss))

-- a frame has begun: from the machine as it was to the machine as it is now, with what it took
pub record HasBegun (was now : Inside) (b : Beginning) (frame : Frame) (contents : Images) : Type 0 where
  pub free : was.frame ≡ None
  pub taken : contents ≡ next_images (scene_streams b.scene) was.store.streams
  pub store : now.store ≡ record was.store { streams = drawing b.kind (latch (scene_streams b.scene) was.store.streams) }
  pub core : now.core ≡ was.core
  pub shaped : AreShapedAs (latch (scene_streams b.scene) was.store.streams) contents
  pub display : now.display ≡ was.display
  pub shown : b.display ≡ was.display
  pub modes : map sizes_of now.ports.items ≡ map sizes_of was.ports.items
  pub fit : PortsFit (Some frame) 1 now.ports.items
  pub begun : now.begun ≡ was.begun + 1
  pub frame_is : now.frame ≡ Some frame
  pub number : frame.number ≡ was.begun + 1
  pub kind_is : frame.kind ≡ b.kind
  pub size : frame.size ≡ b.scene.size
  pub format_is : frame.format ≡ b.format
  pub shapes : frame.contents.items ≡ map content_shape contents
  pub own : KindFits (map sizes_of was.ports.items) frame.mode (drawing b.kind (latch (scene_streams b.scene) was.store.streams))
      b.scene.size b.format b.kind

module _ (was now : Inside) (b : Beginning) (frame : Frame) (contents : Images) (begun : HasBegun was now b frame contents)
    (sound : Holds was) where
  abbrev names : List ℕ
  names = scene_streams b.scene

  abbrev streams : List KeptStream
  streams = was.store.streams

  abbrev after : List KeptStream
  after = drawing b.kind (latch names streams)

  pub streams_are : now.store.streams ≡ after
  streams_are = ap (λ v. v.streams) begun.store

  no_contents : contents_of (option_map running_of was.frame) ≡ []
  no_contents = ap (λ f. contents_of (option_map running_of f)) begun.free

  pub contents_are : contents_of (option_map running_of now.frame) ≡ map content_shape (next_images names streams)
  contents_are = ap (λ f. contents_of (option_map running_of f)) begun.frame_is ∙ begun.shapes
      ∙ ap (λ c. map content_shape c) begun.taken

  shaped_now : AreShapedAs (latch names streams) (next_images names streams)
  shaped_now = subst (λ c. AreShapedAs (latch names streams) c) begun.taken begun.shaped

  as_many : length now.ports.items ≡ length was.ports.items
  as_many = omega (arith, length-map now.ports.items sizes_of, length-map was.ports.items sizes_of, ap length begun.modes)

  numbered_now : now.store.numbered ≡ was.store.numbered
  numbered_now = ap (λ v. v.numbered) begun.store

  others_now : now.store.others ≡ was.store.others
  others_now = ap (λ v. v.others) begun.store

  made_now : now.store.made ≡ was.store.made
  made_now = ap (λ v. v.made) begun.store

  latched_numbered : IsNumbered 0 (latch names streams) was.store.numbered
  latched_numbered = numbered_latch names 0 was.store.numbered streams sound.numbered

  pub latched_fit : AllFit (map content_shape (next_images names streams)) (latch names streams)
  latched_fit =
      let fit = subst (λ cs. AllFit cs streams) no_contents sound.streams in
      all_latched names was.store.numbered streams sound.numbered shaped_now fit

  pub sound_begun : Holds now
  sound_begun =
      record {
        fits = rw begun.core (still_fits was.core was.store now.store others_now (omega (arith, made_now))
            (λ n within. rw streams_are (begun_seen b.kind names n streams)) sound.fits);
        shows = rw begun.display (still_shown was.display was.store now.store others_now (omega (arith, made_now))
            (zero_unseen 0 was.store.numbered was.store.streams now.store.streams sound.numbered) (λ n within. rw streams_are
            (begun_seen b.kind names n streams)) sound.shows);
        numbered = rw (streams_are, numbered_now) (drawn_numbered b.kind was.store.numbered (latch names streams) latched_numbered);
        few = omega (arith, as_many, sound.few);
        modes = begun.modes ∙ sound.modes ∙ ap modes_of (sym begun.display);
        ports = rw begun.frame_is begun.fit;
        small = rw streams_are (omega (
          arith,
          sound.small,
          drawn_bytes b.kind (latch names streams),
          bytes_mapped (latched_among names) (latch_keeps names) streams,
        ));
        streams = rw (contents_are, streams_are)
            (drawn_fit b.kind (map content_shape (next_images names streams)) (latch names streams) latched_fit);
        frame = rw (begun.frame_is, begun.kind_is, begun.size, begun.format_is, begun.modes, streams_are) begun.own;
        once = rw contents_are (taken_once (flat_map layer_names b.scene.layers.items) streams);
        known = rw (contents_are, numbered_now) (all_numbered was.store.numbered (latch names streams) (next_images names streams)
            latched_numbered shaped_now);
      }

  -- the Job that the plain machine gives
  abbrev pub job : Job
  job = job_of b (state_of was)

  pub left_begun : state_of now ≡ (start b (state_of was)).0
  left_begun =
      let state : ℕ → StoreView → CoreState → DisplayState → Option Running → State = λ n v core display f.
      record {
        made = v.made;
        numbered = v.numbered;
        begun = n;
        streams = v.streams;
        core = core;
        display = display;
        frame = f;
      } in
      let left : StoreView = record was.store { streams = after } in
      ap (λ v. state now.begun v now.core now.display (option_map running_of now.frame)) begun.store
      ∙ ap (λ n. state n left now.core now.display (option_map running_of now.frame)) begun.begun
      ∙ ap (λ core. state (was.begun + 1) left core now.display (option_map running_of now.frame)) begun.core
      ∙ ap (λ d. state (was.begun + 1) left was.core d (option_map running_of now.frame)) (begun.display ∙ sym begun.shown)
      ∙ ap (λ o. state (was.begun + 1) left was.core b.display o) frame_is
    where
      frame_is : option_map running_of now.frame ≡ Some (shape_of_job job)
      frame_is =
          let shape : ℕ → JobKind → Size → Format → List Content
          → Option Running = λ n j size f cs. Some (record { number = n; kind = j; size = size; format = f; contents = cs }) in
          let cs = frame.contents.items in
          ap (λ o. option_map running_of o) begun.frame_is
          ∙ ap (λ n. shape n frame.kind frame.size frame.format cs) begun.number
          ∙ ap (λ j. shape (was.begun + 1) j frame.size frame.format cs) begun.kind_is
          ∙ ap (λ size. shape (was.begun + 1) b.kind size frame.format cs) begun.size
          ∙ ap (λ f. shape (was.begun + 1) b.kind b.scene.size f cs) begun.format_is
          ∙ ap (λ cs. shape (was.begun + 1) b.kind b.scene.size b.format cs) (begun.shapes
          ∙ ap (λ c. map content_shape c) begun.taken)

  -- a Job that is given as the plain machine gives it
  pub record IsGiven (given : Job) : Type 0 where
    pub number : given.number ≡ was.begun + 1
    pub kind_is : given.kind ≡ b.kind
    pub scene_is : given.scene ≡ b.scene
    pub contents_are : given.contents ≡ contents
    pub image : SameImage true b.kind (blank b.scene.size b.format) given.image
    pub size : given.image.size ≡ b.scene.size
    pub four : is_a8 given.image.format ≡ false
    pub port : IsOfSomePort b.kind
    pub fits : Fits b.scene contents

  pub answer_begun : (given : Job) → IsGiven given → IsAnswer (start b (state_of was)).1 (gives_job b.value given)
  answer_begun given is =
      record {
        code = refl;
        value = refl;
        payload = record {
          number = is.number;
          kind = is.kind_is;
          scene = is.scene_is;
          contents = is.contents_are ∙ begun.taken;
          image = is.image;
        };
        paintable = record {
          port = rw is.kind_is is.port;
          fits = rw (is.scene_is, is.contents_are) is.fits;
          size = is.size ∙ sym (ap (λ s. s.size) is.scene_is);
          four = is.four;
        };
      }

-- while no frame runs and some can be numbered

pub none_running : (m : Inside) → m.frame ≡ None → is_running (state_of m) ≡ false
none_running m free = ap (λ f. is_some (option_map running_of f)) free

pub some_left : (n : ℕ) → n < 2 ^ 64 - 1 → (not (nat_lt n (2 ^ 64 - 1))) ≡ false
some_left n few = rw (lt-ltb n (2 ^ 64 - 1) few) refl

-- a machine that is seen without a frame has none
pub no_frame : (m : Inside) (s : State) → state_of m ≡ s → s.frame ≡ None → m.frame ≡ None
no_frame m s seen free = of_frame m.frame (ap (λ t. t.frame) seen ∙ free)
  where
    of_frame : (o : Option Frame) → option_map running_of o ≡ None → o ≡ None
    of_frame None is = refl
    of_frame (Some f) is = absurd cc
