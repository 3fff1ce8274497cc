-- A frame that starts: its kind decides what it draws into and what its Job shows; the rest is one for all kinds.
use Rattle.wf_machine.proofs.Common.{◌≡◌, ℕ, zero, suc, ◌+◌, ◌-◌, ◌<◌, ◌≤◌, Bool, true, false, List, [], ◌∷◌, length, map, Option, Some}
use Rattle.wf_machine.proofs.Common.{None}
use Rattle.wf_machine.proofs.Common.{refl, sym, ap, subst, ◌∙◌, arith, slice_get, list_all, option_map, IfSome, IsSomeAnd, length-map}
use Rattle.wf_machine.proofs.Common.{is_in, nth, Size, has_sides, is_a8, Bitmap, blank, Scene, Buffers, acquired, is_blocked}
use Rattle.wf_machine.proofs.Common.{latched_if, KeptStream, StoreView, buffers_at, gives_job, Job, JobKind, Beginning, content_shape}
use Rattle.wf_machine.proofs.Common.{drawing}
use Rattle.wf_machine.proofs.Common.{latch, latched_among, next_images, scene_streams, start, target_ready, Images, State, mode_size}
use Rattle.wf_machine.proofs.Common.{Frame}
use Rattle.wf_machine.proofs.Common.{Inside, AllFit, KindFits, PortsFit, away_of, contents_of, Holds, state_of, AreShapedAs, IsAnswer}
use Rattle.wf_machine.proofs.Common.{IsOfMode, IsOfSomePort, SameImage, HoldsBut, IsFrameImage, running_of, sizes_of, IsReady, MayStart}
use Rattle.wf_machine.proofs.Common.{beginning_of}
use Rattle.std.specs.Prelude.{Ok}
use Rattle.wf_calls.specs.declared.call.JobKind.TheVariants as kind
use Rattle.wf_model.specs.Picture.{Fits}
use Rattle.wf_machine.specs.declared.port.Port as declared
use Rattle.wf_machine.specs.Starting.{IsTargetOf, MayDraw, format_for}
use Rattle.wf_machine.proofs.FrameBegunKeepsInvariant.{HasBegun, IsGiven, answer_begun, latched_fit, left_begun}
use Rattle.wf_machine.proofs.ContextFrames.{changed_here, is_ready, latched_here, latched_if_out}
use Rattle.wf_machine.proofs.Drawable.{scene_shows, target_sides}
use Rattle.wf_machine.proofs.StreamsLatched.{latched_keeps}
use Rattle.wf_machine.proofs.StreamsMapped.{latch_keeps, seen_mapped}
use Rattle.wf_machine.proofs.PortFrames.{at_place, sides_of_mode}
use Rattle.wf_machine.proofs.StreamsStillFit.{acquired_keeps, shape_kept}
use Rattle.wf_model.specs.Named.{layers_kept}

-- the target of a context's frame, once the scene's streams are latched
module _ (handle target : ℕ) (scene : Scene) (ss : List KeptStream) (b : Buffers) (at : buffers_at target ss ≡ Some b)
    (size : b.size ≡ scene.size) where
  abbrev shows : Bool
  shows = is_in target (scene_streams scene)

  abbrev late : Buffers
  late = latched_if shows b

  late_at : buffers_at target (latch (scene_streams scene) ss) ≡ Some late
  late_at = latched_here (scene_streams scene) target ss b at

  late_size : late.size ≡ scene.size
  late_size = elim shows as (λ x. (latched_if x b).size ≡ b.size) [ true ↦ latched_keeps.size b | false ↦ refl ] ∙ size

  late_format : late.format ≡ b.format
  late_format = elim shows as (λ x. (latched_if x b).format ≡ b.format) [ true ↦ latched_keeps.format b | false ↦ refl ]

  format_is : format_for (kind.Context handle target) ss ≡ b.format
  format_is = rw at refl

  target_image : (image : Bitmap) (ports : List declared.Port) (mode : ℕ)
      → IsTargetOf (latch (scene_streams scene) ss) ports mode (kind.Context handle target) image
      → image ≡ blank scene.size (format_for (kind.Context handle target) ss)
  target_image image ports mode is =
      let there : image ≡ blank late.size late.format = rw late_at at is in
      there ∙ ap (λ x. blank x late.format) late_size ∙ ap (λ f. blank scene.size f) (late_format ∙ sym format_is)

  target_fits : (modes : List (List Size)) (mode : ℕ)
      → KindFits modes mode (drawing (kind.Context handle target) (latch (scene_streams scene) ss)) scene.size
      (format_for (kind.Context handle target) ss) (kind.Context handle target)
  target_fits modes mode =
      let here = changed_here acquired target (latch (scene_streams scene) ss) late (shape_kept acquired acquired_keeps) late_at in
      rw here (refl, sym late_size, format_is ∙ sym late_format)

  target_takes : (is_blocked late ≡ false) → b.out ≡ false
      → IsSomeAnd (buffers_at target (latch (scene_streams scene) ss)) (λ c. (c.out ≡ false) × (is_blocked c ≡ false))
  target_takes free out = rw late_at (latched_if_out shows b ∙ out, free)

-- no image of a port is away in a context's frame
pub all_home : (f : Frame) (handle target : ℕ) → f.kind ≡ kind.Context handle target → (k : ℕ) (ps : List declared.Port)
    → PortsFit None k ps → PortsFit (Some f) k ps
all_home f handle target is k [] fit = tt
all_home f handle target is k (p ∷ ps) fit =
    let none : 0 ≡ away_of (Some f) k = rw is refl in
    let images = subst (λ n. HoldsBut n p.modes.items p.images.items) none fit.0.images in
    (record { sides = fit.0.sides; images = images }, all_home f handle target is (k + 1) ps fit.1)

-- what is there, where something is
some_of : {A : Type 0} (P : A → Type 0) (o : Option A) → IsSomeAnd o P → (x : A) × (o ≡ Some x) × P x
some_of P None is = absurd is
some_of P (Some x) is = (x, refl, is)

some_so : {A : Type 0} (P Q : A → Type 0) (o : Option A) → ((x : A) → P x → Q x) → IsSomeAnd o P → IsSomeAnd o Q
some_so P Q None so is = absurd is
some_so P Q (Some x) so is = so x is

-- the sides of the modes of the port at a place
sides_in : (frame : Option Frame) (k i : ℕ) (ps : List declared.Port) (sizes : List Size) → PortsFit frame k ps
    → slice_get (map sizes_of ps) i ≡ Some sizes → list_all has_sides sizes ≡ true
sides_in frame k i [] sizes fit at = absurd cc
sides_in frame k zero (p ∷ ps) sizes fit at = (let is : sizes_of p ≡ sizes = cc in subst (λ s. list_all has_sides s ≡ true) is fit.0.sides)
sides_in frame k (suc i) (p ∷ ps) sizes fit at = sides_in frame (k + 1) i ps sizes fit.1 at

-- what is known of the machine before a frame that may start
module _ (was : Inside) (mode : ℕ) (scene : Scene) (value : ℕ) (sound : Holds was) (free : was.frame ≡ None) where
  abbrev names : List ℕ
  names = scene_streams scene

  abbrev latched : List KeptStream
  latched = latch names was.store.streams

  abbrev modes : List (List Size)
  modes = map sizes_of was.ports.items

  at_home : PortsFit None 1 was.ports.items
  at_home = subst (λ o. PortsFit o 1 was.ports.items) free sound.ports

  no_contents : AllFit [] was.store.streams
  no_contents = subst (λ o. AllFit (contents_of (option_map running_of o)) was.store.streams) free sound.streams

  -- the mode of the port
  of_mode : (port : ℕ) → MayDraw (kind.Port port) mode scene (state_of was) → IsSomeAnd (nth port modes) (IsOfMode mode scene.size)
  of_mode port may = subst (λ ms. IsSomeAnd (nth port ms) (IsOfMode mode scene.size)) (sym sound.modes) may

  port_place : (port : ℕ) → MayDraw (kind.Port port) mode scene (state_of was)
      → (1 ≤ port) × (port - 1 < length was.ports.items) × IsSomeAnd (slice_get modes (port - 1)) (IsOfMode mode scene.size)
  port_place port may =
      let found = at_place port modes (IsOfMode mode scene.size) (of_mode port may) in
      (found.0, omega (arith, found.1, length-map was.ports.items sizes_of), found.2)

  -- the target of a context
  target_of : (handle target : ℕ) → MayDraw (kind.Context handle target) mode scene (state_of was)
      → (b : Buffers) × (buffers_at target was.store.streams ≡ Some b)
      × ((b.size ≡ scene.size) × (is_a8 b.format ≡ false) × (target_ready 0 target scene b (state_of was) ≡ Ok tt))
  target_of handle target may = some_of _ (buffers_at target was.store.streams) may

  -- the image to take is there
  pub ready : (k : JobKind) → MayDraw k mode scene (state_of was) → IsReady latched was.ports.items mode k
  ready (kind.Context handle target) may =
      let found = target_of handle target may in
      let fit = is_ready target scene found.0 (state_of was) found.2.2 in
      (at_home, target_takes handle target scene was.store.streams found.0 found.1 found.2.0 fit.1 fit.0)
  ready (kind.Port port) may =
      let found = port_place port may in
      (at_home, found.0, found.1, some_so _ _ (slice_get modes (port - 1)) (λ sizes is. (is.some, is.within)) found.2)

  -- the image that was taken is the scene's
  abbrev pub IsSuited : JobKind → Bitmap → Type 0
  IsSuited k image =
      (image.size ≡ scene.size) × (image.format ≡ format_for k was.store.streams)
      × SameImage true k (blank scene.size (format_for k was.store.streams)) image × (is_a8 image.format ≡ false)

  pub suited : (k : JobKind) (image : Bitmap) → MayDraw k mode scene (state_of was) → IsTargetOf latched was.ports.items mode k image
      → IsSuited k image
  suited (kind.Context handle target) image may is =
      let found = target_of handle target may in
      let same = target_image handle target scene was.store.streams found.0 found.1 found.2.0 image was.ports.items mode is in
      let format : format_for (kind.Context handle target) was.store.streams ≡ found.0.format =
      format_is handle target scene was.store.streams found.0 found.1 found.2.0 in
      (ap (λ i. i.size) same, ap (λ i. i.format) same, same, ap (λ i. is_a8 i.format) same ∙ ap is_a8 format ∙ found.2.1)
  suited (kind.Port port) image may is = of_port (slice_get modes (port - 1)) is (port_place port may).2
    where
      of_port : (o : Option (List Size)) → IfSome o (λ sizes. IsFrameImage (mode_size mode sizes) (Some image))
          → IsSomeAnd o (IsOfMode mode scene.size) → IsSuited (kind.Port port) image
      of_port None shaped shown = absurd shown
      of_port (Some sizes) shaped shown =
          let size = shaped.0 ∙ sym shown.size_is in
          (size, shaped.1, (size, shaped.1), ap is_a8 shaped.1)

  -- the image belongs to what it is taken from
  pub own : (k : JobKind) → MayDraw k mode scene (state_of was)
      → KindFits modes mode (drawing k latched) scene.size (format_for k was.store.streams) k
  own (kind.Context handle target) may =
      let found = target_of handle target may in
      target_fits handle target scene was.store.streams found.0 found.1 found.2.0 modes mode
  own (kind.Port port) may = (of_mode port may, refl)

  pub some_port : (k : JobKind) → MayDraw k mode scene (state_of was) → IsOfSomePort k
  some_port (kind.Context handle target) may = tt
  some_port (kind.Port port) may = (let found = port_place port may in (found.0, omega (arith, found.0, found.1, sound.few)))

  -- the scene has sides
  pub scene_sides : (k : JobKind) → MayDraw k mode scene (state_of was) → has_sides scene.size ≡ true
  scene_sides (kind.Context handle target) may =
      target_sides [] target scene was.store.streams no_contents
      (some_so _ _ (buffers_at target was.store.streams) (λ b is. (is.0, is.1)) may)
  scene_sides (kind.Port port) may =
      let found = port_place port may in
      let there = some_of (IsOfMode mode scene.size) (slice_get modes (port - 1)) found.2 in
      let sides = sides_in None 1 (port - 1) was.ports.items there.0 at_home there.1 in
      rw there.2.size_is (sides_of_mode mode there.0 sides there.2.some there.2.within)

-- what the steps of a frame that starts leave
pub record Starts (was now : Inside) (kind_of : JobKind) (mode : ℕ) (scene : Scene) (latched : StoreView) (images contents : Images)
    (image : Bitmap) (frame : Frame) : Type 0 where
  pub free : was.frame ≡ None
  pub sound : Holds was
  pub may : MayStart kind_of mode scene (state_of was)
  pub taken : images ≡ next_images (scene_streams scene) was.store.streams
  pub latched_is : latched ≡ record was.store { streams = latch (scene_streams scene) was.store.streams }
  pub shaped : AreShapedAs latched.streams images
  pub store : now.store ≡ record latched { streams = drawing kind_of latched.streams }
  pub core : now.core ≡ was.core
  pub display : now.display ≡ was.display
  pub modes : map sizes_of now.ports.items ≡ map sizes_of was.ports.items
  pub away : (f : Frame) → f.kind ≡ kind_of → f.mode ≡ mode → PortsFit (Some f) 1 now.ports.items
  pub image_is : IsTargetOf latched.streams was.ports.items mode kind_of image
  pub begun : now.begun ≡ was.begun + 1
  pub frame_is : now.frame ≡ Some frame
  pub number : frame.number ≡ was.begun + 1
  pub kind_is : frame.kind ≡ kind_of
  pub mode_is : frame.mode ≡ mode
  pub size : frame.size ≡ image.size
  pub format : frame.format ≡ image.format
  pub shapes : frame.contents.items ≡ map content_shape images
  pub contents_are : contents ≡ images

module _ (was now : Inside) (k : JobKind) (mode : ℕ) (scene : Scene) (value : ℕ) (latched : StoreView) (images contents : Images)
    (image : Bitmap) (frame : Frame) (s : Starts was now k mode scene latched images contents image frame) where
  abbrev pub b : Beginning
  b = beginning_of k scene value (state_of was)

  abbrev after : List KeptStream
  after = latch (scene_streams scene) was.store.streams

  streams_are : latched.streams ≡ after
  streams_are = ap (λ v. v.streams) s.latched_is

  taken_image : IsTargetOf after was.ports.items mode k image
  taken_image = subst (λ ss. IsTargetOf ss was.ports.items mode k image) streams_are s.image_is

  image_shape : IsSuited was mode scene value s.sound s.free k image
  image_shape = suited was mode scene value s.sound s.free k image s.may.draws taken_image

  shaped_contents : AreShapedAs after contents
  shaped_contents =
      subst (λ c. AreShapedAs after c) (sym s.contents_are) (subst (λ ss. AreShapedAs ss images) streams_are s.shaped)

  pub begun : HasBegun was now b frame contents
  begun =
      record {
        free = s.free;
        taken = s.contents_are ∙ s.taken;
        store = s.store ∙ ap (λ (v : StoreView). record v { streams = drawing k v.streams }) s.latched_is;
        core = s.core;
        shaped = shaped_contents;
        display = s.display;
        shown = refl;
        modes = s.modes;
        fit = s.away frame s.kind_is s.mode_is;
        begun = s.begun;
        frame_is = s.frame_is;
        number = s.number;
        kind_is = s.kind_is;
        size = s.size ∙ image_shape.0;
        format_is = s.format ∙ image_shape.1;
        shapes = s.shapes ∙ ap (λ c. map content_shape c) (sym s.contents_are);
        own = rw s.mode_is (own was mode scene value s.sound s.free k s.may.draws);
      }

  -- what is shown fits the images
  shown_fits : Fits scene contents
  shown_fits =
      scene_shows (map content_shape (next_images (scene_streams scene) was.store.streams)) after contents
      (latched_fit was now b frame contents begun s.sound) shaped_contents scene
      (scene_sides was mode scene value s.sound s.free k s.may.draws)
      (layers_kept was.store.streams after scene.layers.items
      (λ n within. seen_mapped (latched_among (scene_streams scene)) (latch_keeps (scene_streams scene)) n was.store.streams) s.may.layers)

  pub left : (h : State) → state_of was ≡ h → state_of now ≡ (start (beginning_of k scene value h) h).0
  left h seen = subst (λ t. state_of now ≡ (start (beginning_of k scene value t) t).0) seen
      (left_begun was now b frame contents begun s.sound)

  pub answers : (h : State) → state_of was ≡ h → (given : Job) → given.number ≡ was.begun + 1 → given.kind ≡ k → given.scene ≡ scene
      → given.contents ≡ contents → given.image ≡ image
      → IsAnswer (start (beginning_of k scene value h) h).1 (gives_job value given)
  answers h seen given number kind_is scene_is contents_are given_image =
      let is : IsGiven was now b frame contents begun s.sound given = record {
        number = number;
        kind_is = kind_is;
        scene_is = scene_is;
        contents_are = contents_are;
        image = rw given_image image_shape.2;
        size = ap (λ i. i.size) given_image ∙ image_shape.0;
        four = ap (λ i. is_a8 i.format) given_image ∙ image_shape.3;
        port = some_port was mode scene value s.sound s.free k s.may.draws;
        fits = shown_fits;
      } in
      subst (λ t. IsAnswer (start (beginning_of k scene value t) t).1 (gives_job value given)) seen
      (answer_begun was now b frame contents begun s.sound given is)
