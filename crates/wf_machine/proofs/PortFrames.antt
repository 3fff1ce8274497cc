-- A port's frame that begins.
use Rattle.wf_machine.proofs.Common.{◌≡◌, ℕ, zero, suc, ◌-◌, ◌^◌, ◌<◌, ◌≤◌, Bool, true, false, ◌==◌, List, [], ◌∷◌, length, map}
use Rattle.wf_machine.proofs.Common.{Option, Some, None, refl, sym, ap, subst, ◌∙◌, arith, Ok, slice_get, ℤ, list_all, option_map, IfSome}
use Rattle.wf_machine.proofs.Common.{IsSomeAnd, AllByRecursion, and_parts, leb-true, lt-ltb, nth, count_of, Size, has_sides}
use Rattle.wf_machine.proofs.Common.{is_side, is_a8}
use Rattle.wf_machine.proofs.Common.{is_some, nat_lt, nat_le, holds_rect, Scene, Buffers, KeptStream, buffers_at, State}
use Rattle.wf_machine.proofs.Common.{DisplayState}
use Rattle.wf_machine.proofs.Common.{mode_size, modes_of, begun_display, port_scene, begin_port, IsOfMode, LayerFits, Inside, Holds}
use Rattle.wf_machine.proofs.Common.{state_of}
use Rattle.wf_machine.proofs.Common.{Beginning, MayStart, Rgba8Pre, beginning_of, start}
use Rattle.std.proofs.Common.{zero-add}
use Rattle.std.proofs.lemmas.Bool.{le-leb}
use Rattle.std.specs.Prelude.{filter_map}
use Rattle.wf_calls.specs.declared.call.JobKind.TheVariants as kind
use Rattle.wf_scene.specs.Elements.{layer_in}
use Rattle.wf_model.specs.declared.display.Pipeline.{Pipeline}
use Rattle.wf_model.specs.declared.display.Port.{Port}
use Rattle.wf_model.specs.Display.{begun_pipeline, is_lit, pipeline_layer, screen_layer, whole_of}
use Rattle.wf_model.specs.DisplayCommits.{bound_stream}
use Rattle.wf_model.specs.Composing.{declared_screen}
use Rattle.wf_calls.specs.Parts.{no_register}
use Rattle.wf_model.specs.Frames.{started}
use Rattle.wf_model.specs.Ports.{shown_size}
use Rattle.wf_display.specs.Display.{IsDisplay, IsPort}
use Rattle.wf_display.specs.Fits.{IsScreen, PipelineFits, StreamsFit}
use Rattle.wf_machine.proofs.ScreensArePixels.{screen_there}
use Rattle.wf_pixel.specs.declared.TheConstants.{MOST_SIDE}

-- lists, counted from 1

pub nth_mapped : {A B : Type 0} (f : A → B) (n : ℕ) (xs : List A) → nth n (map f xs) ≡ option_map f (nth n xs)
nth_mapped f zero xs = refl
nth_mapped f (suc n) xs = at_place n xs
  where
    at_place : (i : ℕ) (ys : List _) → slice_get (map f ys) i ≡ option_map f (slice_get ys i)
    at_place i [] = refl
    at_place zero (y ∷ ys) = refl
    at_place (suc i) (y ∷ ys) = at_place i ys

pub at_place : {A : Type 0} (n : ℕ) (xs : List A) (P : A → Type 0) → IsSomeAnd (nth n xs) P
    → (1 ≤ n) × (n - 1 < length xs) × IsSomeAnd (slice_get xs (n - 1)) P
at_place zero xs P some = absurd some
at_place (suc n) xs P some =
    let same : n ≡ suc n - 1 = omega arith in
    (omega arith, omega (arith, of_place n xs some), subst (λ i. IsSomeAnd (slice_get xs i) P) same some)
  where
    of_place : (i : ℕ) (ys : List _) → IsSomeAnd (slice_get ys i) P → i < length ys
    of_place i [] some = absurd some
    of_place zero (y ∷ ys) some = omega arith
    of_place (suc i) (y ∷ ys) some = (let rest = of_place i ys some in omega (arith, rest))

each_nth : {A : Type 0} (P : A → Type 0) (n : ℕ) (xs : List A) (x : A) → AllByRecursion P xs → nth n xs ≡ Some x → P x
each_nth P zero xs x all at = absurd cc
each_nth P (suc n) xs x all at = of_place n xs all at
  where
    of_place : (i : ℕ) (ys : List _) → AllByRecursion P ys → slice_get ys i ≡ Some x → P x
    of_place i [] all at = absurd cc
    of_place zero (y ∷ ys) all at = (let is : y ≡ x = cc in subst P is all.0)
    of_place (suc i) (y ∷ ys) all at = of_place i ys all.1 at

-- the sides of a mode
pub sides_of_mode : (mode : ℕ) (sizes : List Size) → list_all has_sides sizes ≡ true → 1 ≤ mode → mode ≤ length sizes
    → has_sides (mode_size mode sizes) ≡ true
sides_of_mode zero sizes all some within = absurd (omega arith)
sides_of_mode (suc n) sizes all some within = of_place n sizes all (omega arith)
  where
    of_place : (i : ℕ) (ss : List Size) → list_all has_sides ss ≡ true → i < length ss → has_sides (mode_size (suc i) ss) ≡ true
    of_place i [] all within = absurd (omega arith)
    of_place zero (s ∷ ss) all within = (and_parts (has_sides s) (list_all has_sides ss) all).0
    of_place (suc i) (s ∷ ss) all within = of_place i ss (and_parts (has_sides s) (list_all has_sides ss) all).1 (omega (arith, within))

-- the layers of a port's scene fit the streams

holds_whole : (size : Size) → has_sides size ≡ true → holds_rect size (whole_of size) ≡ true
holds_whole size sides =
    let each = and_parts (is_side size.w) (is_side size.h) sides in
    let w = leb-true 1 size.w (and_parts (nat_le 1 size.w) (nat_le size.w MOST_SIDE) each.0).0 in
    let h = leb-true 1 size.h (and_parts (nat_le 1 size.h) (nat_le size.h MOST_SIDE) each.1).0 in
    rw (
      lt-ltb 0 size.w (omega (arith, w)),
      lt-ltb 0 size.h (omega (arith, h)),
      zero-add size.w,
      zero-add size.h,
      le-leb size.w size.w (omega arith),
      le-leb size.h size.h (omega arith),
    ) refl

module _ (ss : List KeptStream) (n : ℕ) where
  screen_fits : (p : Port) → IsPort p → IsSomeAnd (buffers_at n ss) (λ b. IsScreen b p)
      → LayerFits ss (screen_layer n (mode_size 1 p.modes.items) (shown_size p))
  screen_fits p is screen =
      record {
        source = of_buffers (buffers_at n ss) screen;
        dest = sides_of_mode p.committed.mode p.modes.items is.sides is.committed.0 is.committed.1;
        place = refl;
        mask = λ masked. absurd cc;
        unmasked = λ no. refl;
      }
    where
      first : has_sides (mode_size 1 p.modes.items) ≡ true
      first = sides_of_mode 1 p.modes.items is.sides (omega arith) (omega (arith, is.committed.0, is.committed.1))

      of_buffers : (o : Option Buffers) → IsSomeAnd o (λ b. IsScreen b p)
          → IsSomeAnd o (λ b. (is_a8 b.format ≡ false) × (holds_rect b.size (whole_of (mode_size 1 p.modes.items)) ≡ true))
      of_buffers None none = absurd none
      of_buffers (Some b) shape = (
        ap is_a8 shape.1,
        ap (λ s. holds_rect s (whole_of (mode_size 1 p.modes.items))) shape.0
            ∙ holds_whole (mode_size 1 p.modes.items) first,
      )

  -- what a pipeline shows is what it would show at the next frame, where nothing waits there
  pipelines_fit : (xs : List Pipeline) → map (begun_pipeline n) xs ≡ xs → AllByRecursion (PipelineFits ss) xs
      → AllByRecursion (LayerFits ss) (filter_map (pipeline_layer n) xs)
  pipelines_fit [] begun fit = tt
  pipelines_fit (x ∷ xs) begun fit =
      let tail : map (begun_pipeline n) xs ≡ xs = cc in
      of_pipeline (pipelines_fit xs tail fit.1) (x.committed_port == n) refl (x.current == 0) refl
    where
      head : begun_pipeline n x ≡ x
      head = cc

      shown : (x.committed_port == n) ≡ true → (x.current == 0) ≡ false → LayerFits ss (layer_in x.committed x.current 0)
      shown here some =
          let bound : record x { current = bound_stream x; pending = None } ≡ x = rw here at head in
          let current : bound_stream x ≡ x.current = ap (λ (y : Pipeline). y.current) bound in
          subst (λ k. LayerFits ss (layer_in x.committed k 0)) current (fit.0 (ap (λ k. k == 0) current ∙ some))

      of_pipeline : AllByRecursion (LayerFits ss) (filter_map (pipeline_layer n) xs) → (b : Bool) → (x.committed_port == n) ≡ b
          → (c : Bool) → (x.current == 0) ≡ c
          → AllByRecursion (LayerFits ss) (filter_map (pipeline_layer n) (x ∷ xs))
      of_pipeline rest false other c at = rw other rest
      of_pipeline rest true here true none = rw (here, none) rest
      of_pipeline rest true here false some = rw (here, some) (shown here some, rest)

-- a port that gives frames
module _ (n : ℕ) (d : DisplayState) (holds : IsDisplay d) where
  pub port_layers : (ss : List KeptStream) → StreamsFit d ss → begun_display n d ≡ d
      → IfSome (port_scene n d) (λ scene. AllByRecursion (LayerFits ss) scene.layers.items)
  port_layers ss fit begun = of_port (nth n d.ports) refl
    where
      of_port : (o : Option Port) → nth n d.ports ≡ o → IfSome (port_scene n d) (λ scene. AllByRecursion (LayerFits ss) scene.layers.items)
      of_port None none = rw none tt
      of_port (Some p) some = of_lit (is_lit p) refl
        where
          of_lit : (b : Bool) → is_lit p ≡ b → IfSome (port_scene n d) (λ scene. AllByRecursion (LayerFits ss) scene.layers.items)
          of_lit false dark = rw (some, dark) tt
          of_lit true lit = rw (some, lit) (
            screen_fits ss n p (each_nth IsPort n d.ports p holds.ports some) (screen_there ss n d.ports p fit.screens some),
            pipelines_fit ss n d.pipelines (ap (λ (e : DisplayState). e.pipelines) begun) fit.pipelines,
          )

  pub port_draws : (scene : Scene) (mode : ℕ) → Some scene ≡ port_scene n d
      → Some mode ≡ option_map (λ (p : Port). p.committed.mode) (nth n d.ports) → IsSomeAnd (nth n (modes_of d)) (IsOfMode mode scene.size)
  port_draws scene mode shown drawn = of_port (nth n d.ports) refl
    where
      of_port : (o : Option Port) → nth n d.ports ≡ o → IsSomeAnd (nth n (modes_of d)) (IsOfMode mode scene.size)
      of_port None none = absurd (let no : Some scene ≡ None = rw none at shown in cc)
      of_port (Some p) some = of_lit (is_lit p) refl
        where
          is : IsPort p
          is = each_nth IsPort n d.ports p holds.ports some

          of_lit : (b : Bool) → is_lit p ≡ b → IsSomeAnd (nth n (modes_of d)) (IsOfMode mode scene.size)
          of_lit false dark = absurd (let no : Some scene ≡ None = rw (some, dark) at shown in cc)
          of_lit true lit =
              let same : mode ≡ p.committed.mode = (let both : Some mode ≡ Some p.committed.mode = rw some at drawn in cc) in
              let both : Some scene.size ≡ Some (shown_size p) =
              ap (λ o. option_map (λ (s : Scene). s.size) o) (rw (some, lit) at shown) in
              let size : scene.size ≡ shown_size p = cc in
              rw (nth_mapped (λ (q : Port). q.modes.items) n d.ports, some, same) (record {
                some = is.committed.0;
                within = is.committed.1;
                size_is = size;
              })

-- and may be drawn, where nothing waits at its pipelines
pub port_starts : (m : Inside) (n : ℕ) (scene : Scene) (mode : ℕ) → Holds m → IsDisplay m.display → Some scene ≡ port_scene n m.display
    → Some mode ≡ option_map (λ (p : Port). p.committed.mode) (nth n m.display.ports) → begun_display n m.display ≡ m.display
    → MayStart (kind.Port n) mode scene (state_of m)
port_starts m n scene mode sound holds shown drawn begun =
    record {
      draws = port_draws n m.display holds scene mode shown drawn;
      layers = subst (λ o. IfSome o (λ s. AllByRecursion (LayerFits m.store.streams) s.layers.items)) (sym shown)
          (port_layers n m.display holds m.store.streams sound.shows.streams begun);
    }

-- a Begin of a port

-- what is current stays current
pub twice_begun : (n : ℕ) (d : DisplayState) → begun_display n (begun_display n d) ≡ begun_display n d
twice_begun n d = ap (λ xs. record d { pipelines = xs }) (each d.pipelines)
  where
    one : (x : Pipeline) → begun_pipeline n (begun_pipeline n x) ≡ begun_pipeline n x
    one x = of_test (x.committed_port == n) refl
      where
        of_test : (b : Bool) → (x.committed_port == n) ≡ b → begun_pipeline n (begun_pipeline n x) ≡ begun_pipeline n x
        of_test true here = rw (here, here) refl
        of_test false other = rw (other, other) refl

    each : (xs : List Pipeline) → map (begun_pipeline n) (map (begun_pipeline n) xs) ≡ map (begun_pipeline n) xs
    each [] = refl
    each (x ∷ xs) = ap (λ y. y ∷ map (begun_pipeline n) (map (begun_pipeline n) xs)) (one x) ∙ ap (λ ys. begun_pipeline n x ∷ ys) (each xs)

pub shown_of : (o : Option Scene) → is_some o ≡ true → (scene : Scene) × (o ≡ Some scene)
shown_of None is = absurd cc
shown_of (Some scene) is = (scene, refl)

pub declared : (port : ℤ) (h : State) (n : ℕ) → Some n ≡ declared_screen port h
    → (count_of port ≡ n) × (is_some (nth n h.display.ports) ≡ true)
declared port h n is = of_port (nth (count_of port) h.display.ports) refl
  where
    of_port : (o : Option Port) → nth (count_of port) h.display.ports ≡ o → (count_of port ≡ n) × (is_some (nth n h.display.ports) ≡ true)
    of_port None none = absurd (let no : Some n ≡ None = rw none at is in cc)
    of_port (Some p) some =
        let both : Some n ≡ Some (count_of port) = rw some at is in
        let same : count_of port ≡ n = cc in
        (same, subst (λ k. is_some (nth k h.display.ports) ≡ true) same (rw some refl))

-- it begins the frame of the state in which what waited is current
pub begins : (port : ℤ) (n : ℕ) (h g : State) (scene : Scene) → count_of port ≡ n → is_some (nth n h.display.ports) ≡ true → h.frame ≡ None
    → h.begun < 2 ^ 64 - 1 → g ≡ record h { display = begun_display n h.display } → port_scene n g.display ≡ Some scene
    → started no_register h (begin_port port h) ≡ start (beginning_of (kind.Port n) scene n g) g
begins port n h g scene counted found free few is shown =
    ap (started no_register h) (of_port (nth n h.display.ports) refl found)
    ∙ sym (ap (λ s. start (beginning_of (kind.Port n) scene n s) s) is)
  where
    begun : DisplayState
    begun = begun_display n h.display

    there : port_scene n begun ≡ Some scene
    there = sym (ap (λ (s : State). port_scene n s.display) is) ∙ shown

    left : nat_lt h.begun (2 ^ 64 - 1) ≡ true
    left = lt-ltb h.begun (2 ^ 64 - 1) few

    beginning : Beginning
    beginning = record { kind = kind.Port n; display = begun; scene = scene; format = Rgba8Pre; value = n }

    of_port : (o : Option Port) → nth n h.display.ports ≡ o → is_some (nth n h.display.ports) ≡ true
        → begin_port port h ≡ Ok (Some beginning)
    of_port None none within = absurd (let no : false ≡ true = rw none at within in cc)
    of_port (Some p) some within =
        rw (counted, there, some, free, left) (ap (λ k. Ok (Some (record beginning { kind = kind.Port k; value = k }))) counted)
