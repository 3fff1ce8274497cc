-- A frame of a port begins in a state of which the streams without a name were dropped as it does in that state before they were.
use Rattle.wf_machine.proofs.Common.{◌≡◌, ℕ, ◌<◌, Bool, true, false, cond, ◌==◌, ◌||◌, List, [], ◌∷◌, ◌++◌, map, filter, flat_map}
use Rattle.wf_machine.proofs.Common.{Option, Some, None, refl, sym, ap, subst, ◌∙◌, arith, is_some, option_map, eqb-true, eq-eqb, nat_tests}
use Rattle.wf_machine.proofs.Common.{list_any-append, is_in, Bitmap, Buffers, latched, KeptStream, IsNumbered, stream_at}
use Rattle.wf_machine.proofs.Common.{all_names, core_names, display_names, frame_names, kept, layer_names, own_names, settle, Layer}
use Rattle.wf_machine.proofs.Common.{Scene, State, Beginning, content_shape, job_of, latch, latched_among, next_images, next_image_of}
use Rattle.wf_machine.proofs.Common.{scene_streams}
use Rattle.wf_machine.proofs.Common.{start, LayerFits, beginning_of, gives_job, settled_so}
use Rattle.std.specs.List.{AllByRecursion}
use Rattle.std.specs.Option.{IsSomeAnd}
use Rattle.wf_calls.specs.declared.call.JobKind.TheVariants as kind
use Rattle.wf_model.specs.Frames.{with_job}
use Rattle.wf_machine.proofs.DropsKeepInvariant.{among, found_among, none_at_zero, numbered_among}
use Rattle.wf_machine.proofs.NamesInScene.{in_once}
use Rattle.wf_machine.proofs.OwnNames.{own_latched}

-- the streams of a scene whose layers fit are kept; the number 0 stands for none

layer_kept : (l : Layer) (ss : List KeptStream) (n : ℕ) → LayerFits ss l → is_in n (layer_names l) ≡ true → 0 < n
    → is_some (stream_at n ss) ≡ true
layer_kept l ss n fits within some =
    elim (l.stream == n) as (λ b. (l.stream == n) ≡ b → (b || ((l.mask == n) || false)) ≡ true → is_some (stream_at n ss) ≡ true) [
      | true ↦ λ is there. subst (λ k. is_some (stream_at k ss) ≡ true) (eqb-true l.stream n is)
          (found _ (stream_at l.stream ss) fits.source)
      | false ↦ λ is there. elim (l.mask == n) as (λ b. (l.mask == n) ≡ b → (b || false) ≡ true → is_some (stream_at n ss) ≡ true) [
        | true ↦ λ mask yes. subst (λ k. is_some (stream_at k ss) ≡ true) (eqb-true l.mask n mask)
            (masked l.transparency.mask refl (eqb-true l.mask n mask))
        | false ↦ λ mask no. absurd cc
      ] refl there
    ] refl within
  where
    found : (P : Buffers → Type 0) (o : Option KeptStream) → IsSomeAnd (option_map (λ s. s.buffers) o) P → is_some o ≡ true
    found P None is = absurd is
    found P (Some s) is = refl

    masked : (b : Bool) → l.transparency.mask ≡ b → l.mask ≡ n → is_some (stream_at l.mask ss) ≡ true
    masked true is same = found _ (stream_at l.mask ss) (fits.mask is)
    masked false is same = absurd (let none : l.mask ≡ 0 = fits.unmasked is in omega (arith, none, same, some))

layers_kept : (ls : List Layer) (ss : List KeptStream) (n : ℕ) → AllByRecursion (LayerFits ss) ls
    → is_in n (flat_map layer_names ls) ≡ true → 0 < n → is_some (stream_at n ss) ≡ true
layers_kept [] ss n fits within some = absurd cc
layers_kept (l ∷ ls) ss n fits within some =
    let split : is_in n (layer_names l ++ flat_map layer_names ls) ≡ (is_in n (layer_names l) || is_in n (flat_map layer_names ls)) =
    list_any-append (λ x. x == n) (layer_names l) (flat_map layer_names ls) in
    elim (is_in n (layer_names l)) as (λ b. is_in n (layer_names l) ≡ b → (b || is_in n (flat_map layer_names ls)) ≡ true
    → is_some (stream_at n ss) ≡ true) [
      | true ↦ λ is there. layer_kept l ss n fits.0 is some
      | false ↦ λ is there. layers_kept ls ss n fits.1 there some
    ] refl (sym split ∙ within)

-- what is left of a list of streams by their numbers has these numbers
in_among : (n : ℕ) (ns : List ℕ) (ss : List KeptStream) → is_some (stream_at n (among ns ss)) ≡ true → is_in n ns ≡ true
in_among n ns [] there = absurd cc
in_among n ns (s ∷ ss) there =
    elim (is_in s.number ns) as (λ b. is_in s.number ns ≡ b → is_some (stream_at n (cond b (s ∷ among ns ss) (among ns ss))) ≡ true
    → is_in n ns ≡ true) [
      | true ↦ λ within found. elim (s.number == n) as (λ b. (s.number == n) ≡ b
          → is_some (cond b (Some s) (stream_at n (among ns ss))) ≡ true → is_in n ns ≡ true) [
            | true ↦ λ is yes. subst (λ k. is_in k ns ≡ true) (eqb-true s.number n is) within
            | false ↦ λ is yes. in_among n ns ss yes
          ] refl found
      | false ↦ λ without found. in_among n ns ss found
    ] refl there

-- a frame takes images of its scene's streams alone
images_among : (n : ℕ) (ns : List ℕ) (ss : List KeptStream)
    → is_in n (map (λ c. c.stream) (map content_shape (next_images ns ss))) ≡ true → is_in n ns ≡ true
images_among n [] ss within = absurd cc
images_among n (k ∷ ns) ss within = of_next_image (next_image_of (stream_at k ss)) refl (images_among n ns ss)
  where
    or_later : (b : Bool) → is_in n ns ≡ true → (b || is_in n ns) ≡ true
    or_later true later = refl
    or_later false later = later

    of_next_image : (o : Option Bitmap) → next_image_of (stream_at k ss) ≡ o
        → (is_in n (map (λ c. c.stream) (map content_shape (next_images ns ss))) ≡ true → is_in n ns ≡ true) → is_in n (k ∷ ns) ≡ true
    of_next_image None at later = or_later (k == n) (later (rw at at within))
    of_next_image (Some image) at later = first (k == n) (rw at at within)
      where
        first : (b : Bool) → (b || is_in n (map (λ c. c.stream) (map content_shape (next_images ns ss)))) ≡ true
            → (b || is_in n ns) ≡ true
        first true there = refl
        first false there = later there

-- the same images, of streams that are found alike
images_same : (ns : List ℕ) (ss ts : List KeptStream) → ((n : ℕ) → is_in n ns ≡ true → stream_at n ss ≡ stream_at n ts)
    → next_images ns ss ≡ next_images ns ts
images_same [] ss ts same = refl
images_same (k ∷ ns) ss ts same =
    let first : (k == k) ≡ true = eq-eqb k k refl in
    let here : stream_at k ss ≡ stream_at k ts = same k (rw first refl) in
    let later = images_same ns ss ts (λ n within. same n (elim (k == n) as (λ b. (b || is_in n ns) ≡ true) [
      | true ↦ refl
      | false ↦ within
    ])) in
    joined (next_image_of (stream_at k ss)) refl here later
  where
    joined : (o : Option Bitmap) → next_image_of (stream_at k ss) ≡ o → stream_at k ss ≡ stream_at k ts
        → next_images ns ss ≡ next_images ns ts → next_images (k ∷ ns) ss ≡ next_images (k ∷ ns) ts
    joined None at here later =
        let there : next_image_of (stream_at k ts) ≡ None = ap next_image_of (sym here) ∙ at in
        rw (at, there) later
    joined (Some image) at here later =
        let there : next_image_of (stream_at k ts) ≡ Some image = ap next_image_of (sym here) ∙ at in
        rw (at, there) (ap (λ images. (k, image) ∷ images) later)

module _ (p value high : ℕ) (scene : Scene) (g : State) (rising : IsNumbered 0 g.streams high) (free : g.frame ≡ None)
    (layers : AllByRecursion (LayerFits (kept g)) scene.layers.items) where
  abbrev ns : List ℕ
  ns = scene_streams scene

  -- a stream of the scene has a name
  scene_named : (n : ℕ) → 0 < n → is_in n ns ≡ true → is_in n (all_names g) ≡ true
  scene_named n some within =
      in_among n (all_names g) g.streams
      (layers_kept scene.layers.items (kept g) n layers (sym (in_once n (flat_map layer_names scene.layers.items)) ∙ within) some)

  -- and is found as it was
  scene_found : (n : ℕ) → is_in n ns ≡ true → stream_at n (kept g) ≡ stream_at n g.streams
  scene_found n within =
      elim (n == 0) as (λ b. (n == 0) ≡ b → stream_at n (kept g) ≡ stream_at n g.streams) [
        | true ↦ λ is. (
            let zero : 0 ≡ n = grind (arith, nat_tests, is) in
            subst (λ k. stream_at k (kept g) ≡ stream_at k g.streams) zero
            (none_at_zero 0 high (kept g) (numbered_among (all_names g) 0 high g.streams rising)
            ∙ sym (none_at_zero 0 high g.streams rising)))
        | false ↦ λ is. (
            let some : 0 < n = grind (arith, nat_tests, is) in
            found_among (all_names g) n g.streams (scene_named n some within))
      ] refl

  abbrev b : Beginning
  b = beginning_of (kind.Port p) scene value g

  job_same : job_of b (settle g) ≡ job_of b g
  job_same = ap (λ images. record (job_of b g) { contents = images }) (images_same ns (kept g) g.streams scene_found)

  -- the state in which the frame runs, before streams are dropped
  abbrev begun : State
  begun = with_job (job_of b g) g

  -- the frame names nothing that was not named
  begun_named : (n : ℕ) → 0 < n → is_in n (all_names begun) ≡ is_in n (all_names g)
  begun_named n some =
      let before : List ℕ = (flat_map own_names g.streams ++ core_names g.core) ++ display_names g.display in
      let taken : List ℕ = map (λ c. c.stream) (map content_shape (next_images ns g.streams)) in
      let own = own_latched ns g.streams in
      ap (λ os. is_in n (((os ++ core_names g.core) ++ display_names g.display) ++ (taken ++ []))) own
      ∙ list_any-append (λ x. x == n) before (taken ++ [])
      ∙ ap (λ x. is_in n before || x) (list_any-append (λ x. x == n) taken [])
      ∙ absorbed (is_in n before) (is_in n taken) (λ yes. (
      let named = scene_named n some (images_among n ns g.streams yes) in
      sym (or_none (is_in n before)) ∙ sym (split before) ∙ named))
      ∙ sym (split before ∙ or_none (is_in n before))
    where
      or_none : (x : Bool) → (x || false) ≡ x
      or_none true = refl
      or_none false = refl

      split : (before : List ℕ) → is_in n (before ++ frame_names g.frame) ≡ (is_in n before || false)
      split before = list_any-append (λ x. x == n) before (frame_names g.frame)
          ∙ ap (λ o. is_in n before || is_in n (frame_names o)) free

      absorbed : (x y : Bool) → (y ≡ true → x ≡ true) → (x || (y || false)) ≡ x
      absorbed true y so = refl
      absorbed false true so = sym (so refl)
      absorbed false false so = refl

  kept_same : kept begun ≡ latch ns (kept g)
  kept_same = each 0 g.streams rising
    where
      each : (low : ℕ) (ss : List KeptStream) → IsNumbered low ss high
          → filter (λ s. is_in s.number (all_names begun)) (latch ns ss) ≡ latch ns (filter (λ s. is_in s.number (all_names g)) ss)
      each low [] rises = refl
      each low (s ∷ ss) rises =
          let later = each s.number ss rises.1 in
          let number : (latched_among ns s).number ≡ s.number = keeps_number s in
          let same : is_in (latched_among ns s).number (all_names begun) ≡ is_in s.number (all_names g) =
          ap (λ n. is_in n (all_names begun)) number ∙ begun_named s.number (omega (arith, rises.0)) in
          ap (λ x. cond x (latched_among ns s ∷ filter (λ t. is_in t.number (all_names begun)) (latch ns ss))
          (filter (λ t. is_in t.number (all_names begun)) (latch ns ss))) same
          ∙ ap (λ ts. cond (is_in s.number (all_names g)) (latched_among ns s ∷ ts) ts) later
          ∙ (elim (is_in s.number (all_names g)) as (λ x. cond x
          (latched_among ns s ∷ latch ns (filter (λ t. is_in t.number (all_names g)) ss))
          (latch ns (filter (λ t. is_in t.number (all_names g)) ss))
          ≡ latch ns (cond x (s ∷ filter (λ t. is_in t.number (all_names g)) ss) (filter (λ t. is_in t.number (all_names g)) ss))) [
            | true ↦ refl
            | false ↦ refl
          ])
        where
          keeps_number : (t : KeptStream) → (latched_among ns t).number ≡ t.number
          keeps_number t = elim (is_in t.number ns) as (λ x. (cond x (record t { buffers = latched t.buffers }) t).number
              ≡ t.number) [ true ↦ refl | false ↦ refl ]

  pub settled_start : start (beginning_of (kind.Port p) scene value (settle g)) (settle g)
      ≡ settled_so (start (beginning_of (kind.Port p) scene value g) g)
  settled_start =
      ap (λ j. (with_job j (settle g), gives_job value j)) job_same
      ∙ ap (λ ss. (record begun { streams = ss }, gives_job value (job_of b g))) (sym kept_same)
