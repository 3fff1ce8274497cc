-- A scene whose layers fit the streams has a picture with the images that were taken of them.
use Rattle.wf_machine.proofs.Common.{◌≡◌, ◌≢◌, ℕ, ◌<◌, Bool, true, false, cond, ◌==◌, ◌&&◌, List, [], ◌∷◌, Option, Some, None, refl, sym}
use Rattle.wf_machine.proofs.Common.{ap, subst, ◌∙◌, arith, IsTrue, nat_le, nat_lt, ℤ, pos, AllByRecursion, option_map, IfSome}
use Rattle.wf_machine.proofs.Common.{IsSomeAnd, and_parts, leb-true, ints, All-cons, All-nil, Size, Format, Rgba8, Rgba8Pre, Rgbx8, A8}
use Rattle.wf_machine.proofs.Common.{has_sides, is_a8, is_side, IsDrawn, Bitmap, image_of, Buffers, HasShape, KeptStream, buffers_at}
use Rattle.wf_machine.proofs.Common.{stream_at, Layer, Scene, holds_rect, LayerFits, Content, Images, AllFit}
use Rattle.wf_machine.proofs.Common.{AreShapedAs}
use Rattle.std.proofs.Common.{T}
use lib.Signed.{le_z_yes}
use Rattle.std.specs.Prelude.{◌≤ℤ◌, ◌+ℤ◌, int_le}
use Rattle.std.specs.List.{All}
use Rattle.std.proofs.lemmas.Bool.{ltb-true}
use Rattle.wf_pixel.specs.declared.Rect.{Rect}
use Rattle.wf_pixel.specs.Choice.{is_coordinate, least_coordinate, most_coordinate}
use Rattle.wf_pixel.specs.Place.{size_of}
use Rattle.wf_scene.specs.Layers.{is_placed_layer}
use Rattle.wf_model.specs.Picture.{Fits, LayerFits as Shows}
use Rattle.wf_machine.proofs.ImagesOfBegunFrame.{shaped_at}
use Rattle.wf_pixel.specs.declared.TheConstants.{MOST_SIDE}

in_order : (a b : ℤ) → int_le a b ≡ true → a ≤ℤ b
in_order a b is = le_z_yes (subst T (sym is) tt)

-- the parts of what holds of a rectangle inside a size
module _ (size : Size) (r : Rect) (holds : holds_rect size r ≡ true) where
  abbrev parts : Bool
  parts = nat_lt 0 r.w && nat_lt 0 r.h && int_le (pos 0) r.x && int_le (pos 0) r.y

  sixth : ((parts && int_le (r.x +ℤ pos r.w) (pos size.w)) ≡ true) × (int_le (r.y +ℤ pos r.h) (pos size.h) ≡ true)
  sixth = and_parts (parts && int_le (r.x +ℤ pos r.w) (pos size.w)) (int_le (r.y +ℤ pos r.h) (pos size.h)) holds

  fifth : (parts ≡ true) × (int_le (r.x +ℤ pos r.w) (pos size.w) ≡ true)
  fifth = and_parts parts (int_le (r.x +ℤ pos r.w) (pos size.w)) sixth.0

  fourth : ((nat_lt 0 r.w && nat_lt 0 r.h && int_le (pos 0) r.x) ≡ true) × (int_le (pos 0) r.y ≡ true)
  fourth = and_parts (nat_lt 0 r.w && nat_lt 0 r.h && int_le (pos 0) r.x) (int_le (pos 0) r.y) fifth.0

  third : ((nat_lt 0 r.w && nat_lt 0 r.h) ≡ true) × (int_le (pos 0) r.x ≡ true)
  third = and_parts (nat_lt 0 r.w && nat_lt 0 r.h) (int_le (pos 0) r.x) fourth.0

  second : (nat_lt 0 r.w ≡ true) × (nat_lt 0 r.h ≡ true)
  second = and_parts (nat_lt 0 r.w) (nat_lt 0 r.h) third.0

  pub x_positive : pos 0 ≤ℤ r.x
  x_positive = in_order (pos 0) r.x third.1

  pub y_positive : pos 0 ≤ℤ r.y
  y_positive = in_order (pos 0) r.y fourth.1

  -- inside an image it can be drawn
  pub inside_drawn : has_sides size ≡ true → IsDrawn r
  inside_drawn sides =
      let each = and_parts (is_side size.w) (is_side size.h) sides in
      let w = leb-true size.w MOST_SIDE (and_parts (nat_le 1 size.w) (nat_le size.w MOST_SIDE) each.0).1 in
      let h = leb-true size.h MOST_SIDE (and_parts (nat_le 1 size.h) (nat_le size.h MOST_SIDE) each.1).1 in
      let right : (r.x +ℤ pos r.w) ≤ℤ pos size.w = in_order (r.x +ℤ pos r.w) (pos size.w) fifth.1 in
      let bottom : (r.y +ℤ pos r.h) ≤ℤ pos size.h = in_order (r.y +ℤ pos r.h) (pos size.h) sixth.1 in
      let left = x_positive in
      let top = y_positive in
      let wide : 0 < r.w = ltb-true 0 r.w second.0 in
      let high : 0 < r.h = ltb-true 0 r.h second.1 in
      record {
        w_low = omega (arith, ints, wide);
        w_high = omega (arith, ints, w, right, left);
        h_low = omega (arith, ints, high);
        h_high = omega (arith, ints, h, bottom, top);
        x_low = omega (arith, ints, left);
        x_high = omega (arith, ints, right, w);
        y_low = omega (arith, ints, top);
        y_high = omega (arith, ints, bottom, h);
      }

-- a destination of a layer can be drawn
dest_drawn : (l : Layer) → has_sides (size_of l.dest) ≡ true → is_placed_layer l ≡ true → IsDrawn l.dest
dest_drawn l sides placed =
    let each = and_parts (is_side l.dest.w) (is_side l.dest.h) sides in
    let w = and_parts (nat_le 1 l.dest.w) (nat_le l.dest.w MOST_SIDE) each.0 in
    let h = and_parts (nat_le 1 l.dest.h) (nat_le l.dest.h MOST_SIDE) each.1 in
    let place = and_parts (is_coordinate l.dest.x) (is_coordinate l.dest.y) placed in
    let x = and_parts (int_le least_coordinate l.dest.x) (int_le l.dest.x most_coordinate) place.0 in
    let y = and_parts (int_le least_coordinate l.dest.y) (int_le l.dest.y most_coordinate) place.1 in
    record {
      w_low = leb-true 1 l.dest.w w.0;
      w_high = leb-true l.dest.w MOST_SIDE w.1;
      h_low = leb-true 1 l.dest.h h.0;
      h_high = leb-true l.dest.h MOST_SIDE h.1;
      x_low = in_order least_coordinate l.dest.x x.0;
      x_high = in_order l.dest.x most_coordinate x.1;
      y_low = in_order least_coordinate l.dest.y y.0;
      y_high = in_order l.dest.y most_coordinate y.1;
    }

is_mask : (f : Format) → is_a8 f ≡ true → f ≡ A8
is_mask A8 is = refl
is_mask Rgba8 is = absurd cc
is_mask Rgba8Pre is = absurd cc
is_mask Rgbx8 is = absurd cc

-- the sides of a stream that is kept
pub sides_at : (cs : List Content) (n : ℕ) (ss : List KeptStream) → AllFit cs ss
    → IfSome (buffers_at n ss) (λ b. has_sides b.size ≡ true)
sides_at cs n [] fit = tt
sides_at cs n (s ∷ ss) fit =
    elim (s.number == n) as (λ b. IfSome (option_map (λ t. t.buffers) (cond b (Some s) (stream_at n ss)))
    (λ c. has_sides c.size ≡ true)) [ true ↦ fit.0.sides | false ↦ sides_at cs n ss fit.1 ]

-- a target of a scene's size has sides, and so has the scene
pub target_sides : (cs : List Content) (target : ℕ) (scene : Scene) (ss : List KeptStream) → AllFit cs ss
    → IsSomeAnd (buffers_at target ss) (λ b. (b.size ≡ scene.size) × (is_a8 b.format ≡ false)) → has_sides scene.size ≡ true
target_sides cs target scene ss fit is = of_buffers (buffers_at target ss) (sides_at cs target ss fit) is
  where
    of_buffers : (o : Option Buffers) → IfSome o (λ b. has_sides b.size ≡ true)
        → IsSomeAnd o (λ b. (b.size ≡ scene.size) × (is_a8 b.format ≡ false)) → has_sides scene.size ≡ true
    of_buffers None sides is = absurd is
    of_buffers (Some b) sides is = subst (λ s. has_sides s ≡ true) is.0 sides

module _ (cs : List Content) (ss : List KeptStream) (contents : Images) (fit : AllFit cs ss) (shaped : AreShapedAs ss contents) where
  -- an image of a stream has its shape
  shape_of : (n : ℕ) (i : Bitmap) (P : Buffers → Type 0) → image_of n contents ≡ Some i → IsSomeAnd (buffers_at n ss) P → (b : Buffers)
      × (HasShape b.size b.format i) × (P b)
  shape_of n i P is holds = of_buffers (buffers_at n ss) (shaped_at n i ss contents shaped is) holds
    where
      of_buffers : (o : Option Buffers) → IsSomeAnd o (λ b. HasShape b.size b.format i) → IsSomeAnd o P → (b : Buffers)
          × (HasShape b.size b.format i) × (P b)
      of_buffers None shape holds = absurd shape
      of_buffers (Some b) shape holds = (b, shape, holds)

  -- the source rectangle lies inside a stream with sides
  src_of : (l : Layer) → LayerFits ss l → (size : Size) × (has_sides size ≡ true) × (holds_rect size l.src ≡ true)
  src_of l fits = of_buffers (buffers_at l.stream ss) (sides_at cs l.stream ss fit) fits.source
    where
      of_buffers : (o : Option Buffers) → IfSome o (λ b. has_sides b.size ≡ true)
          → IsSomeAnd o (λ b. (is_a8 b.format ≡ false) × (holds_rect b.size l.src ≡ true)) → (size : Size) × (has_sides size ≡ true)
          × (holds_rect size l.src ≡ true)
      of_buffers None sides holds = absurd holds
      of_buffers (Some b) sides holds = (b.size, sides, holds.1)

  layer_shows : (l : Layer) → LayerFits ss l → Shows contents l
  layer_shows l fits =
      let src = src_of l fits in
      record {
        src = inside_drawn src.0 l.src src.2 src.1;
        dest = dest_drawn l fits.dest fits.place;
        src_x = x_positive src.0 l.src src.2;
        src_y = y_positive src.0 l.src src.2;
        has_source = of_source (image_of l.stream contents) refl;
        has_mask = λ masked. of_mask masked (image_of l.mask contents) refl;
      }
    where
      of_source : (o : Option Bitmap) → image_of l.stream contents ≡ o → IfSome o (λ i. (i.format ≢ A8) × IsTrue (holds_rect i.size l.src))
      of_source None is = tt
      of_source (Some i) is =
          let b = shape_of l.stream i _ is fits.source in (
            (λ mask. (let no : is_a8 i.format ≡ false = ap is_a8 b.1.format_is ∙ b.2.0 in
                absurd (let yes : is_a8 A8 ≡ false = subst (λ f. is_a8 f ≡ false) mask no in cc))),
            rw b.1.size_is b.2.1,
          )

      of_mask : IsTrue l.transparency.mask → (o : Option Bitmap) → image_of l.mask contents ≡ o
          → IfSome o (λ i. (i.format ≡ A8) × (i.size ≡ size_of l.dest))
      of_mask masked None is = tt
      of_mask masked (Some i) is =
          let b = shape_of l.mask i _ is (fits.mask masked) in
          (is_mask i.format (ap is_a8 b.1.format_is ∙ b.2.0), b.1.size_is ∙ b.2.1)

  layers_show : (ls : List Layer) → AllByRecursion (LayerFits ss) ls → All (Shows contents) ls
  layers_show [] fits = All-nil (Shows contents)
  layers_show (l ∷ ls) fits = All-cons (Shows contents) l ls (layer_shows l fits.0) (layers_show ls fits.1)

  -- a scene with sides whose layers fit, and the images of its streams
  pub scene_shows : (scene : Scene) → has_sides scene.size ≡ true → AllByRecursion (LayerFits ss) scene.layers.items → Fits scene contents
  scene_shows scene sides fit =
      let each = and_parts (is_side scene.size.w) (is_side scene.size.h) sides in
      record { w = each.0; h = each.1; layers = layers_show scene.layers.items fit }
