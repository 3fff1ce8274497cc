-- The place of a rectangle that numbers stand for is in the range of coordinates.
use Rattle.std.proofs.Common.{◌≡◌, Bool, true, false, cond, ◌&&◌, List, Option, Some, None, refl, subst}
use Rattle.std.specs.Prelude.{ℤ}
use Rattle.std.proofs.lemmas.Bool.{and_from}
use Rattle.wf_words.specs.Options.{◌>>=◌}
use Rattle.wf_pixel.specs.Choice.{is_coordinate}
use Rattle.wf_pixel.specs.declared.Rect.{Rect}
use Rattle.wf_scene.specs.Values.{component, coordinate_of, extent_of, rect_of}

-- a step behind a value that is there
bind_is : {A B : Type 0} (o : Option A) (f : A → Option B) (y : B) → (o >>= f) ≡ Some y → (x : A) × (o ≡ Some x) × (f x ≡ Some y)
bind_is None f y is = absurd cc
bind_is (Some x) f y is = (x, refl, is)

coordinate_is : (z x : ℤ) → coordinate_of z ≡ Some x → is_coordinate x ≡ true
coordinate_is z x is = of_test (is_coordinate z) refl is
  where
    of_test : (b : Bool) → is_coordinate z ≡ b → cond b (Some z) None ≡ Some x → is_coordinate x ≡ true
    of_test false at same = absurd cc
    of_test true at same = let here : z ≡ x = cc in subst (λ k. is_coordinate k ≡ true) here at

pub rect_placed : (v : List ℤ) (r : Rect) → rect_of v ≡ Some r → (is_coordinate r.x && is_coordinate r.y) ≡ true
rect_placed v r is =
    let x = bind_is (coordinate_of (component v 0)) _ r is in
    let y = bind_is (coordinate_of (component v 1)) _ r x.2 in
    let w = bind_is (extent_of (component v 2)) _ r y.2 in
    let h = bind_is (extent_of (component v 3)) _ r w.2 in
    let there : Some (record { x = x.0; y = y.0; w = w.0; h = h.0 }) ≡ Some r = h.2 in
    let same : record { x = x.0; y = y.0; w = w.0; h = h.0 } ≡ r = cc in
    subst (λ (q : Rect). (is_coordinate q.x && is_coordinate q.y) ≡ true) same
    (and_from (is_coordinate x.0) (is_coordinate y.0) (coordinate_is (component v 0) x.0 x.1) (coordinate_is (component v 1) y.0 y.1))
