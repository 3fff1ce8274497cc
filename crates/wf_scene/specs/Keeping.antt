-- What a value of an attribute keeps of an element: its handle, and that its place is in the range of coordinates.
use Rattle.std.proofs.Common.{◌≡◌, ℕ, Bool, true, false, cond, ◌&&◌, List, refl, subst, Option, Some, None}
use Rattle.std.specs.Prelude.{ℤ, option_map, IsTrue}
use Rattle.std.proofs.lemmas.Bool.{and_from}
use Rattle.wf_words.specs.Whole.{count_of}
use Rattle.wf_pixel.specs.declared.Rect.{Rect}
use Rattle.wf_scene.specs.declared.attributes.ElementAttr.{ElementAttr}
use Rattle.wf_scene.specs.declared.attributes.ElementAttr.TheVariants as attr
use Rattle.wf_scene.specs.declared.element.Element.{Element}
use Rattle.wf_words.specs.Options.{◌>>=◌}
use Rattle.wf_scene.specs.Values.{component, coordinate_of, extent_of, rect_of, flag_of, turn_of, filter_of, transparency_of, channel_of}
use Rattle.wf_pixel.specs.Choice.{is_coordinate}
use Rattle.wf_scene.specs.Elements.{change_of, with_dest, with_src, with_flip, with_turn, with_filter, with_transparency, with_alpha}
use Rattle.wf_scene.specs.Elements.{with_source, with_mask}
use Rattle.wf_scene.specs.Cached.{is_placed}

-- a change that keeps the handle
abbrev pub KeepsHandle : (Element → Element) → Type 0
KeepsHandle f = (e : Element) → (f e).handle ≡ e.handle

-- a change that keeps the place in the range of coordinates
abbrev pub KeepsPlace : (Element → Element) → Type 0
KeepsPlace f = (e : Element) → IsTrue (is_placed e) → IsTrue (is_placed (f e))

-- a change by a value keeps what each change by such a value keeps
made_of : {A : Type 0} (Keeps : (Element → Element) → Type 0) (w : A → Element → Element) (o : Option A) (f : Element → Element)
    → ((a : A) → o ≡ Some a → Keeps (w a)) → option_map w o ≡ Some f → Keeps f
made_of Keeps w None f keeps is = absurd cc
made_of Keeps w (Some a) f keeps is = let same : w a ≡ f = cc in subst Keeps same (keeps a refl)

-- an attribute's change keeps the element's handle
pub keeps_handle : (a : ElementAttr) (v : List ℤ) (f : Element → Element) → change_of a v ≡ Some f → KeepsHandle f
keeps_handle attr.Dest v f is = made_of KeepsHandle with_dest (rect_of v) f (λ a at e. refl) is
keeps_handle attr.Source v f is = made_of KeepsHandle with_source (Some (count_of (component v 0))) f (λ a at e. refl) is
keeps_handle attr.SrcRect v f is = made_of KeepsHandle with_src (rect_of v) f (λ a at e. refl) is
keeps_handle attr.Flip v f is = made_of KeepsHandle with_flip (flag_of (component v 0)) f (λ a at e. refl) is
keeps_handle attr.Rotation v f is = made_of KeepsHandle with_turn (turn_of (component v 0)) f (λ a at e. refl) is
keeps_handle attr.Filter v f is = made_of KeepsHandle with_filter (filter_of (component v 0)) f (λ a at e. refl) is
keeps_handle attr.Transparency v f is = made_of KeepsHandle with_transparency (transparency_of (component v 0)) f (λ a at e. refl) is
keeps_handle attr.Alpha v f is = made_of KeepsHandle with_alpha (channel_of (component v 0)) f (λ a at e. refl) is
keeps_handle attr.Mask v f is = made_of KeepsHandle with_mask (Some (count_of (component v 0))) f (λ a at e. refl) is

-- a coordinate is in the range
in_range : (z x : ℤ) → coordinate_of z ≡ Some x → is_coordinate x ≡ true
in_range z x is = go (is_coordinate z) refl is
  where
    go : (b : Bool) → is_coordinate z ≡ b → cond b (Some z) None ≡ Some x → is_coordinate x ≡ true
    go true within made = let same : z ≡ x = cc in subst (λ y. is_coordinate y ≡ true) same within
    go false within made = absurd cc

-- a rectangle of numbers begins in the range of coordinates
rect_in_range : (v : List ℤ) (r : Rect) → rect_of v ≡ Some r → (is_coordinate r.x && is_coordinate r.y) ≡ true
rect_in_range v r is =
    go (coordinate_of (component v 0)) (coordinate_of (component v 1)) (extent_of (component v 2)) (extent_of (component v 3)) refl refl is
  where
    go : (a b : Option ℤ) (c d : Option ℕ) → coordinate_of (component v 0) ≡ a → coordinate_of (component v 1) ≡ b
        → (a >>= (λ x. b >>= (λ y. c >>= (λ w. d >>= (λ h. Some (record { x = x; y = y; w = w; h = h })))))) ≡ Some r
        → (is_coordinate r.x && is_coordinate r.y) ≡ true
    go (Some x) (Some y) (Some w) (Some h) ex ey made =
        let same : ◌≡◌ {A = Rect} (record { x = x; y = y; w = w; h = h }) r = cc in
        let both = and_from (is_coordinate x) (is_coordinate y) (in_range (component v 0) x ex) (in_range (component v 1) y ey) in
        subst (λ (q : Rect). (is_coordinate q.x && is_coordinate q.y) ≡ true) same both
    go _ _ _ _ ex ey made = absurd cc

-- an attribute's change keeps the element's place in the range of coordinates
pub keeps_place : (a : ElementAttr) (v : List ℤ) (f : Element → Element) → change_of a v ≡ Some f → KeepsPlace f
keeps_place attr.Dest v f is = made_of KeepsPlace with_dest (rect_of v) f (λ r at e placed. rect_in_range v r at) is
keeps_place attr.Source v f is = made_of KeepsPlace with_source (Some (count_of (component v 0))) f (λ a at e placed. placed) is
keeps_place attr.SrcRect v f is = made_of KeepsPlace with_src (rect_of v) f (λ a at e placed. placed) is
keeps_place attr.Flip v f is = made_of KeepsPlace with_flip (flag_of (component v 0)) f (λ a at e placed. placed) is
keeps_place attr.Rotation v f is = made_of KeepsPlace with_turn (turn_of (component v 0)) f (λ a at e placed. placed) is
keeps_place attr.Filter v f is = made_of KeepsPlace with_filter (filter_of (component v 0)) f (λ a at e placed. placed) is
keeps_place attr.Transparency v f is = made_of KeepsPlace with_transparency (transparency_of (component v 0)) f (λ a at e placed. placed) is
keeps_place attr.Alpha v f is = made_of KeepsPlace with_alpha (channel_of (component v 0)) f (λ a at e placed. placed) is
keeps_place attr.Mask v f is = made_of KeepsPlace with_mask (Some (count_of (component v 0))) f (λ a at e placed. placed) is
