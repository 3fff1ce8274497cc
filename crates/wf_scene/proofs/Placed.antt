-- The layers of a scene lie where the elements do, in the range of coordinates.
use Rattle.std.proofs.Common.{◌≡◌, ℕ, Bool, true, false, cond, List, [], ◌∷◌, refl, ◌∙◌, Option, Some, None, map, ◌==◌}
use Rattle.std.specs.List.{list_all, cons_option}
use Rattle.std.proofs.lemmas.List.Folds.{list_all-map}
use Rattle.std.proofs.lemmas.Bool.{and_parts, and_from}
use Rattle.wf_scene.specs.declared.element.Element.{Element}
use Rattle.wf_scene.specs.Layers.{is_placed_layer}
use Rattle.wf_scene.specs.Cached.{element_at, is_placed}
use Rattle.wf_scene.specs.Consistent.{elements_of, layer_of}
use Rattle.wf_scene.specs.Sight.{Sight}

-- an element that is found passes a test that all pass
found_passes : (q : Element → Bool) (h : ℕ) (es : List Element) (e : Element) → list_all q es ≡ true → element_at h es ≡ Some e → q e ≡ true
found_passes q h [] e all at = absurd cc
found_passes q h (x ∷ xs) e all at = go (x.handle == h) at (found_passes q h xs e parts.1)
  where
    parts : (q x ≡ true) × (list_all q xs ≡ true)
    parts = and_parts (q x) (list_all q xs) all

    go : (b : Bool) → cond b (Some x) (element_at h xs) ≡ Some e → (element_at h xs ≡ Some e → q e ≡ true) → q e ≡ true
    go true is later = let same : x ≡ e = cc in rw (← same) parts.0
    go false is later = later is

-- the elements of handles pass a test that all pass
all_of : (q : Element → Bool) (order : List ℕ) (es : List Element) → list_all q es ≡ true → list_all q (elements_of order es) ≡ true
all_of q [] es all = refl
all_of q (h ∷ order) es all = go (element_at h es) refl (all_of q order es all)
  where
    go : (o : Option Element) → element_at h es ≡ o → list_all q (elements_of order es) ≡ true
        → list_all q (cons_option o (elements_of order es)) ≡ true
    go None at later = later
    go (Some e) at later = and_from (q e) (list_all q (elements_of order es)) (found_passes q h es e all at) later

-- their layers are placed as they are
pub layers_placed : (sight : Sight) (order : List ℕ) (es : List Element) → list_all is_placed es ≡ true
    → list_all is_placed_layer (map (layer_of sight) (elements_of order es)) ≡ true
layers_placed sight order es all =
    list_all-map is_placed_layer (layer_of sight) (elements_of order es) ∙ all_of is_placed order es all
