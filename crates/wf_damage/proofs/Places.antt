-- Areas place by place.
use Rattle.std.proofs.Common.{◌≡◌, ℕ, ◌+◌, ◌*◌, ◌≤◌, List, [], ◌∷◌, ◌++◌, length, take, drop, refl, sym, ap, ◌∙◌, arith}
use Rattle.std.proofs.Common.{append_assoc, length-append}
use Rattle.std.specs.Prelude.{Bool, true, false}
use Rattle.std.proofs.lemmas.List.{drop-drop, append-nil}
use Rattle.wf_pixel.specs.declared.Rect.{Rect}
use Rattle.wf_scene.specs.declared.Layer.{Layer}
use Rattle.wf_model.specs.Picture.{Images}
use Rattle.wf_damage.specs.Areas.{changed, is_still, areas_between}

first : (before now : Images) (ls ms : List Layer)
    → areas_between before now ls ms ≡ areas_between before now (take 1 ls) (take 1 ms) ++ areas_between before now (drop 1 ls) (drop 1 ms)
first before now [] [] = refl
first before now (l ∷ ls) [] = refl
first before now [] (m ∷ ms) = refl
first before now (l ∷ ls) (m ∷ ms) =
    ap (λ (rs : List Rect). rs ++ areas_between before now ls ms) (sym (append-nil (changed (is_still before now l m) l.dest m.dest)))

changed_few : (b : Bool) (r s : Rect) → length (changed b r s ++ []) ≤ 2
changed_few true r s = omega arith
changed_few false r s = omega arith

first_few : (before now : Images) (ls ms : List Layer) → length (areas_between before now (take 1 ls) (take 1 ms)) ≤ 2
first_few before now [] [] = omega arith
first_few before now (l ∷ ls) [] = omega arith
first_few before now [] (m ∷ ms) = omega arith
first_few before now (l ∷ ls) (m ∷ ms) = changed_few (is_still before now l m) l.dest m.dest

-- one more place
pub place_more : (before now : Images) (ls ms : List Layer) (i : ℕ) (old new all : List Rect)
    → old ++ areas_between before now (drop i ls) (drop i ms) ≡ all
    → new ≡ old ++ areas_between before now (take 1 (drop i ls)) (take 1 (drop i ms))
    → new ++ areas_between before now (drop (i + 1) ls) (drop (i + 1) ms) ≡ all
place_more before now ls ms i old new all left new_is =
    let one = areas_between before now (take 1 (drop i ls)) (take 1 (drop i ms)) in
    let rest = areas_between before now (drop (i + 1) ls) (drop (i + 1) ms) in
    ap (λ (rs : List Rect). rs ++ rest) new_is
    ∙ append_assoc old one rest
    ∙ ap (λ (rs : List Rect). old ++ rs)
    ((λ j. one ++ areas_between before now (sym (drop-drop 1 i ls) j) (sym (drop-drop 1 i ms) j))
    ∙ sym (first before now (drop i ls) (drop i ms)))
    ∙ left

pub place_few : (before now : Images) (ls ms : List Layer) (i : ℕ) (old new : List Rect) → length old ≤ 2 * i
    → new ≡ old ++ areas_between before now (take 1 (drop i ls)) (take 1 (drop i ms)) → length new ≤ 2 * (i + 1)
place_few before now ls ms i old new few new_is =
    let one = areas_between before now (take 1 (drop i ls)) (take 1 (drop i ms)) in
    let most = first_few before now (drop i ls) (drop i ms) in
    let len : length new ≡ length old + length one = ap (λ (rs : List Rect). length rs) new_is ∙ length-append old one in
    omega arith
