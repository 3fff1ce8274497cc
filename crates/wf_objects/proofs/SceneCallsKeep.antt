-- What a call on a cached scene keeps: the handles of the elements, and the size.
use Rattle.std.proofs.Common.{◌≡◌, ℕ, Bool, true, false, not, ℤ, List, Option, Some, None, Ok, refl, subst}
use Rattle.wf_words.specs.Keyed.{change, is_in, map_change}
use Rattle.wf_words.specs.Refusals.{◌>>=◌, found_or, refuse_if}
use Rattle.wf_scene.specs.declared.attributes.Refused.TheVariants as refused
use Rattle.wf_scene.specs.declared.attributes.ContextAttr.{ContextAttr}
use Rattle.wf_scene.specs.declared.attributes.ContextAttr.TheVariants as context_attr
use Rattle.wf_scene.specs.declared.attributes.ElementAttr.{ElementAttr}
use Rattle.wf_scene.specs.declared.element.Element.{Element}
use Rattle.wf_scene.specs.Elements.{change_of}
use Rattle.wf_scene.specs.Order.{has_no_room, inserted, is_base, without}
use Rattle.wf_scene.specs.Values.{component, colour_of, turn_of}
use Rattle.wf_scene.specs.Cached as cached
use Rattle.wf_scene.specs.Cached.{CachedScene, handle_of, handles}
use Rattle.wf_scene.specs.Keeping.{keeps_handle}

-- what sets nothing of the elements keeps their handles

-- the same elements and size
abbrev pub Keeps : CachedScene → CachedScene → Type 0
Keeps c s = (handles s.elements ≡ handles c.elements) × (s.size ≡ c.size)

from_value : {A : Type 0} (o : Option A) (f : A → CachedScene) (c s : CachedScene) → ((x : A) → Keeps c (f x))
    → (found_or refused.IllegalArgument o >>= (λ x. Ok (f x))) ≡ Ok s → Keeps c s
from_value None f c s keeps is = absurd cc
from_value (Some x) f c s keeps is = let same : f x ≡ s = cc in subst (Keeps c) same (keeps x)

pub context_keeps : (attr : ContextAttr) (value : List ℤ) (c s : CachedScene) → cached.set_context attr value c ≡ Ok s → Keeps c s
context_keeps context_attr.Rotation value c s is =
    from_value (turn_of (component value 0)) (λ turn. record c { turn = turn }) c s (λ x. (refl, refl)) is
context_keeps context_attr.Background value c s is =
    from_value (colour_of value) (λ colour. record c { background = colour }) c s (λ x. (refl, refl)) is
context_keeps context_attr.Width value c s is = absurd cc
context_keeps context_attr.Height value c s is = absurd cc
context_keeps context_attr.Lowest value c s is = absurd cc

pub insert_keeps : (handle base : ℕ) (c s : CachedScene) → cached.insert handle base c ≡ Ok s → Keeps c s
insert_keeps handle base c s is = by_tests (not (is_base base c.order)) (has_no_room handle c.order) is
  where
    by_tests : (a b : Bool)
        → (refuse_if refused.IllegalArgument a >>= (λ _. refuse_if refused.Limit b >>=
        (λ _. Ok (record c { order = inserted handle base c.order })))) ≡ Ok s → Keeps c s
    by_tests true b same = absurd cc
    by_tests false true same = absurd cc
    by_tests false false same = (let left : record c { order = inserted handle base c.order } ≡ s = cc in subst (Keeps c) left (refl, refl))

pub remove_keeps : (handle : ℕ) (c s : CachedScene) → cached.remove handle c ≡ Ok s → Keeps c s
remove_keeps handle c s is = by_test (not (is_in handle c.order)) is
  where
    by_test : (b : Bool) → (refuse_if refused.IllegalArgument b >>= (λ _. Ok (record c { order = without handle c.order }))) ≡ Ok s
        → Keeps c s
    by_test true same = absurd cc
    by_test false same = (let left : record c { order = without handle c.order } ≡ s = cc in subst (Keeps c) left (refl, refl))

pub set_keeps : (handle : ℕ) (attr : ElementAttr) (value : List ℤ) (c s : CachedScene) → cached.set handle attr value c ≡ Ok s → Keeps c s
set_keeps handle attr value c s is = of_change (change_of attr value) refl is
  where
    of_change : (o : Option (Element → Element)) → change_of attr value ≡ o
        → (found_or refused.IllegalArgument o >>= (λ changed. Ok (record c { elements = change handle_of handle changed c.elements })))
        ≡ Ok s → Keeps c s
    of_change None at same = absurd cc
    of_change (Some f) at same =
        let left : record c { elements = change handle_of handle f c.elements } ≡ s = cc in
        subst (Keeps c) left (map_change handle_of handle f handle_of (keeps_handle attr value f at) c.elements, refl)
