-- Which streams a scene names.
use Rattle.wf_machine.proofs.Common.{◌≡◌, ℕ, true, false, not, ◌==◌, ◌||◌, List, [], ◌∷◌, refl, sym, ap, ◌∙◌, flat_map, list_any, is_in}
use Rattle.wf_machine.proofs.Common.{once, Layer, layer_names, is_in-without}
use Rattle.std.specs.Prelude.{filter}

pub in_once : (n : ℕ) (ns : List ℕ) → is_in n (once ns) ≡ is_in n ns
in_once n [] = refl
in_once n (x ∷ ns) =
    elim (x == n) as (λ b. (x == n) ≡ b → (b || is_in n (filter (λ y. not (y == x)) (once ns))) ≡ (b || is_in n ns)) [
      | true ↦ λ here. refl
      | false ↦ λ apart. is_in-without n x (once ns) apart ∙ in_once n ns
    ] refl

of_layers : (n : ℕ) (ls : List Layer) → list_any (λ l. (l.stream == n) || (l.mask == n)) ls ≡ is_in n (flat_map layer_names ls)
of_layers n [] = refl
of_layers n (l ∷ ls) =
    elim (l.stream == n) as (λ b. ((b || (l.mask == n)) || list_any (λ m. (m.stream == n) || (m.mask == n)) ls)
    ≡ (b || ((l.mask == n) || is_in n (flat_map layer_names ls)))) [
      | true ↦ refl
      | false ↦ ap (λ b. (l.mask == n) || b) (of_layers n ls)
    ]

-- a scene names a stream exactly where one of its layers does
pub scene_names : (n : ℕ) (ls : List Layer) → list_any (λ l. (l.stream == n) || (l.mask == n)) ls ≡ is_in n (once (flat_map layer_names ls))
scene_names n ls = of_layers n ls ∙ sym (in_once n (flat_map layer_names ls))
