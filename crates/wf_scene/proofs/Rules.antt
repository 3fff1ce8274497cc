-- When no rule is broken.
use Rattle.std.proofs.Common.{◌≡◌, ℕ, ◌+◌, Bool, true, false, not, List, [], ◌∷◌, refl, sym, ap, ◌∙◌, Option, Some, None, is_some}
use Rattle.std.specs.Prelude.{position, option_map, is_ok}
use Rattle.std.specs.List.{list_all}
use Rattle.std.proofs.lemmas.Bool.{not-true, not-false}
use Rattle.wf_scene.specs.declared.element.Element.{Element}
use Rattle.wf_scene.specs.Cached.{CachedScene}
use Rattle.wf_scene.specs.Sight.{Sight}
use Rattle.wf_scene.specs.Consistent.{has_source, is_inside, has_destination, is_covered, broken_rule, keeps_rules, fault_from, fault}
use Rattle.wf_scene.specs.Consistent.{inserted_elements, scene_of, consistent, unless}

-- one of four is false where not all are true
any_false : (a b c d : Bool) → is_some (option_map (λ i. i + 1) (position not (a ∷ b ∷ c ∷ d ∷ [])))
    ≡ not (list_all (λ kept. kept) (a ∷ b ∷ c ∷ d ∷ []))
any_false false b c d = refl
any_false true false c d = refl
any_false true true false d = refl
any_false true true true false = refl
any_false true true true true = refl

not_not : (b : Bool) → not (not b) ≡ b
not_not true = refl
not_not false = refl

ok_unless : {A E : Type 0} (o : Option E) (x : A) → is_ok (unless o x) ≡ not (is_some o)
ok_unless None x = refl
ok_unless (Some e) x = refl

module _ (sight : Sight) where
  -- there is a fault where an element does not keep the rules
  any_fault : (place : ℕ) (es : List Element) → is_some (fault_from sight place es) ≡ not (list_all (keeps_rules sight) es)
  any_fault place [] = refl
  any_fault place (e ∷ es) =
      go (broken_rule sight e) refl (any_false (has_source sight e) (is_inside sight e) (has_destination e) (is_covered sight e))
      (any_fault (place + 1) es)
    where
      go : (o : Option ℕ) → broken_rule sight e ≡ o → is_some (broken_rule sight e) ≡ not (keeps_rules sight e)
          → is_some (fault_from sight (place + 1) es) ≡ not (list_all (keeps_rules sight) es)
          → is_some (fault_from sight place (e ∷ es)) ≡ not (list_all (keeps_rules sight) (e ∷ es))
      go None is told later =
          let keeps : keeps_rules sight e ≡ true = not-false (keeps_rules sight e) (sym (rw is at told)) in
          rw (is, keeps) later
      go (Some rule) is told later =
          let breaks : keeps_rules sight e ≡ false = not-true (keeps_rules sight e) (sym (rw is at told)) in
          rw (is, breaks) refl

  -- a commit takes a scene where every inserted element keeps every rule
  pub ok_by_rules : (c : CachedScene) → is_ok (consistent sight c) ≡ list_all (keeps_rules sight) (inserted_elements c)
  ok_by_rules c =
      ok_unless (fault sight c) (scene_of sight c) ∙ ap not (any_fault 1 (inserted_elements c))
      ∙ not_not (list_all (keeps_rules sight) (inserted_elements c))
