-- Numbers that are apart: what the place of one says of the list without it.
use Rattle.std.proofs.Common.{◌≡◌, ℕ, ◌==◌, List, sym, Some, None}
use Rattle.std.specs.Prelude.{remove}
use Rattle.std.proofs.lemmas.List.{map-id}
use Rattle.wf_scene.specs.Order.{AreApart, without, place_of}
use Rattle.wf_scene.proofs.Once.{OnceAtMost, first_out, none_out, once_by_key, placed, placed_nowhere}

module _ (h : ℕ) (xs : List ℕ) where
  once : AreApart xs → OnceAtMost (λ x. x == h) xs
  once apart = once_by_key (λ x. x) h xs (rw map-id apart)

  -- the list without a number that stands in it
  pub out_at : (i : ℕ) → AreApart xs → place_of h xs ≡ Some i → remove xs i ≡ without h xs
  out_at i apart e =
      let at = placed (λ x. x == h) xs i e in
      rw (← at.0) (first_out (λ x. x == h) xs (once apart) (rw (← at.0) at at.1))

  -- and of one that does not
  pub out_nowhere : place_of h xs ≡ None → xs ≡ without h xs
  out_nowhere e = sym (none_out (λ x. x == h) xs (placed_nowhere (λ x. x == h) xs e))
