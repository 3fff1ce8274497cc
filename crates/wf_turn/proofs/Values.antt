-- Names with their values: how they are found, and how they are listed.
use Rattle.wf_turn.proofs.Common.{◌≡◌, ◌∙◌, ℕ, zero, suc, ◌+◌, ◌<◌, ◌≤◌, true, false, cond, List, [], ◌∷◌, ◌++◌, length, take, get_or}
use Rattle.wf_turn.proofs.Common.{Option, Some, None, refl, sym, ap, arith, filter_map-append, slice_get, zip, find, option_to_list}
use Rattle.wf_turn.proofs.Common.{option_map, bytes_eq, Line, Name, next_place, place_in, bound_by, bound_names, value_of}
use Rattle.std.proofs.lemmas.List.{take_more, length-take}
use Rattle.std.specs.Prelude.{filter_map}
use Rattle.wf_script.specs.declared.TheConstants.{MOST_LINES}

abbrev pub value_at : List ℕ → Option ℕ → Option ℕ
value_at values None = None
value_at values (Some i) = slice_get values i

-- the value of a name stands where the name stands
pub found_at : (name : Name) (names : List Name) (values : List ℕ)
    → value_at values (place_in name names) ≡ value_of name (zip names values)
found_at name [] values = refl
found_at name (n ∷ names) [] = nowhere (cond (bytes_eq n name) (Some zero) (next_place (place_in name names)))
  where
    nowhere : (o : Option ℕ) → value_at [] o ≡ None
    nowhere None = refl
    nowhere (Some i) = refl
found_at name (n ∷ names) (v ∷ values) =
    elim (bytes_eq n name) as (λ b. value_at (v ∷ values) (cond b (Some zero) (next_place (place_in name names)))
    ≡ option_map (λ row. row.1) (cond b (Some (n, v))
    (find (λ row. bytes_eq row.0 name) (zip names values)))) [
      | true ↦ refl
      | false ↦ next (place_in name names) ∙ found_at name names values
    ]
  where
    next : (o : Option ℕ) → value_at (v ∷ values) (next_place o) ≡ value_at values o
    next None = refl
    next (Some i) = refl

-- the names of one more line
pub names_more : (client : ℕ) (lines : List Line) (i : ℕ) (l : Line) → i < length lines → l ≡ get_or lines i l
    → bound_names client (take (i + 1) lines) ≡ bound_names client (take i lines) ++ option_to_list (bound_by client l)
names_more client lines i l within is =
    ap (bound_names client) (take_more lines i l within)
    ∙ filter_map-append (bound_by client) (take i lines) (get_or lines i l ∷ [])
    ∙ ap (λ names. bound_names client (take i lines) ++ names) (of_one (get_or lines i l)
    ∙ ap (λ m. option_to_list (bound_by client m)) (sym is))
  where
    one : (o : Option Name) → filter_map (λ p. p) (o ∷ []) ≡ option_to_list o
    one None = refl
    one (Some n) = refl

    of_one : (m : Line) → bound_names client (m ∷ []) ≡ option_to_list (bound_by client m)
    of_one m = one (bound_by client m)

-- no more names than lines
pub few_names : (client : ℕ) (lines : List Line) → length (bound_names client lines) ≤ length lines
few_names client [] = omega arith
few_names client (l ∷ lines) = of_name (bound_by client l) refl (few_names client lines)
  where
    of_name : (o : Option Name) → bound_by client l ≡ o → length (bound_names client lines) ≤ length lines
        → length (bound_names client (l ∷ lines)) ≤ suc (length lines)
    of_name None is few = rw is (omega (arith, few))
    of_name (Some n) is few = rw is (omega (arith, few))

pub few_so_far : (client : ℕ) (lines : List Line) (i : ℕ) (names : List Name) → names ≡ bound_names client (take i lines)
    → length lines ≤ MOST_LINES → length names < 4294967296
few_so_far client lines i names are few =
    omega (arith, ap length are, few_names client (take i lines), length-take i lines, few)

pub names_step : (client : ℕ) (lines : List Line) (i : ℕ) (l : Line) (old new : List Name) (o : Option Name) → new ≡ old ++ option_to_list o
    → old ≡ bound_names client (take i lines) → o ≡ bound_by client l → i < length lines → l ≡ get_or lines i l
    → new ≡ bound_names client (take (i + 1) lines)
names_step client lines i l old new o is was one within at =
    is ∙ ap (λ names. names ++ option_to_list o) was
    ∙ ap (λ p. bound_names client (take i lines) ++ option_to_list p) one ∙ sym (names_more client lines i l within at)
