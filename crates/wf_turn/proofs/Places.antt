-- Names that are added to an index.
use Rattle.wf_turn.proofs.Common.{◌≡◌, ◌∙◌, ℕ, zero, suc, Bool, true, false, cond, List, [], ◌∷◌, ◌++◌, length, Option, Some, None, refl}
use Rattle.wf_turn.proofs.Common.{sym, ap, Bor, is_some, bytes_eq, Name, next_place, place_in}
use Rattle.wf_turn.proofs.Common.{◌<◌, ◌≤◌, ◌⊎◌, arith, get_or, inl, inr, length-append, length-map, map}
use Rattle.std.proofs.lemmas.Bool.{cases_lt}
use Rattle.std.proofs.lemmas.List.{get_or-map, get_or_default}
use Rattle.std.proofs.lemmas.Slice.Eq.{bytes_eq-Decides}
use Rattle.std.proofs.Math.ListN.{get_or-append}
use Rattle.std.proofs.Math.Seq.{get_or-append_seam}

-- the place of a name once another stands behind
abbrev place_or : Option ℕ → Option ℕ → Option ℕ
place_or None behind = behind
place_or (Some i) behind = Some i

place_behind : (q n : Name) (names : List Name) → place_in q (names ++ n ∷ [])
    ≡ place_or (place_in q names) (cond (bytes_eq n q) (Some (length names)) None)
place_behind q n [] = refl
place_behind q n (m ∷ names) =
    elim (bytes_eq m q) as (λ b. cond b (Some zero) (next_place (place_in q (names ++ n ∷ [])))
    ≡ place_or (cond b (Some zero) (next_place (place_in q names))) (cond (bytes_eq n q) (Some (suc (length names))) None)) [
      | true ↦ refl
      | false ↦ ap next_place (place_behind q n names) ∙ next_or (place_in q names) (bytes_eq n q) (length names)
    ]
  where
    next_or : (o : Option ℕ) (b : Bool) (k : ℕ) → next_place (place_or o (cond b (Some k) None))
        ≡ place_or (next_place o) (cond b (Some (suc k)) None)
    next_or None true k = refl
    next_or None false k = refl
    next_or (Some i) b k = refl

-- a new name is told at the place behind all others
pub told_new : (old new : Name → Option ℕ) (n : Name) (names : List Name) → ((q : Name) → old q ≡ place_in q names)
    → is_some (old n) ≡ false → ((q : Name) → new q ≡ cond (bytes_eq n q) (Some (length names)) (old q)) → (q : Name)
    → new q ≡ place_in q (names ++ n ∷ [])
told_new old new n names told absent adds q =
    adds q
    ∙ (elim (bytes_eq n q) as (λ b. bytes_eq n q ≡ b → cond b (Some (length names)) (old q)
    ≡ place_or (place_in q names) (cond b (Some (length names)) None)) [
      | true ↦ λ hit. (let none : place_in q names ≡ None = sym (told q) ∙ ap old (sym ((bytes_eq-Decides n q).0 hit))
          ∙ nothing (old n) absent in rw none refl)
      | false ↦ λ miss. told q ∙ or_none (place_in q names)
    ] refl)
    ∙ sym (place_behind q n names)
  where
    nothing : (o : Option ℕ) → is_some o ≡ false → o ≡ None
    nothing None is = refl
    nothing (Some i) is = absurd cc

    or_none : (o : Option ℕ) → o ≡ place_or o None
    or_none None = refl
    or_none (Some i) = refl

-- a name that is there is told at its place
pub told_again : (old : Name → Option ℕ) (n : Name) (names : List Name) → ((q : Name) → old q ≡ place_in q names) → is_some (old n) ≡ true
    → (q : Name) → old q ≡ place_in q (names ++ n ∷ [])
told_again old n names told present q =
    told q
    ∙ (elim (bytes_eq n q) as (λ b. bytes_eq n q ≡ b → place_in q names ≡ place_or (place_in q names) (cond b (Some (length names)) None)) [
      | true ↦ λ hit. (let here : old n ≡ place_in q names = ap old ((bytes_eq-Decides n q).0 hit) ∙ told q in
          there (place_in q names) (ap is_some (sym here) ∙ present) (Some (length names)))
      | false ↦ λ miss. or_none (place_in q names)
    ] refl)
    ∙ sym (place_behind q n names)
  where
    there : (o : Option ℕ) → is_some o ≡ true → (behind : Option ℕ) → o ≡ place_or o behind
    there None is behind = absurd cc
    there (Some i) is behind = refl

    or_none : (o : Option ℕ) → o ≡ place_or o None
    or_none None = refl
    or_none (Some i) = refl

-- a place that is put back is told as before
pub put_back : (old between new : Name → Option ℕ) (n : Name) (place first : ℕ) → Some first ≡ old n
    → ((q : Name) → between q ≡ cond (bytes_eq n q) (Some place) (old q))
    → ((q : Name) → new q ≡ cond (bytes_eq n q) (Some first) (between q)) → (q : Name) → new q ≡ old q
put_back old between new n place first stood puts again q =
    again q
    ∙ elim (bytes_eq n q) as (λ b. bytes_eq n q ≡ b → cond b (Some first) (between q) ≡ old q) [
      | true ↦ λ hit. stood ∙ ap old ((bytes_eq-Decides n q).0 hit)
      | false ↦ λ miss. puts q ∙ ap (λ b. cond b (Some place) (old q)) miss
    ] refl

-- what is told at a name that was put is the place where it stands first
pub put_first : (new : Name → Option ℕ) (n : Name) (names : List Name) (place : ℕ) (otherwise : Option ℕ)
    → ((q : Name) → new q ≡ place_in q names) → new n ≡ cond (bytes_eq n n) (Some place) otherwise → place_in n names ≡ Some place
put_first new n names place otherwise told puts =
    sym (told n) ∙ puts ∙ ap (λ b. cond b (Some place) otherwise) ((bytes_eq-Decides n n).1 refl)

-- for each name in a list, the place where it stands first
abbrev pub AreFirsts : List Name → List ℕ → Type 0
AreFirsts names firsts = (i : ℕ) → i < length names → place_in (get_or names i []) names ≡ Some (get_or firsts i 0)

-- the same with one more name
pub firsts_more : (n : Name) (names : List Name) (firsts : List ℕ) (first : ℕ) → length firsts ≡ length names → AreFirsts names firsts
    → place_in n (names ++ n ∷ []) ≡ Some first → AreFirsts (names ++ n ∷ []) (firsts ++ first ∷ [])
firsts_more n names firsts first count are one i within = at (cases_lt i (length names))
  where
    at : (i < length names) ⊎ (length names ≤ i) → place_in (get_or (names ++ n ∷ []) i []) (names ++ n ∷ [])
        ≡ Some (get_or (firsts ++ first ∷ []) i 0)
    at (inl early) =
        let m : Name = get_or names i [] in
        ap (λ p. place_in p (names ++ n ∷ [])) (get_or-append names (n ∷ []) [] i early)
        ∙ place_behind m n names
        ∙ ap (λ o. place_or o (cond (bytes_eq n m) (Some (length names)) None)) (are i early)
        ∙ ap Some (sym (get_or-append firsts (first ∷ []) 0 i (omega arith)))
    at (inr late) =
        let here : i ≡ length names = omega (arith, length-append names (n ∷ [])) in
        ap (λ p. place_in p (names ++ n ∷ []))
        (ap (λ k. get_or (names ++ n ∷ []) k []) here ∙ get_or-append_seam names n [] [])
        ∙ one
        ∙ ap Some (sym (ap (λ k. get_or (firsts ++ first ∷ []) k 0) (here ∙ sym count) ∙ get_or-append_seam firsts first [] 0))

-- a name that stands at a place stands first where the list says of that place
pub found_near : (q : Name) (names : List (Bor Name)) (firsts : List ℕ) (i : ℕ) (n : Bor Name) (first : ℕ) → i < length names
    → length firsts ≡ length (map (λ n. n.now) names) → AreFirsts (map (λ n. n.now) names) firsts → n ≡ get_or names i n
    → first ≡ get_or firsts i first → bytes_eq n.now q ≡ true → place_in q (map (λ n. n.now) names) ≡ Some first
found_near q names firsts i n first within count are at first_is hit =
    let among : i < length (map (λ n. n.now) names) = omega (arith, length-map names (λ n. n.now)) in
    let here : q ≡ get_or (map (λ n. n.now) names) i [] =
    sym ((bytes_eq-Decides n.now q).0 hit) ∙ ap (λ m. m.now) at ∙ sym (get_or-map (λ n. n.now) names i n [] within) in
    ap (λ p. place_in p (map (λ n. n.now) names)) here ∙ are i among
    ∙ ap Some (get_or_default firsts i 0 first (omega arith) ∙ sym first_is)
