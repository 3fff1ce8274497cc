-- Steps of reading one after another, a step for each element of a list.
use Rattle.std.proofs.Common.{◌≡◌, ◌∙◌, ℕ, ◌+◌, ◌<◌, ◌≤◌, List, [], ◌∷◌, ◌++◌, length, drop, Option, Some, None, Ok, Err}
use Rattle.std.proofs.Common.{add-one, drop-cons, get_or, subst, sym, ap, refl, arith, append_assoc, length-append}
use Rattle.std.proofs.lemmas.List.{append-nil, drop_all}
use Rattle.wf_wire.specs.declared.stop.ServeStop.{ServeStop}
use Rattle.wf_wire.specs.declared.stop.ServeStop.TheVariants as stop
use Rattle.wf_wire.specs.Reading.{Reader, Read, behind, broken, cursor, each}
use Rattle.wf_wire.specs.Taking.{Finds, Gives, Tells}

module _ {X A : Type 0} (read : X → Reader A) where
  -- what was read in front of what is read
  abbrev pub with_front : List A → Read (List A) → Read (List A)
  with_front xs (Ok y) = Ok (xs ++ y.0, y.1)
  with_front xs (Err e) = Err e

  -- reading goes on from here as from the start
  pub record GoesFrom (bytes left : List ℕ) (at then : ℕ) (so_far : List A) (all rest : List X) : Type 0 where
    pub taken : List ℕ
    pub front : bytes ≡ taken ++ left
    pub place : then ≡ at + length taken
    pub reads : (more : List ℕ) → each read all (cursor at (taken ++ more)) ≡ with_front so_far (each read rest (cursor then more))

  abbrev pub GoesOn : Option (List ℕ) → ℕ → Option (List ℕ) → ℕ → List A → List X → List X → Type 0
  GoesOn None at mid then so_far all rest = Unit {0}
  GoesOn (Some bytes) at None then so_far all rest = ⊥
  GoesOn (Some bytes) at (Some left) then so_far all rest = GoesFrom bytes left at then so_far all rest

  pub goes_from_start : (old : Option (List ℕ)) (at : ℕ) (all : List X) → GoesOn old at old at [] all all
  goes_from_start None at all = tt
  goes_from_start (Some bytes) at all = record {
    taken = [];
    front = refl;
    place = omega arith;
    reads = λ more. same (each read all (cursor at more));
  }
    where
      same : (r : Read (List A)) → r ≡ with_front [] r
      same (Ok y) = refl
      same (Err e) = refl

  module _ (bytes middle : List ℕ) (at then : ℕ) (so_far : List A) (k : X) (all rest : List X)
      (goes : GoesFrom bytes middle at then so_far all (k ∷ rest)) where
    -- the bytes so far and those of one more step
    joined : (taken more : List ℕ) → each read all (cursor at ((goes.taken ++ taken) ++ more))
        ≡ with_front so_far (each read (k ∷ rest) (cursor then (taken ++ more)))
    joined taken more = ap (λ (xs : List ℕ). each read all (cursor at xs)) (append_assoc goes.taken taken more) ∙ goes.reads (taken ++ more)

    front : (left taken : List ℕ) → middle ≡ taken ++ left → bytes ≡ (goes.taken ++ taken) ++ left
    front left taken is = goes.front ∙ ap (λ xs. goes.taken ++ xs) is ∙ sym (append_assoc goes.taken taken left)

    place : (taken : List ℕ) → then + length taken ≡ at + length (goes.taken ++ taken)
    place taken = omega (arith, goes.place, length-append goes.taken taken)

    one_more : (x : A) (r : Read (List A))
        → with_front so_far (behind (λ others c. Ok (x ∷ others, c)) r) ≡ with_front (so_far ++ x ∷ []) r
    one_more x (Ok y) = ap (λ (zs : List A). Ok (zs, y.1)) (sym (append_assoc so_far (x ∷ []) y.0))
    one_more x (Err e) = refl

    further : (left : List ℕ) (now : ℕ) (x : A) → Gives (read k) middle then left now x
        → GoesFrom bytes left at now (so_far ++ x ∷ []) all rest
    unfolding each
    further left now x given = record {
      taken = goes.taken ++ given.taken;
      front = front left given.taken given.front;
      place = given.place ∙ place given.taken;
      reads = λ more. joined given.taken more ∙ rw (given.reads more) (one_more x (each read rest (cursor now more)));
    }

    stopped : (left : List ℕ) (now : ℕ) (s : ServeStop) → Tells (read k) middle then left now (Err s)
        → Tells (each read all) bytes at left now (Err s)
    unfolding each
    stopped left now stop.ReadFault cut =
        let taken = goes.taken ++ cut.taken in
        let whole : cut.taken ++ [] ≡ cut.taken = append-nil cut.taken in
        record {
          taken = taken;
          front = front left cut.taken cut.front;
          reads =
              ap (λ (xs : List ℕ). each read all (cursor at xs)) (sym (append-nil taken)) ∙ joined cut.taken [] ∙ rw (whole, cut.reads) refl
              ∙ ap (λ (n : ℕ). Err (broken n 4 [])) (place cut.taken);
        }
    stopped left now (stop.BadMessage byte rule) told =
        ap (λ (xs : List ℕ). each read all (cursor at xs)) goes.front ∙ goes.reads middle ∙ rw told refl
    stopped left now (stop.WriteFault written) told = absurd told
    stopped left now (stop.Quota byte) told = absurd told

  -- one more step
  pub goes_further : (old mid new : Option (List ℕ)) (at then now : ℕ) (so_far : List A) (k : X) (all rest : List X) (x : A)
      → GoesOn old at mid then so_far all (k ∷ rest) → Finds (read k) mid then new now (Ok x)
      → GoesOn old at new now (so_far ++ x ∷ []) all rest
  goes_further None mid new at then now so_far k all rest x goes found = tt
  goes_further (Some bytes) None new at then now so_far k all rest x goes found = absurd goes
  goes_further (Some bytes) (Some middle) None at then now so_far k all rest x goes found = absurd found
  goes_further (Some bytes) (Some middle) (Some left) at then now so_far k all rest x goes found =
      further bytes middle at then so_far k all rest goes left now x found

  -- one that stops
  pub goes_to_stop : (old mid new : Option (List ℕ)) (at then now : ℕ) (so_far : List A) (k : X) (all rest : List X) (s : ServeStop)
      → GoesOn old at mid then so_far all (k ∷ rest) → Finds (read k) mid then new now (Err s)
      → Finds (each read all) old at new now (Err s)
  goes_to_stop None mid new at then now so_far k all rest s goes found = tt
  goes_to_stop (Some bytes) None new at then now so_far k all rest s goes found = absurd goes
  goes_to_stop (Some bytes) (Some middle) None at then now so_far k all rest s goes found = absurd found
  goes_to_stop (Some bytes) (Some middle) (Some left) at then now so_far k all rest s goes found =
      stopped bytes middle at then so_far k all rest goes left now s found

  -- all of them
  pub goes_to_end : (old new : Option (List ℕ)) (at now : ℕ) (so_far : List A) (all : List X) → GoesOn old at new now so_far all []
      → Finds (each read all) old at new now (Ok so_far)
  unfolding each
  goes_to_end None new at now so_far all goes = tt
  goes_to_end (Some bytes) None at now so_far all goes = absurd goes
  goes_to_end (Some bytes) (Some rest) at now so_far all goes = record {
    taken = goes.taken;
    front = goes.front;
    place = goes.place;
    reads = λ more. goes.reads more ∙ ap (λ (zs : List A). Ok (zs, cursor now more)) (append-nil so_far);
  }

  -- the same at a place of the list
  module _ (old mid new : Option (List ℕ)) (at then now : ℕ) (so_far : List A) (all : List X) (i : ℕ) (d : X) (inside : i < length all)
      (goes : GoesOn old at mid then so_far all (drop i all)) where
    from_here : GoesOn old at mid then so_far all (get_or all i d ∷ drop (i + 1) all)
    from_here =
        subst (GoesOn old at mid then so_far all)
        (drop-cons all i d inside ∙ ap (λ m. get_or all i d ∷ drop m all) (sym (add-one i))) goes

    pub goes_further_at : (x : A) → Finds (read (get_or all i d)) mid then new now (Ok x)
        → GoesOn old at new now (so_far ++ x ∷ []) all (drop (i + 1) all)
    goes_further_at x found = goes_further old mid new at then now so_far (get_or all i d) all (drop (i + 1) all) x from_here found

    pub goes_to_stop_at : (s : ServeStop) → Finds (read (get_or all i d)) mid then new now (Err s)
        → Finds (each read all) old at new now (Err s)
    goes_to_stop_at s found = goes_to_stop old mid new at then now so_far (get_or all i d) all (drop (i + 1) all) s from_here found

  pub goes_to_end_at : (old new : Option (List ℕ)) (at now : ℕ) (so_far : List A) (all : List X) (i : ℕ) → length all ≤ i
      → GoesOn old at new now so_far all (drop i all)
      → Finds (each read all) old at new now (Ok so_far)
  goes_to_end_at old new at now so_far all i past goes =
      goes_to_end old new at now so_far all (subst (GoesOn old at new now so_far all) (drop_all i all past) goes)
