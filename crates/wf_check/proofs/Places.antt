-- Where a film and the bytes that are compared with it differ.
use Rattle.std.proofs.Common.{◌≡◌, ◌∙◌, ℕ, zero, suc, ◌+◌, ◌<◌, ◌≤◌, List, [], ◌∷◌, ◌++◌, length, take, drop, get_or, Option, Some, None}
use Rattle.std.proofs.Common.{Bool, true, false, nat_lt, refl, sym, ap, subst, arith, append_assoc, append-nil, length-append}
use Rattle.std.specs.List.{slice_get}
use Rattle.std.proofs.lemmas.List.{take-append-drop, take-append-le, take_all}
use Rattle.std.proofs.lemmas.Option.{slice_get-get_or, slice_get_past, slice_get_within}
use Rattle.std.proofs.Math.Seq.{drop-append_seam, take-append-add, take-append_seam}
use Rattle.std.proofs.lemmas.Bool.{ltb-false, ltb-true}
use Rattle.wf_check.specs.Verdicts.{Compared, Compares, DiffersAt, GoesOn, IsApart, Takes}

get_front : (xs ys : List ℕ) (i : ℕ) → i < length xs → slice_get (xs ++ ys) i ≡ slice_get xs i
get_front [] ys i within = absurd (omega (arith, within))
get_front (x ∷ xs) ys zero within = refl
get_front (x ∷ xs) ys (suc i) within = get_front xs ys i (omega (arith, within))

get_behind : (xs ys : List ℕ) (i : ℕ) → slice_get (xs ++ ys) (length xs + i) ≡ slice_get ys i
get_behind [] ys i = (let at : 0 + i ≡ i = omega arith in ap (slice_get ys) at)
get_behind (x ∷ xs) ys i =
    let at : suc (length xs) + i ≡ suc (length xs + i) = omega arith in
    ap (slice_get (x ∷ xs ++ ys)) at ∙ get_behind xs ys i

-- what is behind the bytes that agree
pub rest_is : (film before : List ℕ) (at : ℕ) (goes : GoesOn film before at) → drop at film ≡ goes.rest
rest_is film before at goes = ap (λ n. drop n film) goes.length_is ∙ ap (drop (length before)) goes.is ∙ drop-append_seam before goes.rest

-- nothing was compared yet
pub nothing : (film : List ℕ) → GoesOn film [] 0
nothing film = record { rest = film; is = refl; length_is = refl }

-- a difference that was found stays
pub still_apart : (film before bytes : List ℕ) (at : ℕ) → IsApart film before at → IsApart film (before ++ bytes) at
still_apart film before bytes at found =
    record {
      within = omega (arith, found.within, length-append before bytes);
      differs = record {
        same = found.differs.same ∙ sym (take-append-le at before bytes (omega (arith, found.within)));
        apart = λ is. found.differs.apart (is ∙ get_front before bytes at found.within);
      };
    }

module _ (film before bytes : List ℕ) (at n : ℕ) (goes : GoesOn film before at) (same : take n (drop at film) ≡ take n bytes) where
  agree : take n goes.rest ≡ take n bytes
  agree = ap (take n) (sym (rest_is film before at goes)) ∙ same

  -- all bytes agree
  pub goes_on : n ≡ length bytes → GoesOn film (before ++ bytes) (at + n)
  goes_on all =
      record {
        rest = drop n goes.rest;
        is =
            goes.is ∙ ap (λ xs. before ++ xs) (sym (take-append-drop n goes.rest)
            ∙ ap (λ xs. xs ++ drop n goes.rest) (agree ∙ take_all n bytes (omega (arith, all))))
            ∙ sym (append_assoc before bytes (drop n goes.rest));
        length_is = omega (arith, goes.length_is, all, length-append before bytes);
      }

  -- they differ at a place
  pub comes_apart : n < length bytes → (n < length (drop at film) → n < length bytes → get_or (drop at film) n 0 ≡ get_or bytes n 0 → ⊥)
      → IsApart film (before ++ bytes) (at + n)
  comes_apart less other =
      record {
        within = omega (arith, goes.length_is, less, length-append before bytes);
        differs = record { same = front; apart = differ };
      }
    where
      place : at + n ≡ length before + n
      place = ap (λ m. m + n) goes.length_is

      front : take (at + n) film ≡ take (at + n) (before ++ bytes)
      front =
          ap (λ m. take m film) place ∙ ap (take (length before + n)) goes.is ∙ take-append-add before goes.rest n
          ∙ ap (λ xs. before ++ xs) agree
          ∙ sym (take-append-add before bytes n) ∙ ap (λ m. take m (before ++ bytes)) (sym place)

      film_there : slice_get film (at + n) ≡ slice_get (drop at film) n
      film_there =
          ap (slice_get film) place ∙ ap (λ xs. slice_get xs (length before + n)) goes.is ∙ get_behind before goes.rest n
          ∙ ap (λ xs. slice_get xs n) (sym (rest_is film before at goes))

      bytes_there : slice_get (before ++ bytes) (at + n) ≡ Some (get_or bytes n 0)
      bytes_there =
          ap (slice_get (before ++ bytes)) place ∙ get_behind before bytes n ∙ slice_get-get_or bytes n 0 less

      differ : slice_get film (at + n) ≡ slice_get (before ++ bytes) (at + n) → ⊥
      differ is = of_length (slice_get (drop at film) n) refl
        where
          told : slice_get (drop at film) n ≡ Some (get_or bytes n 0)
          told = sym film_there ∙ is ∙ bytes_there

          inner : n < length (drop at film)
          inner = slice_get_within (drop at film) n (get_or bytes n 0) told

          of_length : (o : Option ℕ) → slice_get (drop at film) n ≡ o → ⊥
          of_length o got =
              let both : Some (get_or (drop at film) n 0) ≡ Some (get_or bytes n 0) =
              sym (slice_get-get_or (drop at film) n 0 inner) ∙ told in
              other inner less (let one : get_or (drop at film) n 0 ≡ get_or bytes n 0 = cc in one)

-- what is found in the end

pub longer : (film bytes : List ℕ) (at : ℕ) → GoesOn film bytes at → at < length film → DiffersAt film bytes at
longer film bytes at goes less =
    record {
      same =
          ap (λ n. take n film) goes.length_is ∙ ap (take (length bytes)) goes.is ∙ take-append_seam bytes goes.rest
          ∙ sym (take_all at bytes (omega (arith, goes.length_is)));
      apart = λ is. absurd (let no : Some (get_or film at 0) ≡ None = sym (slice_get-get_or film at 0 less) ∙ is
          ∙ slice_get_past bytes at (omega (arith, goes.length_is)) in cc);
    }

pub equal : (film bytes : List ℕ) (at : ℕ) → GoesOn film bytes at → length film ≤ at → film ≡ bytes
equal film bytes at goes end =
    goes.is ∙ ap (λ xs. bytes ++ xs) (none goes.rest
    (omega (arith, goes.length_is, end, ap length goes.is, length-append bytes goes.rest)))
    ∙ append-nil bytes
  where
    none : (xs : List ℕ) → length xs ≡ 0 → xs ≡ []
    none [] is = refl
    none (x ∷ xs) is = absurd (omega (arith, is))

-- a comparison

pub kept_apart : (c : Compared) (before bytes : List ℕ) → c.apart ≡ true → Compares c before → Compares c (before ++ bytes)
kept_apart c before bytes is compares = rw is (still_apart c.film before bytes c.at (rw is at compares))

-- a comparison that goes on to a place
abbrev pub gone : Compared → ℕ → ℕ → Compared
gone c n length = record { film = c.film; at = c.at + n; apart = nat_lt n length }

pub compared : (c : Compared) (before bytes : List ℕ) (n : ℕ) → c.apart ≡ false → n ≤ length bytes
    → take n (drop c.at c.film) ≡ take n bytes
    → (n < length (drop c.at c.film) → n < length bytes → get_or (drop c.at c.film) n 0 ≡ get_or bytes n 0 → ⊥)
    → Compares c before → Compares (gone c n (length bytes)) (before ++ bytes)
compared c before bytes n is most same other compares = of_length (nat_lt n (length bytes)) refl
  where
    goes : GoesOn c.film before c.at
    goes = rw is at compares

    of_length : (b : Bool) → nat_lt n (length bytes) ≡ b
        → Compares (record { film = c.film; at = c.at + n; apart = b }) (before ++ bytes)
    of_length true less = comes_apart c.film before bytes c.at n goes same (ltb-true n (length bytes) less) other
    of_length false all = goes_on c.film before bytes c.at n goes same (omega (arith, most, ltb-false n (length bytes) all))

pub found_apart : (c : Compared) (bytes : List ℕ) → c.apart ≡ true → Compares c bytes → DiffersAt c.film bytes c.at
found_apart c bytes is compares = (let found : IsApart c.film bytes c.at = rw is at compares in found.differs)

pub found_longer : (c : Compared) (bytes : List ℕ) → c.apart ≡ false → c.at < length c.film → Compares c bytes
    → DiffersAt c.film bytes c.at
found_longer c bytes is less compares = longer c.film bytes c.at (rw is at compares) less

pub found_equal : (c : Compared) (bytes : List ℕ) → c.apart ≡ false → length c.film ≤ c.at → Compares c bytes → c.film ≡ bytes
found_equal c bytes is end compares = equal c.film bytes c.at (rw is at compares) end

-- what it was given

pub takes_none : (film : List ℕ) → Takes (record { film = film; at = 0; apart = false }) (length film ∷ film)
takes_none film = record { bytes = []; is = sym (append-nil (length film ∷ film)); compares = nothing film }

pub takes_more : (c now : Compared) (given bytes : List ℕ) → now.film ≡ c.film
    → ((before : List ℕ) → Compares c before → Compares now (before ++ bytes)) → Takes c given → Takes now (given ++ bytes)
takes_more c now given bytes same more takes =
    record {
      bytes = takes.bytes ++ bytes;
      is =
          ap (λ xs. xs ++ bytes) takes.is ∙ append_assoc (length c.film ∷ c.film) takes.bytes bytes
          ∙ ap (λ (f : List ℕ). (length f ∷ f) ++ (takes.bytes ++ bytes)) (sym same);
      compares = more takes.bytes takes.compares;
    }

-- so it is told which film it compares
pub told : (film own : List ℕ) (c : Compared) → Takes c ((length film ∷ film) ++ own) → (c.film ≡ film) × Compares c own
told film own c takes =
    let counts : length film ≡ length c.film = ap (λ xs. get_or xs 0 0) takes.is in
    let behind : film ++ own ≡ c.film ++ takes.bytes = ap (drop 1) takes.is in
    let film_is : c.film ≡ film = sym (take-append_seam c.film takes.bytes) ∙ ap (take (length c.film)) (sym behind)
    ∙ ap (λ n. take n (film ++ own)) (sym counts) ∙ take-append_seam film own in
    let own_is : takes.bytes ≡ own = sym (drop-append_seam c.film takes.bytes) ∙ ap (drop (length c.film)) (sym behind)
    ∙ ap (λ n. drop n (film ++ own)) (sym counts) ∙ drop-append_seam film own in
    (film_is, subst (Compares c) own_is takes.compares)
