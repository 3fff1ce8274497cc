-- Names that begin one after another, and names that end so.
use Rattle.std.proofs.Common.{◌≡◌, ℕ, zero, suc, ◌+◌, ◌<◌, ◌≤◌, ◌==◌, cond, Bool, true, List, [], ◌∷◌, ◌++◌, map, take, drop, length}
use Rattle.std.proofs.Common.{get_or, refl, sym, ap, subst, ◌∙◌, arith}
use Rattle.std.proofs.lemmas.List.{map-append, take_more}
use Rattle.std.proofs.lemmas.Bool.{eq-eqb}
use Rattle.wf_stream.specs.Counts.{times}
use Rattle.wf_stream.specs.Names.{AreCounted, IsReleasable, NamesFit, releasable, still_named, times_append, times_few, times_one}
use Rattle.wf_stream.specs.Renames.{Renames, then_renames}
use Rattle.wf_stream.specs.Streams.{StoreView, count_of}

module _ (u v w : StoreView) (ns ms : List ℕ) (counted : AreCounted u) where
  pub more_begun : Renames [] ns u v → Renames [] ms v w → Renames [] (ns ++ ms) u w
  more_begun one two =
      then_renames u v w [] [] [] (ns ++ ms) ns ms counted one two
      (λ n some. (let both = times_append n ns ms in omega (arith, both)))

  pub more_ended : Renames ns [] u v → Renames ms [] v w → Renames (ns ++ ms) [] u w
  more_ended one two =
      then_renames u v w ns ms (ns ++ ms) [] [] [] counted one two
      (λ n some. (let both = times_append n ns ms in omega (arith, both)))

  -- the second first
  pub both_begun : Renames [] ms u v → Renames [] ns v w → Renames [] (ns ++ ms) u w
  both_begun one two =
      then_renames u v w [] [] [] (ns ++ ms) ms ns counted one two
      (λ n some. (let both = times_append n ns ms in omega (arith, both)))

-- each count rose by as many names at most as began
pub few_more : (u v : StoreView) (ns : List ℕ) → Renames [] ns u v → (n : ℕ) → count_of n v ≤ count_of n u + length ns
few_more u v ns begun zero = omega (arith, begun.none)
few_more u v ns begun (suc n) =
    let counts = begun.names.counts (suc n) (omega arith) in
    let few = times_few (suc n) ns in
    omega (arith, counts, few)

-- of names of which the first ended the others are left
pub others_left : (u v : StoreView) (ns ms : List ℕ) → NamesFit (ns ++ ms) u → Renames ns [] u v → NamesFit ms v
others_left u v ns ms fit ended =
    still_named u v ns [] fit.counted ended.names (ns ++ ms) ms
    (λ n some. (let both = times_append n ns ms in omega (arith, both))) fit

-- names that are first of others
pub first_fit : (u : StoreView) (ns ms : List ℕ) → NamesFit (ns ++ ms) u → NamesFit ns u
first_fit u ns ms fit =
    record {
      counted = fit.counted;
      named = λ n some. (let both = times_append n ns ms in omega (arith, both, fit.named n some));
    }

-- one more of a list

pub mapped_more : {A : Type 0} (f : A → ℕ) (i : ℕ) (xs : List A) (d : A) → i < length xs
    → map f (take (i + 1) xs) ≡ map f (take i xs) ++ f (get_or xs i d) ∷ []
mapped_more f i xs d within = ap (map f) (take_more xs i d within) ∙ map-append f (take i xs) (get_or xs i d ∷ [])

pub mapped_left : {A : Type 0} (f : A → ℕ) (i : ℕ) (xs : List A) (d : A) → i < length xs
    → map f (drop i xs) ≡ (f (get_or xs i d) ∷ []) ++ map f (drop (i + 1) xs)
mapped_left f i [] d within = absurd (omega arith)
mapped_left f zero (x ∷ xs) d within = refl
mapped_left f (suc i) (x ∷ xs) d within =
    let next : suc i + 1 ≡ suc (i + 1) = omega arith in
    mapped_left f i xs d (omega arith) ∙ ap (λ j. (f (get_or xs i d) ∷ []) ++ map f (drop j (x ∷ xs))) (sym next)

module _ {A : Type 0} (f : A → ℕ) (i : ℕ) (xs : List A) (d : A) (within : i < length xs) (u v w : StoreView) where
  -- the next of a list begins
  pub next_begun : AreCounted u → Renames [] (map f (take i xs)) u v → Renames [] (f (get_or xs i d) ∷ []) v w
      → Renames [] (map f (take (i + 1) xs)) u w
  next_begun counted so_far one =
      subst (λ ns. Renames [] ns u w) (sym (mapped_more f i xs d within))
      (more_begun u v w (map f (take i xs)) (f (get_or xs i d) ∷ []) counted so_far one)

  -- the next of a list ends
  pub next_ended : AreCounted u → Renames (map f (take i xs)) [] u v → Renames (f (get_or xs i d) ∷ []) [] v w
      → Renames (map f (take (i + 1) xs)) [] u w
  next_ended counted so_far one =
      subst (λ ns. Renames ns [] u w) (sym (mapped_more f i xs d within))
      (more_ended u v w (map f (take i xs)) (f (get_or xs i d) ∷ []) counted so_far one)

module _ {A : Type 0} (f : A → ℕ) (i : ℕ) (xs : List A) (d : A) (within : i < length xs) (v : StoreView)
    (fit : NamesFit (map f (drop i xs)) v) where
  split : NamesFit ((f (get_or xs i d) ∷ []) ++ map f (drop (i + 1) xs)) v
  split = subst (λ ns. NamesFit ns v) (mapped_left f i xs d within) fit

  -- the next of the names that are left may end
  pub next_fits : NamesFit (f (get_or xs i d) ∷ []) v
  next_fits = first_fit v (f (get_or xs i d) ∷ []) (map f (drop (i + 1) xs)) split

  -- and then those behind it are left
  pub next_left : (w : StoreView) → Renames (f (get_or xs i d) ∷ []) [] v w → NamesFit (map f (drop (i + 1) xs)) w
  next_left w one = others_left v w (f (get_or xs i d) ∷ []) (map f (drop (i + 1) xs)) split one

-- a stream that may lose its one name
pub may_end : (n : ℕ) (v : StoreView) → NamesFit (n ∷ []) v → 0 < n → IsReleasable n v
may_end n v fit some =
    releasable n (n ∷ []) v fit some (positive (n == n) (times n (n ∷ [])) (eq-eqb n n refl) (times_one n n))
  where
    positive : (b : Bool) (k : ℕ) → b ≡ true → k ≡ cond b 1 0 → 0 < k
    positive b k is one = (let here : k ≡ 1 = rw is at one in omega (arith, here))
