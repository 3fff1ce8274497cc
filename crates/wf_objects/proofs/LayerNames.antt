-- Names that begin and end one after another: those of a layer, of layers, and of a context.
use Rattle.std.proofs.Common.{◌≡◌, ℕ, ◌+◌, ◌*◌, ◌<◌, ◌≤◌, true, false, ◌==◌, List, [], ◌∷◌, ◌++◌, drop, flat_map, get_or, length, take}
use Rattle.std.proofs.Common.{slice_get, zero, suc, Option, Some, None, IsSome, is_some, option_map, refl, arith, length-take-le}
use Rattle.std.proofs.lemmas.Bool.Decides.{nat_tests}
use Rattle.std.proofs.lemmas.List.Sums.{count_by-le-length, sum_by-drop_more, sum_by_more}
use Rattle.std.specs.List.{AllByRecursion}
use Rattle.std.specs.Option.{IsSomeAnd}
use Rattle.wf_words.specs.Each.{each_at}
use Rattle.wf_stream.specs.Buffers.{Buffers}
use Rattle.wf_stream.specs.Counts.{times}
use Rattle.wf_stream.specs.Streams.{KeptStream, StoreView, buffers_at, count_of, stream_at}
use Rattle.wf_stream.specs.Names.{AreCounted, NamesFit, IsReleasable, releasable, still_named, times_append}
use Rattle.wf_scene.specs.declared.Layer.{Layer}
use Rattle.wf_model.specs.Fitting.{LayerFits}
use Rattle.wf_model.specs.Named.{in_first}
use Rattle.wf_model.specs.Names.{layer_names}
use Rattle.wf_model.specs.Counting.{times_in}
use Rattle.wf_stream.specs.Renames.{Renames, fewer_fit, then_renames}
use Rattle.wf_objects.proofs.NameCounts.{layer_count, times_flat}
use Rattle.wf_scene.specs.declared.TheConstants.{MOST_INSERTED}

-- a name that is counted can be let go
pub alone : (n : ℕ) (v : StoreView) → NamesFit (n ∷ []) v → 0 < n → IsReleasable n v
alone n v fit some = releasable n (n ∷ []) v fit some (times_in n (n ∷ []) (in_first n []))

-- the streams that a layer names are kept

kept_some : (P : Buffers → Type 0) (n : ℕ) (streams : List KeptStream) → IsSomeAnd (buffers_at n streams) P → IsSome (stream_at n streams)
kept_some P n streams fit = of_stream (stream_at n streams) fit
  where
    of_stream : (o : Option KeptStream) → IsSomeAnd (option_map (λ s. s.buffers) o) P → is_some o ≡ true
    of_stream None is = absurd is
    of_stream (Some s) is = refl

pub stream_kept : (l : Layer) (streams : List KeptStream) → LayerFits streams l → IsSome (stream_at l.stream streams)
stream_kept l streams fit = kept_some _ l.stream streams fit.source

pub mask_kept : (l : Layer) (streams : List KeptStream) → LayerFits streams l → 0 < l.mask → IsSome (stream_at l.mask streams)
mask_kept l streams fit some =
    elim l.transparency.mask as (λ b. l.transparency.mask ≡ b → IsSome (stream_at l.mask streams)) [
      | true ↦ λ is. kept_some _ l.mask streams (fit.mask is)
      | false ↦ λ is. (let none = fit.unmasked is in absurd (omega (arith, none, some)))
    ] refl

-- how many names began

pub began_most : (n : ℕ) (began : List ℕ) (u v : StoreView) → Renames [] began u v → count_of n v ≤ count_of n u + length began
began_most n began u v change =
    elim (n == 0) as (λ t. (n == 0) ≡ t → count_of n v ≤ count_of n u + length began) [
      | true ↦ λ is. at_zero (grind (arith, nat_tests, is))
      | false ↦ λ is. (
          let some : 0 < n = grind (arith, nat_tests, is) in
          let counts = change.names.counts n some in
          let most = count_by-le-length (λ k. k == n) began in
          omega (arith, counts, most))
    ] refl
  where
    at_zero : n ≡ 0 → count_of n v ≤ count_of n u + length began
    at_zero is =
        let same : count_of n v ≡ count_of n u = rw is change.none in
        omega (arith, same)

pub few_began : (n i : ℕ) (xs : List Layer) (u v : StoreView) → length xs ≤ MOST_INSERTED → i ≤ length xs
    → Renames [] (flat_map layer_names (take i xs)) u v → count_of n v ≤ count_of n u + 2 * MOST_INSERTED
few_began n i xs u v few less change =
    let most = began_most n (flat_map layer_names (take i xs)) u v change in
    let names = layer_count (take i xs) in
    let taken = length-take-le i xs less in
    omega (arith, most, names, taken, few, less)

-- one name after another, and then more

pub then_began : (u v w : StoreView) (a b : List ℕ) → AreCounted u → Renames [] a u v → Renames [] b v w → Renames [] (a ++ b) u w
then_began u v w a b counted one two =
    then_renames u v w [] [] [] (a ++ b) a b counted one two (λ n some. (let both = times_append n a b in omega (arith, both)))

pub then_ended : (u v w : StoreView) (a b : List ℕ) → AreCounted u → Renames a [] u v → Renames b [] v w → Renames (a ++ b) [] u w
then_ended u v w a b counted one two =
    then_renames u v w a b (a ++ b) [] [] [] counted one two (λ n some. (let both = times_append n a b in omega (arith, both)))

-- those that are left are counted
pub others_fit : (u v : StoreView) (a b : List ℕ) → Renames a [] u v → NamesFit (a ++ b) u → NamesFit b v
others_fit u v a b change fit =
    still_named u v a [] fit.counted change.names (a ++ b) b
    (λ n some. (let both = times_append n a b in omega (arith, both))) fit

-- the layers of a loop, and their names

module _ (xs : List Layer) (i : ℕ) (d : Layer) (less : i < length xs) where
  pub fits_at : (streams : List KeptStream) → AllByRecursion (LayerFits streams) xs → LayerFits streams (get_or xs i d)
  fits_at streams fit = each_at (LayerFits streams) xs i (get_or xs i d) fit (read xs i less)
    where
      read : (ls : List Layer) (j : ℕ) → j < length ls → slice_get ls j ≡ Some (get_or ls j d)
      read [] j within = absurd (omega (arith, within))
      read (l ∷ ls) zero within = refl
      read (l ∷ ls) (suc j) within = read ls j (omega (arith, within))

  times_taken : (n : ℕ) → times n (flat_map layer_names (take (i + 1) xs))
      ≡ times n (flat_map layer_names (take i xs)) + times n (layer_names (get_or xs i d))
  times_taken n =
      let one = times_flat n layer_names (take i xs) in
      let two = times_flat n layer_names (take (i + 1) xs) in
      let more = sum_by_more (λ l. times n (layer_names l)) xs i d less in
      omega (arith, one, two, more)

  times_left : (n : ℕ) → times n (flat_map layer_names (drop i xs))
      ≡ times n (layer_names (get_or xs i d)) + times n (flat_map layer_names (drop (i + 1) xs))
  times_left n =
      let one = times_flat n layer_names (drop i xs) in
      let two = times_flat n layer_names (drop (i + 1) xs) in
      let more = sum_by-drop_more (λ l. times n (layer_names l)) xs i d less in
      omega (arith, one, two, more)

  pub more_began : (u v w : StoreView) → AreCounted u → Renames [] (flat_map layer_names (take i xs)) u v
      → Renames [] (layer_names (get_or xs i d)) v w → Renames [] (flat_map layer_names (take (i + 1) xs)) u w
  more_began u v w counted one two =
      then_renames u v w [] [] [] (flat_map layer_names (take (i + 1) xs)) (flat_map layer_names (take i xs)) (layer_names (get_or xs i d))
      counted one two (λ n some. (let more = times_taken n in omega (arith, more)))

  pub more_ended : (u v w : StoreView) → AreCounted u → Renames (flat_map layer_names (take i xs)) [] u v
      → Renames (layer_names (get_or xs i d)) [] v w → Renames (flat_map layer_names (take (i + 1) xs)) [] u w
  more_ended u v w counted one two =
      then_renames u v w (flat_map layer_names (take i xs)) (layer_names (get_or xs i d)) (flat_map layer_names (take (i + 1) xs)) [] [] []
      counted one two (λ n some. (let more = times_taken n in omega (arith, more)))

  pub here_fit : (v : StoreView) → NamesFit (flat_map layer_names (drop i xs)) v → NamesFit (layer_names (get_or xs i d)) v
  here_fit v fit =
      fewer_fit (flat_map layer_names (drop i xs)) (layer_names (get_or xs i d)) v v refl refl
      (λ n some. (let less = times_left n in omega (arith, less))) fit

  pub left_fit : (v w : StoreView) → Renames (layer_names (get_or xs i d)) [] v w → NamesFit (flat_map layer_names (drop i xs)) v
      → NamesFit (flat_map layer_names (drop (i + 1) xs)) w
  left_fit v w change fit =
      still_named v w (layer_names (get_or xs i d)) [] fit.counted change.names (flat_map layer_names (drop i xs))
      (flat_map layer_names (drop (i + 1) xs)) (λ n some. (let less = times_left n in omega (arith, less))) fit
