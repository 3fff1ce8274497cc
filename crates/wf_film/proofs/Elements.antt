-- The bytes of a list's elements, one after the other.
use Rattle.std.proofs.Common.{◌≡◌, ℕ, zero, suc, ◌+◌, ◌<◌, List, [], ◌∷◌, ◌++◌, length, take, drop, get_or, refl, append_assoc, arith}
use Rattle.std.specs.List.{flat_map}
use Rattle.wf_io.specs.Bytes.{Puts, PutsPart}
use Rattle.wf_io.specs.Parts.{stops_early, stops_late}

-- the bytes of the elements before a place, of the one there, and of those past it
flat_map_around : {X : Type 0} (f : X → List ℕ) (xs : List X) (i : ℕ) (d : X) → i < length xs
    → flat_map f xs ≡ (flat_map f (take i xs) ++ f (get_or xs i d)) ++ flat_map f (drop (suc i) xs)
flat_map_around f [] i d within = absurd (omega arith)
flat_map_around f (x ∷ xs) zero d within = refl
flat_map_around f (x ∷ xs) (suc i) d within =
    let rest = flat_map_around f xs i d (omega arith) in
    rw rest (simp append_assoc)

-- a stop within the bytes of one element, where those of the elements before it were put
pub stops_within : {S X : Type 0} (took : S → List ℕ → Type 0) (a b c : S) (f : X
    → List ℕ) (xs : List X) (i : ℕ) (d : X) (start middle written : ℕ) → i < length xs → Puts took a b (flat_map f (take i xs))
    → middle ≡ start + length (flat_map f (take i xs)) → PutsPart took b c middle (f (get_or xs i d)) written
    → PutsPart took a c start (flat_map f xs) written
stops_within took a b c f xs i d start middle written within first at part =
    let before = flat_map f (take i xs) in
    let here = f (get_or xs i d) in
    rw (flat_map_around f xs i d within)
    (stops_early took a c start (before ++ here) (flat_map f (drop (suc i) xs)) written
    (stops_late took a b c start middle before here written first at part))
