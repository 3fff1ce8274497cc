-- Modes and ports that may not be declared.
use Rattle.std.proofs.Common.{◌≡◌, ◌∙◌, ℕ, zero, suc, ◌+◌, ◌<◌, ◌==◌, Bool, true, false, ◌&&◌, nat_le, nat_lt, List, [], ◌∷◌, ◌++◌, length}
use Rattle.std.proofs.Common.{take, drop, get_or, refl, sym, ap, arith, length-append}
use Rattle.std.specs.List.{filter, list_all}
use Rattle.std.specs.Prelude.{map}
use Rattle.std.proofs.Math.Seq.{drop-cons}
use Rattle.std.proofs.lemmas.Bool.Decides.{nat_tests}
use Rattle.std.proofs.lemmas.List.{map-append, take-append-drop}
use Rattle.std.proofs.lemmas.List.Elements.{filter-append}
use Rattle.std.proofs.lemmas.List.Folds.{list_all-append}
use Rattle.wf_pixel.specs.Choice.{has_sides}
use Rattle.wf_pixel.specs.declared.Size.{Size}
use Rattle.wf_calls.specs.PortRules.{may_have}
use Rattle.wf_host.specs.declared.declaring.Mode.{Mode}
use Rattle.wf_calls.specs.declared.TheConstants.{MOST_PIPELINES}
use Rattle.wf_host.specs.PortsOf.{are_of, declares, modes_of, ports_to, sizes_of}

-- the size of a mode
abbrev pub size_of : Mode → Size
size_of m = record { w = m.w; h = m.h }

-- a mode of the port with those of it that follow
kept : (port : ℕ) (m : Mode) (rest : List Mode) → (m.port == port) ≡ true → sizes_of port (m ∷ rest) ≡ size_of m ∷ sizes_of port rest
kept port m rest its = rw its refl

-- the sizes before a mode of the port, its own, and those after it
around : (port : ℕ) (modes : List Mode) (i : ℕ) (m : Mode) → i < length modes → (get_or modes i m).port == port ≡ true
    → sizes_of port modes ≡ sizes_of port (take i modes) ++ size_of (get_or modes i m) ∷ sizes_of port (drop (suc i) modes)
around port modes i m within its =
    let here : Mode = get_or modes i m in
    let all : modes ≡ take i modes ++ here ∷ drop (suc i) modes =
    sym (take-append-drop i modes) ∙ ap (λ (l : List Mode). take i modes ++ l) (drop-cons modes i m within) in
    ap (sizes_of port) all
    ∙ ap (map size_of) (filter-append (λ m. m.port == port) (take i modes) (here ∷ drop (suc i) modes))
    ∙ map-append size_of (filter (λ m. m.port == port) (take i modes)) (filter (λ m. m.port == port) (here ∷ drop (suc i) modes))
    ∙ ap (λ (l : List Size). sizes_of port (take i modes) ++ l) (kept port here (drop (suc i) modes) its)

-- more than four sizes
too_many : (before rest : List Size) (size : Size) → length before ≡ 4
    → may_have (record { sizes = record { items = before ++ size ∷ rest } }) ≡ false
too_many before rest size full =
    let long : nat_le (length (before ++ size ∷ rest)) 4 ≡ false =
    grind (arith, nat_tests, length-append before (size ∷ rest), full) in
    rw long (refused (nat_le 1 (length (before ++ size ∷ rest))) (list_all has_sides (before ++ size ∷ rest)))
  where
    refused : (a b : Bool) → (a && false && b) ≡ false
    refused true b = refl
    refused false b = refl

-- a side out of its range
no_side : (before rest : List Size) (size : Size) → has_sides size ≡ false
    → may_have (record { sizes = record { items = before ++ size ∷ rest } }) ≡ false
no_side before rest size out =
    let one : list_all has_sides (before ++ size ∷ rest) ≡ false =
    list_all-append has_sides before (size ∷ rest) ∙ rw out (last (list_all has_sides before)) in
    rw one (refused (nat_le 1 (length (before ++ size ∷ rest))) (nat_le (length (before ++ size ∷ rest)) 4))
  where
    last : (a : Bool) → (a && false) ≡ false
    last true = refl
    last false = refl

    refused : (a b : Bool) → (a && b && false) ≡ false
    refused true true = refl
    refused true false = refl
    refused false b = refl

module _ (port : ℕ) (modes : List Mode) (i : ℕ) (m : Mode) (within : i < length modes) (its : (get_or modes i m).port ≡ port) where
  same : ((get_or modes i m).port == port) ≡ true
  same = grind (arith, nat_tests, its)

  -- a mode too many
  pub fifth : length (sizes_of port (take i modes)) ≡ 4 → may_have (modes_of port modes) ≡ false
  fifth full =
      ap (λ (l : List Size). may_have (record { sizes = record { items = l } })) (around port modes i m within same)
      ∙ too_many (sizes_of port (take i modes)) (sizes_of port (drop (suc i) modes)) (size_of (get_or modes i m)) full

  -- a mode without its sides
  pub sideless : has_sides (size_of (get_or modes i m)) ≡ false → may_have (modes_of port modes) ≡ false
  sideless out =
      ap (λ (l : List Size). may_have (record { sizes = record { items = l } })) (around port modes i m within same)
      ∙ no_side (sizes_of port (take i modes)) (sizes_of port (drop (suc i) modes)) (size_of (get_or modes i m)) out

-- how many ports there are
pub count_of_ports : (n : ℕ) (modes : List Mode) → length (ports_to n modes) ≡ n
count_of_ports zero modes = refl
count_of_ports (suc n) modes =
    length-append (ports_to n modes) (modes_of (suc n) modes ∷ []) ∙ ap (λ (k : ℕ). k + 1) (count_of_ports n modes) ∙ omega arith

-- one of the ports has modes that it may not have
pub one_may_not : (n k : ℕ) (modes : List Mode) → k < n → may_have (modes_of (k + 1) modes) ≡ false
    → list_all may_have (ports_to n modes) ≡ false
one_may_not zero k modes within not = absurd (omega arith)
one_may_not (suc n) k modes within not =
    list_all-append may_have (ports_to n modes) (modes_of (suc n) modes ∷ [])
    ∙ by_place (nat_lt k n) refl (λ before. one_may_not n k modes before not)
  where
    either : (a b : Bool) → b ≡ false → (a && (b && true)) ≡ false
    either true b is = rw is refl
    either false b is = refl

    by_place : (b : Bool) → nat_lt k n ≡ b → (k < n → list_all may_have (ports_to n modes) ≡ false)
        → (list_all may_have (ports_to n modes) && (may_have (modes_of (suc n) modes) && true)) ≡ false
    by_place true is before = rw (before (grind (arith, nat_tests, is))) refl
    by_place false is before =
        let last : k + 1 ≡ suc n = grind (arith, nat_tests, is, within) in
        either (list_all may_have (ports_to n modes)) (may_have (modes_of (suc n) modes))
        (ap (λ (p : ℕ). may_have (modes_of p modes)) (sym last) ∙ not)

-- what is asked of a declaration, one by one
pub asked : (count : ℕ) (modes : List Mode) (pipes : ℕ) → declares count modes pipes
    ≡ (are_of count modes && (nat_le 1 count && nat_le count 4 && list_all may_have (ports_to count modes) && nat_le pipes MOST_PIPELINES))
asked count modes pipes =
    ap (λ (n : ℕ). are_of count modes
    && (nat_le 1 n && nat_le n 4 && list_all may_have (ports_to count modes) && nat_le pipes MOST_PIPELINES))
    (count_of_ports count modes)
