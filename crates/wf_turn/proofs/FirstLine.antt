-- The first line of a program, and what the setup hands on.
use Rattle.wf_turn.proofs.Common.{◌≡◌, ◌∙◌, ℕ, zero, suc, ◌+◌, ◌<◌, ◌≤◌, cond, List, [], ◌∷◌, ◌++◌, length, take, drop, get_or}
use Rattle.wf_turn.proofs.Common.{Option, Some, None, refl, sym, ap, subst, arith, eq-eqb, filter_map-append, take-append-drop, slice_get}
use Rattle.wf_turn.proofs.Common.{zip, IfSome, IsSomeAnd, Line, Name, Inside, IsProgram, program_of, bound_by, bound_names}
use Rattle.wf_turn.proofs.Common.{IsPlace, Program, first_line, first_of, lines_from, place_of, setup_lines, taught}
use Rattle.wf_turn.specs.Program.{setup_names}
use Rattle.wf_turn.proofs.Skips.{get_within, lines_at, lines_end}

abbrev pub from_line : ℕ → ℕ → List Line → Option Line → List (ℕ × Line)
from_line client at lines None = []
from_line client at lines (Some l) = (at, l) ∷ lines_from client (at + 1) lines

-- at a place that is the client's stands its first line
pub from_place : (client at : ℕ) (lines : List Line) → IsPlace client at lines
    → lines_from client at lines ≡ from_line client at lines (slice_get lines at)
from_place client at lines place = of_line (slice_get lines at) refl place.here
  where
    of_line : (o : Option Line) → slice_get lines at ≡ o → IfSome o (λ l. l.client ≡ client)
        → lines_from client at lines ≡ from_line client at lines o
    of_line None none here = lines_end client at lines (past lines at none)
      where
        past : {A : Type 0} (xs : List A) (i : ℕ) → slice_get xs i ≡ None → length xs ≤ i
        past [] i none = omega arith
        past (x ∷ xs) zero none = absurd cc
        past (x ∷ xs) (suc i) none = (let rest = past xs i none in omega (arith, rest))
    of_line (Some l) some here =
        let within = inside lines at l some in
        let is : l ≡ get_or lines at l = cc (some, get_within lines at l within) in
        lines_at client at lines l within is
        ∙ ap (λ b. cond b ((at, l) ∷ lines_from client (at + 1) lines) (lines_from client (at + 1) lines))
        (eq-eqb l.client client here)
      where
        inside : {A : Type 0} (xs : List A) (i : ℕ) (x : A) → slice_get xs i ≡ Some x → i < length xs
        inside [] i x some = absurd cc
        inside (y ∷ xs) zero x some = omega arith
        inside (y ∷ xs) (suc i) x some = (let rest = inside xs i x some in omega (arith, rest))

pub first_at : (p : Inside) → IsProgram p → slice_get p.script.now.lines p.at ≡ first_line (program_of p)
first_at p sound = sym (ap first_of (from_place p.client p.at p.script.now.lines sound.place) ∙ of_line (slice_get p.script.now.lines p.at))
  where
    of_line : (o : Option Line) → first_of (from_line p.client p.at p.script.now.lines o) ≡ o
    of_line None = refl
    of_line (Some l) = refl

pub place_at : (p : Inside) (s : Program) (l : Line) → IsProgram p → program_of p ≡ s → first_line s ≡ Some l → Some p.at ≡ place_of s
place_at p s l sound seen is = of_line (slice_get p.script.now.lines p.at) refl (first_at p sound ∙ ap first_line seen ∙ is)
  where
    of_line : (o : Option Line) → slice_get p.script.now.lines p.at ≡ o → slice_get p.script.now.lines p.at ≡ Some l
        → Some p.at ≡ place_of s
    of_line None none some = absurd cc
    of_line (Some m) at some =
        let here : lines_from p.client p.at p.script.now.lines ≡ (p.at, m) ∷ lines_from p.client (p.at + 1) p.script.now.lines =
        from_place p.client p.at p.script.now.lines sound.place ∙ ap (from_line p.client p.at p.script.now.lines) at in
        sym (ap (λ ls. place_of (record (program_of p) { lines = ls })) here) ∙ ap place_of seen

-- the line at a program's place is its client's
pub own_at : (p : Inside) (s : Program) (l : Line) → IsProgram p → program_of p ≡ s → first_line s ≡ Some l
    → IsSomeAnd (slice_get s.script.lines p.at) (λ m. m.client ≡ s.client)
own_at p s l sound seen is = subst (λ q. IsSomeAnd (slice_get q.script.lines p.at) (λ m. m.client ≡ q.client)) seen
    (of_line (slice_get p.script.now.lines p.at) (first_at p sound ∙ ap first_line seen ∙ is) sound.place.here)
  where
    of_line : (o : Option Line) → o ≡ Some l → IfSome o (λ m. m.client ≡ p.client) → IsSomeAnd o (λ m. m.client ≡ p.client)
    of_line None some here = absurd cc
    of_line (Some m) some here = here

-- the values of the first names
first_values : (first rest : List Name) (values : List ℕ)
    → zip first (take (length first) values) ≡ take (length first) (zip (first ++ rest) values)
first_values [] rest values = refl
first_values (n ∷ first) rest [] = refl
first_values (n ∷ first) rest (v ∷ values) = ap (λ rows. (n, v) ∷ rows) (first_values first rest values)

-- the setup's names are the first ones that client 0 binds
setup_first : (lines : List Line) → bound_names 0 lines ≡ setup_names lines ++ bound_names 0 (drop (setup_lines lines) lines)
setup_first lines = ap (bound_names 0) (sym (take-append-drop (setup_lines lines) lines))
    ∙ filter_map-append (bound_by 0) (take (setup_lines lines) lines) (drop (setup_lines lines) lines)

-- what a program learns of the clock
pub learns : (p clock : Inside) (s k : Program) (names : List Name) (values : List ℕ) → IsProgram p → IsProgram clock → program_of p ≡ s
    → program_of clock ≡ k → k.script ≡ s.script → k.client ≡ 0
    → names ≡ p.learned.names → values ≡ take (length p.learned.names) clock.own.values
    → record (program_of p) { learned = zip names values } ≡ taught k s
learns p clock s k names values sound clock_sound seen clock_seen script client names_are values_are =
    let lines = p.script.now.lines in
    let same : clock.script.now ≡ p.script.now = ap (λ q. q.script) clock_seen ∙ script
    ∙ sym (ap (λ q. q.script) seen) in
    let zeroth : clock.client ≡ 0 = ap (λ q. q.client) clock_seen ∙ client in
    let clock_names : clock.own.names ≡ setup_names lines ++ bound_names 0 (drop (setup_lines lines) lines) =
    clock_sound.names ∙ ap (λ n. bound_names n clock.script.now.lines) zeroth ∙ ap (λ x. bound_names 0 x.lines) same
    ∙ setup_first lines in
    let learned : zip names values ≡ take (length (setup_names lines)) (zip clock.own.names clock.own.values) =
    ap (λ ns. zip ns values) (names_are ∙ sound.setup)
    ∙ ap (λ vs. zip (setup_names lines) vs) (values_are ∙ ap (λ ns. take (length ns) clock.own.values) sound.setup)
    ∙ first_values (setup_names lines) (bound_names 0 (drop (setup_lines lines) lines)) clock.own.values
    ∙ ap (λ ns. take (length (setup_names lines)) (zip ns clock.own.values)) (sym clock_names) in
    ap (λ rows. record (program_of p) { learned = rows }) learned
    ∙ ap (λ q. taught q (program_of p)) clock_seen ∙ ap (taught k) seen
