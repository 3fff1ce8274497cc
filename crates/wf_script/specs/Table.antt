-- The tables of the code.
use Rattle.std.specs.Prelude.{ℕ, List, map}
use Rattle.std.specs.Borrow.{Bor}
use Rattle.wf_script.specs.Words.{Word}

-- the rows of a table
abbrev pub rows_of : {A : Type 0} → List (Bor (List ℕ) × A) → List (Word × A)
rows_of rows = map (λ row. (row.0.now, row.1)) rows
