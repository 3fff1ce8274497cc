-- Words in tables.
use Rattle.std.proofs.Common.{◌≡◌, ℕ, true, false, List, [], ◌∷◌, Some, Bor, cond, refl}
use Rattle.std.specs.Prelude.{find}
use Rattle.std.specs.Option.{option_map}
use Rattle.std.specs.Str.{bytes_eq}
use Rattle.wf_script.specs.Table.{rows_of}
use Rattle.wf_script.specs.Words.{Word, look_up}

-- a word is found among the rows as among the rows of the code
pub look_up_in_rows : {A : Type 0} (rows : List (Bor (List ℕ) × A)) (w : Word)
    → look_up (rows_of rows) w ≡ option_map (λ row. row.1) (find (λ row. bytes_eq w row.0.now) rows)
look_up_in_rows [] w = refl
look_up_in_rows (row ∷ rows) w =
    elim (bytes_eq w row.0.now) as (λ b. option_map (λ r. r.1)
    (cond b (Some (row.0.now, row.1)) (find (λ r. bytes_eq w r.0) (rows_of rows)))
    ≡ option_map (λ r. r.1) (cond b (Some row) (find (λ r. bytes_eq w r.0.now) rows))) [
      | true ↦ refl
      | false ↦ look_up_in_rows rows w
    ]
