-- The rows in which two pictures of the same sides differ.
use Rattle.wf_serve.specs.declared.bands.Band.{Band}
use Rattle.std.specs.Prelude.{ℕ, zero, suc, ◌+◌, ◌-◌, ◌*◌, Bool, List, ◌++◌, take, drop, bytes_eq, if◌then◌else◌}

-- a row of so many bytes, by its number from the top
abbrev pub row_of : ℕ → ℕ → List ℕ → List ℕ
row_of row y bytes = take row (drop (y * row) bytes)

abbrev pub same_row : ℕ → ℕ → List ℕ → List ℕ → Bool
same_row row y old new = bytes_eq (row_of row y old) (row_of row y new)

-- the first row from a number on that is another one, of n rows; or the one after them
abbrev pub first_changed : ℕ → ℕ → ℕ → List ℕ → List ℕ → ℕ
first_changed row zero y old new = y
first_changed row (suc n) y old new = if same_row row y old new then first_changed row n (y + 1) old new else y

-- the row after the last one of the first n that is another one; or 0
abbrev pub end_changed : ℕ → ℕ → List ℕ → List ℕ → ℕ
end_changed row zero old new = 0
end_changed row (suc n) old new = if same_row row n old new then end_changed row n old new else suc n

-- those from the first row that is another one to the last, of two pictures of h rows
abbrev pub band_of : ℕ → ℕ → List ℕ → List ℕ → Band
band_of row h old new =
    let first : ℕ = first_changed row h 0 old new in record { first = first; count = end_changed row h old new - first }

-- the bytes of a band
abbrev pub band_in : ℕ → Band → List ℕ → List ℕ
band_in row b bytes = take (b.count * row) (drop (b.first * row) bytes)

-- these rows in the place of those of the last picture
abbrev pub pasted : ℕ → Band → List ℕ → List ℕ → List ℕ
pasted row b rows old = take (b.first * row) old ++ (rows ++ drop ((b.first + b.count) * row) old)
