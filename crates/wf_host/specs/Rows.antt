-- Rows of bytes, each some bytes after the one before.
use Rattle.std.specs.Prelude.{ℕ, zero, suc, ◌+◌, ◌*◌, ◌-◌, ◌/◌, ◌&&◌, Bool, nat_le, List, [], ◌∷◌, ◌++◌, length, take, drop, get_or}
use Rattle.wf_host.specs.declared.order.Order.{Order}
use Rattle.wf_host.specs.declared.order.Order.TheVariants as order

-- as many bytes stand in the place of those from a place on
abbrev pub put_at : ℕ → List ℕ → List ℕ → List ℕ
put_at at xs ys = take at ys ++ xs ++ drop (at + length xs) ys

-- a row
abbrev pub row_at : ℕ → ℕ → List ℕ → List ℕ
row_at at row bytes = take row (drop at bytes)

-- a pixel of four bytes, of which the first and the third change places
abbrev pub swapped_pixel : List ℕ → ℕ → List ℕ
swapped_pixel row x =
    get_or row (4 * x + 2) 0 ∷ get_or row (4 * x + 1) 0 ∷ get_or row (4 * x) 0 ∷ get_or row (4 * x + 3) 0 ∷ []

-- the first n pixels of a row
abbrev pub swapped_to : List ℕ → ℕ → List ℕ
swapped_to row zero = []
swapped_to row (suc n) = swapped_to row n ++ swapped_pixel row n

-- a row of pixels, in the order in which their bytes are asked for
abbrev pub ordered : Order → List ℕ → List ℕ
ordered order.Rgba row = row
ordered order.Bgra row = swapped_to row (length row / 4)

-- rows are copied from where they stand `from` bytes apart to where they stand `to` bytes apart, in an order of their bytes
abbrev pub copied : Order → (to from row : ℕ) → ℕ → List ℕ → List ℕ → List ℕ
copied o to from row zero bytes out = out
copied o to from row (suc n) bytes out = put_at (n * to) (ordered o (row_at (n * from) row bytes)) (copied o to from row n bytes out)

-- some rows, at least one, stand in some room, and no row reaches into the next
abbrev pub stands : ℕ → ℕ → ℕ → ℕ → Bool
stands room stride row count = nat_le row stride && nat_le (stride * (count - 1) + row) room
