-- Places of contents that are copied over others.
use Rattle.std.specs.Prelude.{◌≡◌, ◌<◌, ℕ, ◌==◌, List, Option, Some, None, IsTrue, get_or, length}
use Rattle.std.specs.List.{list_any}
use Rattle.wf_image.specs.Bitmap.{Bitmap}

-- where both places have the image of one of the streams, it is the same
abbrev pub IsKnown : List ℕ → Option (ℕ × Bitmap) → Option (ℕ × Bitmap) → Type 0
IsKnown same (Some a) (Some b) = a.0 ≡ b.0 → IsTrue (list_any (λ s. s == b.0) same) → a.1 ≡ b.1
IsKnown same _ _ = Unit {0}

-- the same of lists of places, place by place
abbrev pub AreKnown : List ℕ → List (Option (ℕ × Bitmap)) → List (Option (ℕ × Bitmap)) → Type 0
AreKnown same old new = (i : ℕ) → i < length new → IsKnown same (get_or old i None) (get_or new i None)
