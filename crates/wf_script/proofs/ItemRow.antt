-- Items at places.
use Rattle.std.proofs.Common.{◌≡◌, ℕ, zero, suc, List, [], ◌∷◌, map, refl, sym}
use Rattle.std.specs.Prelude.{option_map}
use Rattle.std.specs.List.{slice_get}
use Rattle.wf_script.specs.declared.field.Item as declared
use Rattle.wf_script.specs.Items.{item_of, items_of}

pub mapped_at : {A B : Type 0} (f : A → B) (xs : List A) (n : ℕ) → slice_get (map f xs) n ≡ option_map f (slice_get xs n)
mapped_at f [] zero = refl
mapped_at f [] (suc n) = refl
mapped_at f (x ∷ xs) zero = refl
mapped_at f (x ∷ xs) (suc n) = mapped_at f xs n

-- the item at a place of a row is that of the code's item
pub item_in_row : (items : List declared.Item) (n : ℕ) → option_map item_of (slice_get items n) ≡ slice_get (items_of items) n
item_in_row items n = sym (mapped_at item_of items n)
