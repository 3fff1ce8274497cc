-- A name is a text.
use Rattle.std.proofs.Common.{◌≡◌, ℕ, zero, suc, ◌<◌, true, List, [], ◌∷◌, IsUtf8, slice_index, arith}
use Rattle.std.proofs.lemmas.Bool.{and_parts}
use Rattle.std.proofs.lemmas.Bool.Decides.{nat_tests}
use Rattle.std.proofs.lemmas.Str.{IsUtf8-from_ascii}
use Rattle.std.specs.List.{list_all}
use Rattle.wf_script.specs.Words.{Word, is_letter, is_name, is_name_byte, starts_as_name}

small_byte : (b : ℕ) → is_name_byte b ≡ true → b < 128
small_byte b h = grind (arith, nat_tests)

small_letter : (b : ℕ) → is_letter b ≡ true → b < 128
small_letter b h = grind (arith, nat_tests)

small_bytes : (bs : List ℕ) → list_all is_name_byte bs ≡ true → (i : ℕ) → slice_index bs i < 128
small_bytes [] h i = omega arith
small_bytes (b ∷ bs) h zero = small_byte b (and_parts (is_name_byte b) (list_all is_name_byte bs) h).0
small_bytes (b ∷ bs) h (suc i) = small_bytes bs (and_parts (is_name_byte b) (list_all is_name_byte bs) h).1 i

small_name : (w : Word) → starts_as_name w ≡ true → (i : ℕ) → slice_index w i < 128
small_name [] h i = omega arith
small_name (b ∷ bs) h zero = small_letter b (and_parts (is_letter b) (list_all is_name_byte bs) h).0
small_name (b ∷ bs) h (suc i) = small_bytes bs (and_parts (is_letter b) (list_all is_name_byte bs) h).1 i

-- its bytes are ASCII
pub name_is_text : (w : Word) → is_name w ≡ true → IsUtf8 w
name_is_text w h = IsUtf8-from_ascii w (small_name w (and_parts (starts_as_name w) _ h).0)
