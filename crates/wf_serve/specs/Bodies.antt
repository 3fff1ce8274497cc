-- The numbers of a message's body, eight bytes each, and what a call's message asks for.
use Rattle.std.specs.Prelude.{ℕ, zero, suc, ◌*◌, ◌/◌, ◌%◌, ◌==◌, ◌&&◌, nat_le, List, [], ◌∷◌, ◌++◌, length, drop, Option, Some, None}
use Rattle.std.specs.Prelude.{option_and_then, if◌then◌else◌}
use Rattle.byteorder.specs.Endian.{big_number}
use Rattle.wf_wire.specs.declared.message.Message.{Message}
use Rattle.wf_wire.specs.Messages.{told_by}
use Rattle.wf_serve.specs.declared.body.TheConstants.{MOST_WORDS}

-- the number at a place of eight bytes
abbrev pub word_at : List ℕ → ℕ → ℕ
word_at body place = big_number 8 (drop (8 * place) body)

-- the first n numbers
abbrev pub words : ℕ → List ℕ → List ℕ
words zero body = []
words (suc n) body = words n body ++ word_at body n ∷ []

-- the numbers of a body that has nothing else
abbrev pub words_in : List ℕ → Option (List ℕ)
words_in body =
    if nat_le (length body) (8 * MOST_WORDS) && (length body % 8 == 0) then Some (words (length body / 8) body) else None

-- what a message of a number with this body asks for
abbrev pub message_in : ℕ → List ℕ → Option Message
message_in number body = option_and_then (told_by number) (words_in body)
