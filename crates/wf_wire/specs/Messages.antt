-- The messages of a session: each is its number and its arguments, eight bytes each.
use Rattle.std.specs.List.{list_all, zip}
use Rattle.std.specs.Prelude.{ℕ, ◌+◌, ◌==◌, ◌&&◌, length, Bool, true, nat_lt, List, [], ◌∷◌, Option, Some, None, option_map, Ok}
use Rattle.std.specs.Prelude.{Err, if◌then◌else◌}
use Rattle.wf_pixel.specs.Choice.{is_between}
use Rattle.wf_words.specs.Keyed.{nth}
use Rattle.std.specs.Int.{cast_signed, w64}
use Rattle.wf_image.specs.Paints.{is_paint}
use Rattle.wf_wire.specs.declared.TheConstants.{MESSAGES_END}
use Rattle.wf_wire.specs.declared.form.Form.{Form}
use Rattle.wf_wire.specs.declared.kind.Kind.{Kind}
use Rattle.wf_wire.specs.declared.message.Message.{Message}
use Rattle.wf_wire.specs.declared.message.Message.TheVariants as message
use Rattle.wf_wire.specs.Forms.{forms, kinds_of}
use Rattle.wf_wire.specs.Kinds.{range_of}
use Rattle.wf_wire.specs.Meaning.{message_of}
use Rattle.wf_wire.specs.Reading.{Read, Reader, ◌>>=◌, breaks, broken, cursor, done, each, number_that}

-- a message's number and the bits of its arguments
pub record Spelled : Type 0 where
  pub form : Form
  pub bits : List ℕ

-- an argument of these bits, in two's complement, is in the range of its kind
abbrev pub is_of_kind : Kind → ℕ → Bool
is_of_kind kind bits = is_between (range_of kind).0 (range_of kind).1 (cast_signed w64 bits)

-- the bits of an argument of a kind, or else rule 3 is broken at it
abbrev pub argument : Kind → Reader ℕ
argument kind = number_that (is_of_kind kind) 3 8

-- those of all arguments
abbrev pub arguments : List Kind → Reader (List ℕ)
arguments kinds = each argument kinds

-- the number of a message, or none where the input ends. Rule 5, that none begins so late, is looked at before the others.
unfoldable pub first : Reader (Option ℕ)
first c = of_left c.left
  where
    of_left : List ℕ → Read (Option ℕ)
    of_left [] = Ok (None, c)
    of_left (b ∷ bs) = if nat_lt c.at MESSAGES_END then Ok (Some b, cursor (c.at + 1) bs) else Err (broken c.at 5 bs)

-- what follows the number of a message that begins at a place: rule 2, and then each argument when it is whole
abbrev pub behind_form : ℕ → Option Form → Reader (Option Spelled)
behind_form place None = breaks place 2
behind_form place (Some form) = do
  bits ← arguments (kinds_of form)
  done (Some (record { form = form; bits = bits }))

abbrev pub behind_number : ℕ → Option ℕ → Reader (Option Spelled)
behind_number place None = done None
behind_number place (Some number) = behind_form place (nth number forms)

-- the next message, or none where the input ends
unfoldable pub spelled : Reader (Option Spelled)
spelled c = (do
  number ← first
  behind_number c.at number) c

-- what it asks for
abbrev pub meaning : Spelled → Message
meaning heard = message_of heard.form heard.bits

-- these bits are those of arguments of these kinds, each in its range
abbrev pub are_of_kinds : List Kind → List ℕ → Bool
are_of_kinds kinds bits = length kinds == length bits && list_all (λ x. is_of_kind x.0 x.1) (zip kinds bits)

-- what the message of a number with arguments of these bits asks for, if there is such a message
abbrev pub told_by : ℕ → List ℕ → Option Message
told_by number bits = of_form (nth number forms)
  where
    of_form : Option Form → Option Message
    of_form None = None
    of_form (Some form) = if are_of_kinds (kinds_of form) bits then Some (message_of form bits) else None

-- a paint has its numbers in their ranges
abbrev pub may_paint : Message → Bool
may_paint (message.Paint paint) = is_paint paint
may_paint _ = true

unfoldable pub next : Reader (Option Message)
next = do
  found ← spelled
  done (option_map meaning found)
