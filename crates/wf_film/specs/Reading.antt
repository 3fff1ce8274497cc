-- Reading a film from the left to the right, each field when it is whole, up to the first fault.
use Rattle.std.specs.Prelude.{◌≡◌, ℕ, zero, suc, ◌*◌, ◌-◌, Bool, not, ◌&&◌, ◌==◌, nat_lt, nat_le, List, [], ◌∷◌, length, take, drop}
use Rattle.std.specs.Prelude.{Option, Some, None, Result, Ok, Err, if◌then◌else◌}
use Rattle.std.specs.Str.{byte, bytes_eq}
use Rattle.byteorder.specs.Endian.{big_number}
use Rattle.wf_words.specs.Refusals.{◌>>=◌, refuse_if}
use Rattle.wf_calls.specs.declared.order.Turn.{Turn}
use Rattle.wf_film.specs.declared.fault.FilmStop.{FilmStop}
use Rattle.wf_film.specs.declared.fault.FilmStop.TheVariants as stop
use Rattle.wf_film.specs.declared.form.FilmForm.{FilmForm}
use Rattle.wf_film.specs.declared.form.FilmForm.TheVariants as forms
use Rattle.wf_film.specs.declared.rule.Breach.{Breach}
use Rattle.wf_film.specs.declared.rule.Rule.TheVariants as rule
use Rattle.wf_film.specs.Film.{Frame, PlainFilm, magic}
use Rattle.wf_film.specs.Stands.{Outline, outline}
use Rattle.wf_film.specs.Rules.{breach, ends_here, rule_number}
use Rattle.wf_pixel.specs.declared.TheConstants.{MOST_SIDE}

-- what was read from the front of the bytes and the bytes behind it, or the rule that is broken and how many bytes are left there
abbrev pub Read : Type 0 → Type 0
Read A = Result (A × List ℕ) Breach

-- the bytes behind what was read
abbrev pub behind : {A : Type 0} → Read A → Result (List ℕ) Breach
behind (Ok read) = Ok read.1
behind (Err broken) = Err broken

-- how many were read, and the bytes behind them
abbrev pub counted : {A : Type 0} → Read (List A) → Read ℕ
counted (Ok read) = Ok (length read.0, read.1)
counted (Err broken) = Err broken

abbrev pub is_within : ℕ → ℕ → ℕ → Bool
is_within low high n = nat_le low n && nat_le n high

-- fields

abbrev pub byte_at : List ℕ → Read ℕ
byte_at [] = Err ends_here
byte_at (b ∷ rest) = Ok (b, rest)

abbrev pub byte_within : ℕ → ℕ → List ℕ → Read ℕ
byte_within low high bytes = do
  number ← byte_at bytes
  _ ← refuse_if (breach rule.Range bytes) (not (is_within low high number.0))
  Ok number

-- a number of n bytes, the highest first
unfoldable pub number_at : ℕ → List ℕ → Read ℕ
number_at n bytes = if nat_lt (length bytes) n then Err ends_here else Ok (big_number n bytes, drop n bytes)

unfoldable pub side_at : List ℕ → Read ℕ
side_at bytes = do
  side ← number_at 2 bytes
  _ ← refuse_if (breach rule.Range bytes) (not (is_within 1 MOST_SIDE side.0))
  Ok side

unfoldable pub pixels_at : ℕ → List ℕ → Read (List ℕ)
pixels_at n bytes = if nat_lt (length bytes) n then Err ends_here else Ok (take n bytes, drop n bytes)

unfoldable pub form_at : List ℕ → Read FilmForm
form_at bytes =
    if nat_lt (length bytes) 4 then Err ends_here
    else (if bytes_eq (take 4 bytes) (magic forms.One) then Ok (forms.One, drop 4 bytes)
    else (if bytes_eq (take 4 bytes) (magic forms.Two) then Ok (forms.Two, drop 4 bytes)
    else Err (breach rule.Magic bytes)))

-- the begin of a frame, which form 1 leaves out
abbrev pub begin_at : FilmForm → List ℕ → Read ℕ
begin_at forms.One bytes = Ok (0, bytes)
begin_at forms.Two bytes = number_at 4 bytes

-- frames

-- a frame behind its tag
unfoldable pub frame_at : FilmForm → List ℕ → Read Frame
frame_at form bytes = do
  port ← byte_within 1 4 bytes
  tick ← number_at 4 port.1
  begin ← begin_at form tick.1
  w ← side_at begin.1
  h ← side_at w.1
  pixels ← pixels_at (4 * (w.0 * h.0)) h.1
  Ok (record { port = port.0; tick = tick.0; begin = begin.0; size = record { w = w.0; h = h.0 }; pixels = pixels.0 }, pixels.1)

-- the frames up to the tag of the journal, and that tag; `most` is no less than the number of bytes
unfoldable pub frames_at : FilmForm → ℕ → List ℕ → Read (List Frame)
frames_at form zero bytes = Err ends_here
frames_at form (suc most) bytes = do
  tag ← byte_at bytes
  if tag.0 == byte "J" then Ok ([], tag.1) else (do
    _ ← refuse_if (breach rule.Tag bytes) (not (tag.0 == byte "F"))
    frame ← frame_at form tag.1
    others ← frames_at form most frame.1
    Ok (frame.0 ∷ others.0, others.1))

-- the journal

unfoldable pub turn_at : List ℕ → Read Turn
turn_at bytes = do
  client ← byte_within 0 7 bytes
  code ← byte_within 0 12 client.1
  value ← number_at 4 code.1
  Ok (record { client = client.0; code = code.0; value = value.0 }, value.1)

unfoldable pub turns_at : ℕ → List ℕ → Read (List Turn)
turns_at zero bytes = Ok ([], bytes)
turns_at (suc n) bytes = do
  first ← turn_at bytes
  others ← turns_at n first.1
  Ok (first.0 ∷ others.0, others.1)

-- the journal behind its tag: the count, and so many entries
unfoldable pub journal_at : List ℕ → Read (List Turn)
journal_at bytes = do
  count ← number_at 4 bytes
  turns_at count.0 count.1

-- the film

-- the end
unfoldable pub end_at : List ℕ → Read (Unit {0})
end_at bytes = do
  tag ← byte_at bytes
  _ ← refuse_if (breach rule.Tag bytes) (not (tag.0 == byte "E"))
  Ok (tt, tag.1)

-- a film, and the bytes that follow it
unfoldable pub film_at : List ℕ → Read PlainFilm
film_at bytes = do
  form ← form_at bytes
  frames ← frames_at form.0 (length form.1) form.1
  order ← journal_at frames.1
  end ← end_at order.1
  Ok (record { form = form.0; frames = frames.0; order = order.0 }, end.1)

-- a film, which nothing follows
unfoldable pub read_film : List ℕ → Result PlainFilm Breach
read_film bytes = do
  film ← film_at bytes
  _ ← refuse_if (breach rule.Last film.1) (nat_lt 0 (length film.1))
  Ok film.0

-- the film without its pixels
abbrev pub outlined : Result PlainFilm Breach → Result Outline Breach
outlined (Ok film) = Ok (outline film)
outlined (Err broken) = Err broken

-- faults

-- the place of a byte, counted from 0, and the number of the rule that is broken there
pub record FilmFault : Type 0 where
  pub at : ℕ
  pub rule : ℕ

-- the fault in a film of n bytes
abbrev pub fault_in : ℕ → Breach → FilmFault
fault_in n broken = record { at = n - broken.left; rule = rule_number broken.rule }

abbrev pub fault_of : ℕ → Result PlainFilm Breach → Option FilmFault
fault_of n (Ok film) = None
fault_of n (Err broken) = Some (fault_in n broken)

-- the first fault of bytes, or none where they stand for a film
abbrev pub film_fault : List ℕ → Option FilmFault
film_fault bytes = fault_of (length bytes) (read_film bytes)

-- the answer that tells a fault
abbrev pub stop_of : FilmFault → FilmStop
stop_of fault = stop.Fault fault.at fault.rule

-- this was answered: the fault that the bytes have, or none, unless memory ran out
abbrev pub TellsFault : {A : Type 0} → Result A FilmStop → Option FilmFault → Type 0
TellsFault (Ok film) fault = fault ≡ None
TellsFault (Err (stop.Fault at rule)) fault = fault ≡ Some (record { at = at; rule = rule })
TellsFault (Err stop.NoMemory) fault = Unit {0}

-- this was answered where the bytes stand for a film: that film, unless memory ran out
abbrev pub TellsFilm : Result Outline FilmStop → PlainFilm → Type 0
TellsFilm (Ok film) plain = film ≡ outline plain
TellsFilm (Err (stop.Fault at rule)) plain = ⊥
TellsFilm (Err stop.NoMemory) plain = Unit {0}
