-- A film of either form as bytes: its frames, and the journal of the order in which the events happened. All numbers
-- are big-endian.
use Rattle.std.specs.Prelude.{ℕ, List, [], ◌∷◌, ◌++◌, length, flat_map, codes}
use Rattle.std.specs.Str.{byte}
use Rattle.byteorder.specs.Endian.{big_bytes}
use Rattle.wf_pixel.specs.declared.Size.{Size}
use Rattle.wf_image.specs.Bitmap.{Bitmap}
use Rattle.wf_calls.specs.declared.order.Turn.{Turn}
use Rattle.wf_film.specs.declared.form.FilmForm.{FilmForm}
use Rattle.wf_film.specs.declared.form.FilmForm.TheVariants as forms

-- a frame: its port from 1, the number of its tick from 1, the place in the journal, from 0, of the entry that began
-- it, its size and its bytes, R, G, B, A by rows from the top
pub record Frame : Type 0 where
  pub port : ℕ
  pub tick : ℕ
  pub begin : ℕ
  pub size : Size
  pub pixels : List ℕ

pub record PlainFilm : Type 0 where
  pub form : FilmForm
  pub frames : List Frame
  pub order : List Turn

-- the frame that shows an image on a port
abbrev pub frame_of : ℕ → ℕ → ℕ → Bitmap → Frame
frame_of port tick begin image = record { port = port; tick = tick; begin = begin; size = image.size; pixels = image.bytes }

abbrev pub magic : FilmForm → List ℕ
magic forms.One = codes "WFF1"
magic forms.Two = codes "WFF2"

-- the begin of a frame, which form 1 leaves out
abbrev pub begin_bytes : FilmForm → ℕ → List ℕ
begin_bytes forms.One begin = []
begin_bytes forms.Two begin = big_bytes 4 begin

-- what stands before a frame's pixels
abbrev pub frame_head : FilmForm → Frame → List ℕ
frame_head form f =
    (byte "F" ∷ f.port ∷ []) ++ big_bytes 4 f.tick ++ begin_bytes form f.begin ++ big_bytes 2 f.size.w ++ big_bytes 2 f.size.h

abbrev pub frame_bytes : FilmForm → Frame → List ℕ
frame_bytes form f = frame_head form f ++ f.pixels

abbrev pub turn_bytes : Turn → List ℕ
turn_bytes t = (t.client ∷ t.code ∷ []) ++ big_bytes 4 t.value

-- what stands before the entries of the journal
abbrev pub journal_head : List Turn → List ℕ
journal_head order = byte "J" ∷ big_bytes 4 (length order)

-- the journal and the end
abbrev pub tail_bytes : List Turn → List ℕ
tail_bytes order = journal_head order ++ flat_map turn_bytes order ++ byte "E" ∷ []

-- the magic and the frames
abbrev pub head_bytes : FilmForm → List Frame → List ℕ
head_bytes form frames = magic form ++ flat_map (frame_bytes form) frames

-- the whole film
abbrev pub film_bytes : PlainFilm → List ℕ
film_bytes film = head_bytes film.form film.frames ++ tail_bytes film.order

-- what a writer has written so far: the form of its film, and the number of bytes
pub record Writing : Type 0 where
  pub form : FilmForm
  pub written : ℕ
