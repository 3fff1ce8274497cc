-- Which bytes stand for a film: the ranges of its numbers, and the film without its pixels.
use Rattle.std.specs.Prelude.{◌≡◌, ℕ, ◌<◌, ◌≤◌, ◌*◌, ◌^◌, List, [], ◌++◌, length, map}
use Rattle.std.specs.List.{AllByRecursion}
use Rattle.wf_calls.specs.declared.order.Turn.{Turn}
use Rattle.wf_calls.specs.Orders.{IsTurn}
use Rattle.wf_film.specs.declared.form.FilmForm.{FilmForm}
use Rattle.wf_film.specs.declared.form.FilmForm.TheVariants as forms
use Rattle.wf_film.specs.Film.{Frame, PlainFilm, film_bytes}
use Rattle.wf_pixel.specs.declared.TheConstants.{MOST_SIDE}

-- a film without its pixels: its form, the number of its frames, and its journal
pub record Outline : Type 0 where
  pub form : FilmForm
  pub frames : ℕ
  pub order : List Turn

abbrev pub outline : PlainFilm → Outline
outline film = record { form = film.form; frames = length film.frames; order = film.order }

-- ranges

-- a begin is a number of four bytes; in form 1, which does not carry it, it is 0
abbrev pub MayBegin : FilmForm → ℕ → Type 0
MayBegin forms.One begin = begin ≡ 0
MayBegin forms.Two begin = begin < 2 ^ 32

pub record IsSide (side : ℕ) : Type 0 where
  pub low : 1 ≤ side
  pub high : side ≤ MOST_SIDE

pub record IsFrame (form : FilmForm) (f : Frame) : Type 0 where
  pub low_port : 1 ≤ f.port
  pub high_port : f.port ≤ 4
  pub tick : f.tick < 2 ^ 32
  pub begin : MayBegin form f.begin
  pub width : IsSide f.size.w
  pub height : IsSide f.size.h
  pub pixels : length f.pixels ≡ 4 * (f.size.w * f.size.h)

pub record IsFilm (film : PlainFilm) : Type 0 where
  pub frames : AllByRecursion (IsFrame film.form) film.frames
  pub turns : AllByRecursion IsTurn film.order
  pub few : length film.order < 2 ^ 32

-- the bytes stand for the film
pub record Stands (bytes : List ℕ) (film : PlainFilm) : Type 0 where
  pub is : IsFilm film
  pub spelled : bytes ≡ film_bytes film

-- bytes of a film that are no front of a longer film's bytes, and of which no front is a shorter film's
pub record IsWhole (bytes : List ℕ) : Type 0 where
  pub no_front : (rest : List ℕ) (other : PlainFilm) → Stands (bytes ++ rest) other → rest ≡ []
  pub no_longer : (front rest : List ℕ) (other : PlainFilm) → bytes ≡ front ++ rest → Stands front other → rest ≡ []

-- films as they are read

-- a frame in a film of a form: form 1 does not say where it begins
abbrev pub frame_in : FilmForm → Frame → Frame
frame_in forms.One f = record f { begin = 0 }
frame_in forms.Two f = f

-- a frame stands in a film of a form
abbrev pub IsFrameIn : FilmForm → Frame → Type 0
IsFrameIn form f = IsFrame form (frame_in form f)

abbrev pub as_read : PlainFilm → PlainFilm
as_read film = record film { frames = map (frame_in film.form) film.frames }
