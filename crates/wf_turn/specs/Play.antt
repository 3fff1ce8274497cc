-- Orders: which are legal, their film, and the order of serial play.
use Rattle.std.specs.Prelude.{ℕ, zero, suc, ◌+◌, ◌*◌, Bool, false, ◌&&◌, ◌==◌, nat_lt, List, [], ◌∷◌, map, length, filter, fold, Option}
use Rattle.std.specs.Prelude.{Some, None, IsSome, IsTrue, if◌then◌else◌}
use Rattle.std.specs.List.{enumerate_from}
use Rattle.wf_words.specs.Keyed.{is_in}
use Rattle.wf_calls.specs.declared.order.Turn.{Turn}
use Rattle.wf_film.specs.declared.form.FilmForm.{FilmForm}
use Rattle.wf_film.specs.Film.{Frame, PlainFilm, film_bytes, head_bytes}
use Rattle.wf_script.specs.Script.{PlainScript}
use Rattle.wf_turn.specs.Program.{place_of}
use Rattle.wf_turn.specs.Turns.{Show, is_over, opening_show, turn}

abbrev pub same_turn : Turn → Turn → Bool
same_turn s t = (s.client == t.client) && (s.code == t.code) && (s.value == t.value)

-- an entry marks a creation without memory
abbrev pub is_marked : Turn → Bool
is_marked t = t.code == 1

-- the show after one more entry, where that entry is its client's turn
abbrev pub replay_turn : Turn → Option (Show × Turn) → Option Show
replay_turn t None = None
replay_turn t (Some done) = if same_turn done.1 t then Some done.0 else None

-- the show after an order, or none where an entry is no turn
unfoldable pub replay_from : Show → List Turn → Option Show
replay_from show [] = Some show
replay_from show (t ∷ ts) = elim (replay_turn t (turn show t.client (is_marked t))) [ None ↦ None | Some after ↦ replay_from after ts ]

abbrev pub replay : PlainScript → List Turn → Option Show
replay script order = replay_from (opening_show script) order

-- each entry of the order is its client's turn
abbrev pub IsLegal : PlainScript → List Turn → Type 0
IsLegal script order = IsSome (replay script order)

abbrev pub frames_after : Option Show → List Frame
frames_after None = []
frames_after (Some show) = show.frames

abbrev pub over_after : Option Show → Bool
over_after None = false
over_after (Some show) = is_over show

-- the order is legal, and leaves every program through
abbrev pub IsComplete : PlainScript → List Turn → Type 0
IsComplete script order = IsTrue (over_after (replay script order))

-- the magic and the frames of an order, in a form
abbrev pub head : FilmForm → PlainScript → List Turn → List ℕ
head form script order = head_bytes form (frames_after (replay script order))

-- the film of an order, in a form, and its bytes
abbrev pub plain_film : FilmForm → PlainScript → List Turn → PlainFilm
plain_film form script order = record { form = form; frames = frames_after (replay script order); order = order }

abbrev pub film : FilmForm → PlainScript → List Turn → List ℕ
film form script order = film_bytes (plain_film form script order)

-- the places of an order at which a creation had no memory
abbrev pub marks : List Turn → List ℕ
marks order = map (λ row. row.0) (filter (λ row. is_marked row.1) (enumerate_from 0 order))

-- of the clients whose place in the file is told, with that place, the one that comes first
abbrev pub earlier : Option (ℕ × ℕ) → ℕ × Option ℕ → Option (ℕ × ℕ)
earlier best row = of_place best row.1
  where
    of_place : Option (ℕ × ℕ) → Option ℕ → Option (ℕ × ℕ)
    of_place best None = best
    of_place None (Some place) = Some (row.0, place)
    of_place (Some b) (Some place) = if nat_lt place b.1 then Some (row.0, place) else Some b

-- the client of the first line in the file that is not through, by the places of the clients
abbrev pub first_client : List (Option ℕ) → Option (ℕ × ℕ)
first_client places = fold earlier None (enumerate_from 0 places)

-- the turns of serial play from a place of the order on, at most so many
unfoldable pub serial_from : ℕ → ℕ → List ℕ → Show → List Turn
serial_from zero place marks show = []
serial_from (suc most) place marks show =
    elim (first_client (map place_of show.programs)) [
      | None ↦ []
      | Some c ↦ elim (turn show c.0 (is_in place marks)) [
        | None ↦ []
        | Some done ↦ done.1 ∷ serial_from most (place + 1) marks done.0
      ]
    ]

-- the order of serial play; a line makes 40 events at most
abbrev pub serial_order : PlainScript → List ℕ → List Turn
serial_order script marks = serial_from (40 * length script.lines) 0 marks (opening_show script)
