-- What an exit status says of what was put, and of a film that was checked.
use Rattle.std.specs.Prelude.{◌≡◌, ℕ, Bool, List, Option}
use Rattle.wf_calls.specs.declared.order.Turn.{Turn}
use Rattle.wf_film.specs.declared.form.FilmForm.{FilmForm}
use Rattle.wf_play.specs.Big.{IsTallied}
use Rattle.wf_play.specs.Check.{IsChecked}
use Rattle.wf_play.specs.Events.{IsLogged}
use Rattle.wf_play.specs.Sessions.{IsServed}
use Rattle.wf_play.specs.Report.{IsPlainFilm, IsPrinted, exit_of}
use Rattle.wf_play.specs.declared.report.Status.{Status}

-- what was put is the plain film, in a form, of the script of the input's bytes, under an order
abbrev pub PutsFilm : {O : Type 0} → (O → List ℕ → Type 0) → (old new : O) → FilmForm → Bool → List ℕ → Type 0
PutsFilm took old new form threads bytes = (order : List Turn) × IsPlainFilm took old new form threads bytes order

-- what was put is the canonical text of the script of the input's bytes, and nothing was played
abbrev pub PutsText : {O : Type 0} → (O → List ℕ → Type 0) → (old new : O) → List ℕ → Type 0
PutsText took old new bytes = (order : List Turn) × IsPrinted took old new bytes order

-- nothing was put, and the exit is that of a status which says what the film behind the script of the input is
abbrev pub ExitsByCheck : {O : Type 0} → (O → List ℕ → Type 0) → (old new : O) → Option (List ℕ) → ℕ → Type 0
ExitsByCheck took old new input exit =
    (status : Status) × (order : List Turn) × ((exit ≡ exit_of status) × IsChecked took old new order input status)

-- the exit is that of a status which says what the film behind the script of the input is, and that its log was put where it is the same
abbrev pub ExitsByLog : {O : Type 0} → (O → List ℕ → Type 0) → (old new : O) → ℕ → Option (List ℕ) → ℕ → Type 0
ExitsByLog took old new depth input exit =
    (status : Status) × (order : List Turn) × ((exit ≡ exit_of status) × IsLogged took old new depth order input status)

-- the exit is that of a status which says what the session was, and which answers to it were put
abbrev pub ExitsBySession : {O : Type 0} → (O → List ℕ → Type 0) → (old new : O) → Option (List ℕ) → ℕ → Type 0
ExitsBySession took old new input exit =
    (status : Status) × (order : List Turn) × ((exit ≡ exit_of status) × IsServed took old new order input status)

-- what was put is the line over the film, in a form, of the script of so many rounds that is made, under an order
abbrev pub PutsLine : {O : Type 0} → (O → List ℕ → Type 0) → (old new : O) → FilmForm → ℕ → Type 0
PutsLine took old new form size = (order : List Turn) × IsTallied took old new form size order
