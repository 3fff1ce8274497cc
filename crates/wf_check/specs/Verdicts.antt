-- What a check of a film finds, and how its bytes are compared with others as those are made.
use Rattle.std.specs.Prelude.{◌≡◌, ◌≢◌, ℕ, ◌<◌, Bool, true, false, List, ◌∷◌, ◌++◌, length, take, slice_get, Some, Result, IfOk, IsErr}
use Rattle.wf_film.specs.Film.{PlainFilm}
use Rattle.wf_film.specs.Reading.{film_fault}
use Rattle.wf_film.specs.Stands.{Stands}
use Rattle.wf_script.specs.Script.{PlainScript}
use Rattle.wf_turn.specs.Play.{IsComplete, film}
use Rattle.wf_turn.specs.declared.replaying.ReplayStop.{ReplayStop}
use Rattle.wf_turn.specs.declared.replaying.ReplayStop.TheVariants as stop
use Rattle.wf_turn.specs.Replayed.{StopsAt}
use Rattle.wf_check.specs.declared.verdict.Verdict.{Verdict}
use Rattle.wf_check.specs.declared.verdict.Verdict.TheVariants as verdict

-- the film of a script and of a film's own journal, in its own form
abbrev pub own_film : PlainScript → PlainFilm → List ℕ
own_film script f = film f.form script f.order

-- the first place at which two lists differ, or the shorter length
pub record DiffersAt (xs ys : List ℕ) (at : ℕ) : Type 0 where
  pub same : take at xs ≡ take at ys
  pub apart : slice_get xs at ≢ slice_get ys at

-- the bytes are a film, whose journal is a legal and complete order of the script, and the film of that order
pub record IsSame (script : PlainScript) (bytes : List ℕ) : Type 0 where
  pub film : PlainFilm
  pub stands : Stands bytes film
  pub complete : IsComplete script film.order
  pub same : bytes ≡ own_film script film

-- they are a film, whose journal stops at an entry
pub record IsBadOrder (script : PlainScript) (bytes : List ℕ) (entry : ℕ) : Type 0 where
  pub film : PlainFilm
  pub stands : Stands bytes film
  pub stops : StopsAt script film.order entry

-- they are a film, whose journal is a legal and complete order, but not that order's film from a place on
pub record IsDifferent (script : PlainScript) (bytes : List ℕ) (at : ℕ) : Type 0 where
  pub film : PlainFilm
  pub stands : Stands bytes film
  pub complete : IsComplete script film.order
  pub differs : DiffersAt bytes (own_film script film) at

-- what each verdict says of a script and of bytes
abbrev pub Says : PlainScript → List ℕ → Verdict → Type 0
Says script bytes verdict.Same = IsSame script bytes
Says script bytes (verdict.BadFilm at rule) = film_fault bytes ≡ Some (record { at = at; rule = rule })
Says script bytes (verdict.BadOrder entry) = IsBadOrder script bytes entry
Says script bytes (verdict.Differs at) = IsDifferent script bytes at

-- the comparison

-- the bytes of a film, up to where others agree with them, and whether they differ there
pub record Compared : Type 0 where
  pub film : List ℕ
  pub at : ℕ
  pub apart : Bool

-- the film goes on behind the bytes
pub record GoesOn (film bytes : List ℕ) (at : ℕ) : Type 0 where
  pub rest : List ℕ
  pub is : film ≡ bytes ++ rest
  pub length_is : at ≡ length bytes

-- the bytes differ from the film at a place of their own
pub record IsApart (film bytes : List ℕ) (at : ℕ) : Type 0 where
  pub within : at < length bytes
  pub differs : DiffersAt film bytes at

-- these bytes were compared so far
abbrev pub Compares : Compared → List ℕ → Type 0
Compares c bytes = of_apart c.apart
  where
    of_apart : Bool → Type 0
    of_apart true = IsApart c.film bytes c.at
    of_apart false = GoesOn c.film bytes c.at

-- what a comparison was given since it was made: how many bytes the film has, the film, and then the bytes that it compares; so
-- it is told which film that is
pub record Takes (c : Compared) (given : List ℕ) : Type 0 where
  pub bytes : List ℕ
  pub is : given ≡ (length c.film ∷ c.film) ++ bytes
  pub compares : Compares c bytes

-- what is found of a film and the bytes that it is to be
abbrev pub Finds : List ℕ → List ℕ → Verdict → Type 0
Finds film bytes verdict.Same = film ≡ bytes
Finds film bytes (verdict.Differs at) = DiffersAt film bytes at
Finds film bytes (verdict.BadFilm at rule) = ⊥
Finds film bytes (verdict.BadOrder entry) = ⊥

-- what is found where a journal was not played to its end: the entry at which it stops, or no memory
abbrev pub IsFound : {E : Type 0} → ReplayStop → Result Verdict E → Type 0
IsFound (stop.BadEntry entry) found = IfOk found (λ v. v ≡ verdict.BadOrder entry)
IsFound stop.WriteFault found = ⊥
IsFound stop.NoMemory found = IsErr found
