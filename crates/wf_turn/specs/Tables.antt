-- What holds of a table of names.
use Rattle.std.specs.Prelude.{◌≤◌, length, vec_capacity}
use Rattle.wf_turn.specs.declared.names.Names.TheInside.{Inside}
use Rattle.wf_turn.specs.Index.{IsIndex, names_of}
use Rattle.wf_script.specs.declared.TheConstants.{MOST_LINES}

-- the names are found, and there is room for a value of each
pub record IsTable (t : Inside) : Type 0 where
  pub index : IsIndex t.index
  pub few : length (names_of t.index) ≤ MOST_LINES
  pub room : length (names_of t.index) ≤ vec_capacity t.values
