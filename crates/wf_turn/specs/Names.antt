-- Names with their values.
use Rattle.std.specs.Prelude.{ℕ, ◌==◌, List, [], ◌∷◌, zip, find, filter_map, Option, Some, None, option_map}
use Rattle.std.specs.Prelude.{if◌then◌else◌}
use Rattle.std.specs.Str.{bytes_eq}
use Rattle.wf_script.specs.declared.line.Line.{Line}
use Rattle.wf_script.specs.declared.name.Name.{Name}
use Rattle.wf_script.specs.Verbs.{creates}

-- the name that a line binds
abbrev pub bound_name : Line → Option Name
bound_name l = if creates l.verb then l.name else None

-- the name that a line binds, if it is a client's
abbrev pub bound_by : ℕ → Line → Option Name
bound_by client l = if l.client == client then bound_name l else None

-- the names that the lines of a client bind
abbrev pub bound_names : ℕ → List Line → List Name
bound_names client lines = filter_map (bound_by client) lines

-- names in the order in which they are bound, and the values of the first of them
pub record Table : Type 0 where
  pub names : List Name
  pub values : List ℕ

-- the names that have a value
abbrev pub known : Table → List (Name × ℕ)
known t = zip t.names t.values

-- the value under which a name stands first
abbrev pub value_of : Name → List (Name × ℕ) → Option ℕ
value_of name rows = option_map (λ row. row.1) (find (λ row. bytes_eq row.0 name) rows)

-- the value of the name that a line binds, if there is one
abbrev pub bound_value : Option Name → ℕ → List ℕ
bound_value None v = []
bound_value (Some name) v = v ∷ []
