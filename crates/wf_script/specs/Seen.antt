-- What the reader of scripts knows of the names that are bound so far.
use Rattle.std.specs.Prelude.{◌≡◌, ℕ, ◌<◌, Bool, false, List, slice_index_or, Option, Some, None}
use Rattle.wf_names.specs.Keys.{told}
use Rattle.wf_script.specs.declared.line.Line.{Line}
use Rattle.wf_script.specs.declared.name.Name.{Name}
use Rattle.wf_script.specs.declared.seen.Seen as declared
use Rattle.wf_script.specs.Visible.{is_setup, is_visible}

abbrev pub is_among : ℕ → Option (List Bool) → Bool
is_among client None = false
is_among client (Some clients) = slice_index_or clients client false

-- the clients that see a name, where there is such a name
abbrev pub clients_of : declared.Seen → Name → Option (List Bool)
clients_of seen name = told seen.clients name

-- whether a client sees a name
abbrev pub sees : declared.Seen → ℕ → Name → Bool
sees seen client name = is_among client (clients_of seen name)

-- what it knows is right for these lines
pub record SeesAll (seen : declared.Seen) (lines : List Line) : Type 0 where
  pub setup : seen.in_setup ≡ is_setup lines
  pub visible : (client : ℕ) (name : Name) → client < 8 → sees seen client name ≡ is_visible lines client name
