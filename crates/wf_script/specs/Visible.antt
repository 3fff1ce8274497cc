-- Names: which client sees which.
use Rattle.std.specs.Prelude.{ℕ, Bool, false, ◌&&◌, ◌||◌, ◌==◌, List, [], ◌∷◌, Option, Some, None}
use Rattle.std.specs.List.{list_all, list_any}
use Rattle.std.specs.Str.{bytes_eq}
use Rattle.wf_script.specs.declared.line.Line.{Line}
use Rattle.wf_script.specs.declared.name.Name.{Name}

abbrev pub is_name_in : Name → Option Name → Bool
is_name_in name None = false
is_name_in name (Some bound) = bytes_eq bound name

-- a line of a client that binds a name
abbrev pub binds_for : ℕ → Name → Line → Bool
binds_for client name l = (l.client == client) && is_name_in name l.name

-- the setup: the lines of client 0 before the first line of another client
abbrev pub is_setup : List Line → Bool
is_setup lines = list_all (λ l. l.client == 0) lines

-- the setup of these lines binds a name
abbrev pub setup_binds : Name → List Line → Bool
setup_binds name [] = false
setup_binds name (l ∷ ls) = (l.client == 0) && (is_name_in name l.name || setup_binds name ls)

-- a client sees the names that the setup or a line of its own binds
abbrev pub is_visible : List Line → ℕ → Name → Bool
is_visible lines client name = setup_binds name lines || list_any (binds_for client name) lines
