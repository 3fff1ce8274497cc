-- The programs of the eight clients of a script, as they are kept: the clock's, and then the others.
use Rattle.std.specs.Prelude.{List, ◌∷◌}
use Rattle.wf_turn.specs.declared.cast.Cast.TheInside.{Inside}
use Rattle.wf_turn.specs.Program.{Program}

-- as they are seen: one list, by their clients
abbrev pub programs_of : Inside → List Program
programs_of c = c.clock ∷ c.others.items
