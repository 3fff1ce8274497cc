-- The ports that a list of modes declares.
use Rattle.std.specs.List.{list_all}
use Rattle.std.specs.Prelude.{ℕ, zero, suc, ◌==◌, ◌&&◌, nat_le, Bool, List, [], ◌∷◌, ◌++◌, filter, map}
use Rattle.wf_calls.specs.PortRules.{may_declare}
use Rattle.wf_pixel.specs.declared.Size.{Size}
use Rattle.wf_calls.specs.declared.ports.Modes.{Modes}
use Rattle.wf_calls.specs.declared.ports.Ports.{Ports}
use Rattle.wf_host.specs.declared.declaring.Mode.{Mode}

-- the modes of a port, in their order
abbrev pub sizes_of : ℕ → List Mode → List Size
sizes_of port modes = map (λ m. record { w = m.w; h = m.h }) (filter (λ m. m.port == port) modes)

abbrev pub modes_of : ℕ → List Mode → Modes
modes_of port modes = record { sizes = record { items = sizes_of port modes } }

-- the ports up to one
abbrev pub ports_to : ℕ → List Mode → List Modes
ports_to zero modes = []
ports_to (suc n) modes = ports_to n modes ++ modes_of (suc n) modes ∷ []

abbrev pub ports_of : ℕ → List Mode → ℕ → Ports
ports_of count modes pipes = record { modes = record { items = ports_to count modes }; pipes = pipes }

-- each mode is of one of the ports, from 1 on
abbrev pub are_of : ℕ → List Mode → Bool
are_of count modes = list_all (λ m. nat_le 1 m.port && nat_le m.port count) modes

-- modes and pipelines that declare ports
abbrev pub declares : ℕ → List Mode → ℕ → Bool
declares count modes pipes = are_of count modes && may_declare (ports_of count modes pipes)
