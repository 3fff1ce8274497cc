-- Which ports a script may declare.
use Rattle.std.specs.Prelude.{Bool, ◌&&◌, nat_le, length}
use Rattle.std.specs.List.{list_all}
use Rattle.wf_pixel.specs.Choice.{has_sides}
use Rattle.wf_calls.specs.declared.ports.Modes.{Modes}
use Rattle.wf_calls.specs.declared.ports.Ports.{Ports}
use Rattle.wf_calls.specs.declared.TheConstants.{MOST_PIPELINES}

-- 1 to 4 modes, whose sides are in their range
abbrev pub may_have : Modes → Bool
may_have m =
    nat_le 1 (length m.sizes.items) && nat_le (length m.sizes.items) 4 && list_all has_sides m.sizes.items

-- 1 to 4 such ports, and pipelines up to the most
abbrev pub may_declare : Ports → Bool
may_declare ports =
    nat_le 1 (length ports.modes.items) && nat_le (length ports.modes.items) 4
    && list_all may_have ports.modes.items && nat_le ports.pipes MOST_PIPELINES
