use Rattle.std.proofs.Common.{◌≡◌, ◌≤◌, true, length, take}
use Rattle.std.specs.List.{list_all}
use Rattle.wf_pixel.specs.Choice.{has_sides}
use Rattle.wf_host.specs.PortsOf.{sizes_of}
use Rattle.wf_host.proofs.declaring.modes_of.Given as goal

abbrev pub invariant-loop-mode : goal.invariant-loop-mode
invariant-loop-mode l = (l.sizes.items ≡ sizes_of l.port (take l.mode-index l.modes)) × (length l.sizes.items ≤ 4)
    × (list_all has_sides l.sizes.items ≡ true)
