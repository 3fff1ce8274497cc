use Rattle.std.proofs.Common.{◌≡◌, take}
use Rattle.std.specs.List.{list_all}
use Rattle.wf_script.specs.Fields.{names_in}
use Rattle.wf_script.specs.Items.{items_of}
use Rattle.wf_script.specs.Seen.{sees}
use Rattle.wf_script.proofs.seen.Seen.sees.Given as goal

abbrev pub invariant-loop-item : goal.invariant-loop-item
invariant-loop-item l = l.seen ≡ list_all (sees l.fn.self l.fn.client) (names_in (items_of (take l.item-index l.items)))
