use Rattle.wf_machine.proofs.Common.{◌≡◌, ◌++◌, length, brought_home, Images}
use Rattle.wf_machine.proofs.latching.bring_home.Given as goal

-- the images behind those that are left came home
abbrev pub invariant-loop-number : goal.invariant-loop-number
invariant-loop-number l =
    (home : Images) × (l.initial.contents ≡ l.contents ++ home)
    × (l.store ≡ record l.initial.store { streams = brought_home home l.initial.store.streams })

abbrev pub decreases-loop-number : goal.decreases-loop-number
decreases-loop-number l = length l.contents
