use Rattle.std.proofs.Common.{◌≡◌, ◌≤◌, ◌++◌, true, Some, drop, length, vec_len, vec_capacity}
use Rattle.wf_desk.specs.declared.view.Stage.TheVariants.{Idle}
use Rattle.wf_desk.specs.Pass.{fresh}
use Rattle.wf_desk.proofs.board.Board.deal_all.Given as goal

abbrev pub invariant-loop-i : goal.invariant-loop-i
invariant-loop-i g l = (l.root.table_id ≡ l.self.table.shared.table_id) × (l.root.me.0.stage ≡ Idle) × (l.root.me.0.root ≡ true)
    × (l.root.me.0.key ≡ Some l.key)
    × (l.root.me.0.quotas ≡ drop l.i l.key.quotas.items) × (l.root.me.0.next ≡ l.i) × (l.client ≡ l.i)
    × (vec_len l.passes ≡ l.i) × (length l.key.quotas.items ≤ vec_capacity l.passes)
    × (l.passes.items ++ fresh l.self.table.shared.table_id l.key.opening.value l.i (drop l.i l.key.quotas.items)
    ≡ fresh l.self.table.shared.table_id l.key.opening.value 0 l.key.quotas.items)
