use Rattle.std.proofs.Common.{ℕ, ◌+◌, ◌-◌, ◌*◌, ◌/◌, ◌%◌, ◌^◌, length, refl, arith}
use Rattle.wf_io.proofs.Sums.{blocks_and_rest}
use Rattle.wf_io.proofs.tally.sum_with.Goals as goal

pub returns : goal.returns
returns c =
    let count : ℕ = length c.args.bytes.now in
    let at : ℕ = 32 * (count / 32) in
    blocks_and_rest at (count - at) c.args.total c.sum_of_blocks.result ((c.args.total + c.sum_of_blocks.result) % 2 ^ 32)
    c.sum_with_each.result c.args.bytes.now (omega arith) c.sum_of_blocks.ensures refl c.sum_with_each.ensures
