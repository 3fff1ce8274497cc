use Rattle.std.proofs.Common.{w8, replicate}
use Rattle.std.specs.Simd.Lanes.{chunk}
use Rattle.std.proofs.lemmas.Simd.{dot4_Fits, length-chunk, chunk-fits}
use Rattle.wf_io.proofs.Sums.{fours_count, fours_sum}
use Rattle.wf_io.proofs.lanes.fours.Goals as goal

pub dot4 : goal.dot4
dot4 c =
    let at = c.args.at in
    let bytes = c.args.bytes.now in
    (dot4_Fits (chunk at 32 bytes) (replicate 32 1) (chunk-fits w8 at 32 bytes c.type_inv.bytes) tt, tt)

pub returns-clause-count : goal.returns-clause-count
returns-clause-count c =
    fours_count (chunk c.args.at 32 c.args.bytes.now) (length-chunk c.args.at 32 c.args.bytes.now c.requires)

pub returns-clause-sum : goal.returns-clause-sum
returns-clause-sum c =
    fours_sum (chunk c.args.at 32 c.args.bytes.now) (length-chunk c.args.at 32 c.args.bytes.now c.requires)
