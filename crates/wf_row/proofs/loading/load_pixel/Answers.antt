use Rattle.std.proofs.Common.{w8}
use Rattle.std.proofs.lemmas.Simd.{length-chunk, chunk-fits, below_from_Fits}
use Rattle.std.specs.Simd.Lanes.{chunk}
use Rattle.wf_row.proofs.loading.load_pixel.Goals as goal

pub returns-clause-bytes : goal.returns-clause-bytes
returns-clause-bytes c = record {
  count = length-chunk c.args.at 4 c.args.bytes.now c.requires;
  below = below_from_Fits w8 (chunk c.args.at 4 c.args.bytes.now) (chunk-fits w8 c.args.at 4 c.args.bytes.now c.type_inv.bytes);
}
