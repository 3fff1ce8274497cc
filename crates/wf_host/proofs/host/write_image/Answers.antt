use Rattle.std.proofs.Common.{rules, length}
use Rattle.wf_host.proofs.Packed.{packed}
use Rattle.wf_host.proofs.host.write_image.Goals as goal

pub copy_rows-requires-clause-out : goal.copy_rows-requires-clause-out
copy_rows-requires-clause-out c =
    search (rules, packed (length c.bytes_mut.result.now) c.size-size.result.w c.size-size.result.h c.bytes_of_pixel.result)
