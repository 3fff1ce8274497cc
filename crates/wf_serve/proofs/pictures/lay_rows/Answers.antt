use Rattle.std.proofs.Common.{rules, length}
use Rattle.wf_serve.proofs.Room.{packed}
use Rattle.wf_serve.proofs.pictures.lay_rows.Goals as goal

pub copy_rows-requires-clause-bytes : goal.copy_rows-requires-clause-bytes
copy_rows-requires-clause-bytes c =
    search (rules, packed (length c.bytes.result.now) c.size-size.result.w c.size-size.result.h c.bytes_of_pixel.result)
