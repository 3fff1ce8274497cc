use Rattle.std.proofs.Common.{rules, ◌+◌, length}
use Rattle.wf_image.specs.Bitmap.{pixel_bytes}
use Rattle.wf_serve.proofs.Room.{rows_fit}
use Rattle.wf_serve.proofs.changes.rows_in.Goals as goal

pub rows_of-requires : goal.rows_of-requires
rows_of-requires c =
    search (
      rules,
      rows_fit (length c.bytes.result.now) (c.args.band.now.first + c.args.band.now.count) c.args.image.now.size.w
          c.args.image.now.size.h (pixel_bytes c.args.image.now.format),
    )
