use Rattle.std.proofs.Common.{rules, length}
use Rattle.wf_image.specs.Bitmap.{pixel_bytes}
use Rattle.wf_serve.proofs.Room.{rows_fit}
use Rattle.wf_serve.proofs.changes.changed_band.Goals as goal

pub band_of-requires-clause-last : goal.band_of-requires-clause-last
band_of-requires-clause-last c =
    search (
      rules,
      rows_fit (length c.args.last.now) c.args.image.now.size.h c.args.image.now.size.w c.args.image.now.size.h
          (pixel_bytes c.args.image.now.format),
    )

pub band_of-requires-clause-next : goal.band_of-requires-clause-next
band_of-requires-clause-next c =
    search (
      rules,
      rows_fit (length c.bytes.result.now) c.args.image.now.size.h c.args.image.now.size.w c.args.image.now.size.h
          (pixel_bytes c.args.image.now.format),
    )
