use Rattle.std.proofs.Common.{◌∙◌, ap, arith, length}
use Rattle.wf_image.specs.Bitmap.{pixel_bytes}
use Rattle.wf_serve.proofs.Rectangles.{image_stands, pixels_stand, place_fits, place_within}
use Rattle.wf_serve.proofs.pixels.put_in.Goals as goal

pub overflow_add-at : goal.overflow_add-at
overflow_add-at c =
    omega (
      arith,
      place_fits c.args.image.now c.args.r.now (length c.args.pixels.now) c.size-size.result c.bytes_of_pixel-bytes.result
          c.requires c.size-size.ensures.size (c.bytes_of_pixel-bytes.ensures ∙ ap pixel_bytes c.format.ensures) c.size-size.ensures.sides,
    )

pub put_rows-requires-clause-at : goal.put_rows-requires-clause-at
put_rows-requires-clause-at c =
    place_within c.args.image.now c.args.r.now (length c.args.pixels.now) c.size-size.result c.bytes_of_pixel-bytes.result c.requires
    c.size-size.ensures.size (c.bytes_of_pixel-bytes.ensures ∙ ap pixel_bytes c.format.ensures) (length c.bytes_mut.result.now)
    c.bytes_mut.ensures.len

pub put_rows-requires-clause-bytes : goal.put_rows-requires-clause-bytes
put_rows-requires-clause-bytes c =
    image_stands c.args.image.now c.args.r.now (length c.args.pixels.now) c.size-size.result c.bytes_of_pixel-bytes.result c.requires
    c.size-size.ensures.size (c.bytes_of_pixel-bytes.ensures ∙ ap pixel_bytes c.format.ensures) (length c.bytes_mut.result.now)
    c.bytes_mut.ensures.len

pub put_rows-requires-clause-pixels : goal.put_rows-requires-clause-pixels
put_rows-requires-clause-pixels c =
    pixels_stand c.args.image.now c.args.r.now (length c.args.pixels.now) c.size-size.result c.bytes_of_pixel-bytes.result c.requires
    c.size-size.ensures.size (c.bytes_of_pixel-bytes.ensures ∙ ap pixel_bytes c.format.ensures)
