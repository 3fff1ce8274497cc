-- What is read of a picture, and written into a write buffer.
use Rattle.std.specs.Prelude.{◌≡◌, ℕ, ◌==◌, ◌*◌, Bool, true, false, List, length, Option, Some, None, if◌then◌else◌}
use Rattle.wf_image.specs.Bitmap.{Bitmap, pixel_bytes}
use Rattle.wf_calls.specs.declared.call.Job.{Job}
use Rattle.wf_image.specs.declared.canvas.Canvas.{Canvas}
use Rattle.wf_host.specs.Held.{adding, canvas_of, without}
use Rattle.wf_calls.specs.declared.call.Call.TheVariants as call
use Rattle.wf_host.specs.declared.order.Order.{Order}
use Rattle.wf_host.specs.declared.order.Order.TheVariants as order
use Rattle.wf_host.specs.declared.told.Told.{Told}
use Rattle.wf_host.specs.Made.{AsksCanvas, Gives, Hosted, not_made}
use Rattle.wf_host.specs.Rows.{copied, stands}

-- the bytes of a row of an image
abbrev pub row_bytes : Bitmap → ℕ
row_bytes image = image.size.w * pixel_bytes image.format

-- the rows of an image are copied in an order of their bytes, where they have room
abbrev pub CopiesRows : Bitmap → ℕ → Order → List ℕ → List ℕ → Bool → Type 0
CopiesRows image stride o old new done =
    (done ≡ stands (length old) stride (row_bytes image) image.size.h)
    × (new ≡ (if stands (length old) stride (row_bytes image) image.size.h
    then copied o stride (row_bytes image) (row_bytes image) image.size.h image.bytes old
    else old))

-- those of the picture of a frame that is held
abbrev pub Reads : Option Job → ℕ → Order → List ℕ → List ℕ → Bool → Type 0
Reads None stride o old new done = (done ≡ false) × (new ≡ old)
Reads (Some job) stride o old new done = CopiesRows job.image stride o old new done

-- pixels are the rows of an image
abbrev pub are_rows : ℕ → List ℕ → Bitmap → Bool
are_rows stride pixels image = stands (length pixels) stride (row_bytes image) image.size.h

-- the image with them, where they are
abbrev pub written : ℕ → List ℕ → Bitmap → Bitmap
written stride pixels image =
    if are_rows stride pixels image
    then record image { bytes = copied order.Rgba (row_bytes image) stride (row_bytes image) image.size.h pixels image.bytes }
    else image

-- pixels are written into the canvas of a stream, where it is held, and nothing else changes
abbrev pub WritesOne : Option Canvas → ℕ → List ℕ → ℕ → Hosted → Hosted → Bool → Type 0
WritesOne None stream pixels stride old new done = (done ≡ false) × (new ≡ old)
WritesOne (Some canvas) stream pixels stride old new done =
    let now : Canvas = record canvas { image = written stride pixels canvas.image } in
    (done ≡ are_rows stride pixels canvas.image)
    × (new ≡ record old { canvases = adding stream (Some now) (without stream old.canvases) })

abbrev pub Writes : ℕ → List ℕ → ℕ → Hosted → Hosted → Bool → Type 0
Writes stream pixels stride old new done = WritesOne (canvas_of stream old.canvases) stream pixels stride old new done

-- a canvas that was written is posted, and one that was not is discarded
abbrev pub GivesFilled : Bool → ℕ → ℕ → Hosted → Hosted → Told → Type 0
GivesFilled true client stream old new t = Gives client call.Post stream old new t
GivesFilled false client stream old new t = (u : Told) × Gives client call.Discard stream old new u × (t ≡ not_made)

-- pixels are written into a canvas that is held, and it is posted; or it is discarded, where they are not its rows
pub record Fills (client stream : ℕ) (pixels : List ℕ) (stride : ℕ) (old new : Hosted) (t : Told) : Type 0 where
  pub filled : Hosted
  pub done : Bool
  pub writes : Writes stream pixels stride old filled done
  pub gives : GivesFilled done client stream filled new t

-- a write buffer that was given is filled
abbrev pub GoesOn : Bool → ℕ → ℕ → List ℕ → ℕ → Hosted → Hosted → Told → Told → Type 0
GoesOn true client stream pixels stride old new first t = Fills client stream pixels stride old new t
GoesOn false client stream pixels stride old new first t = (new ≡ old) × (t ≡ first)

-- a write buffer is taken, filled and posted; or it is not given
pub record Submits (client stream : ℕ) (pixels : List ℕ) (stride : ℕ) (old new : Hosted) (t : Told) : Type 0 where
  pub taken : Hosted
  pub first : Told
  pub acquired : AsksCanvas client stream old taken first
  pub rest : GoesOn (first.code == 0) client stream pixels stride taken new first t
