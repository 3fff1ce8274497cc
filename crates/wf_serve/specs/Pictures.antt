-- How the picture of a port is put, and that it is put where it is another one than the port showed last.
use Rattle.std.specs.Prelude.{ℕ, ◌*◌, ◌==◌, ◌&&◌, Bool, true, false, List, [], ◌∷◌, ◌++◌, length, replicate, Option, Some, None, bytes_eq}
use Rattle.std.specs.Prelude.{if◌then◌else◌}
use Rattle.byteorder.specs.Endian.{big_bytes}
use Rattle.wf_pixel.specs.Choice.{same_format, same_size}
use Rattle.wf_image.specs.Bitmap.{Bitmap}
use Rattle.wf_calls.specs.declared.call.Job.{Job}
use Rattle.wf_guard.specs.declared.form.Form.{Form}
use Rattle.wf_guard.specs.declared.form.Form.TheVariants as form
use Rattle.wf_guard.specs.declared.screen.Screen.{Screen}
use Rattle.wf_host.specs.Reading.{row_bytes}
use Rattle.wf_host.specs.Rows.{copied, stands}
use Rattle.wf_host.specs.declared.order.Order.TheVariants as order
use Rattle.wf_serve.specs.Bands.{band_in, band_of}
use Rattle.wf_serve.specs.declared.bands.Band.{Band}

-- what stands before the pixels: a letter, the port, the tick and the sides
abbrev pub head_bytes : ℕ → ℕ → ℕ → Bitmap → List ℕ
head_bytes letter tick port image = letter ∷ port ∷ big_bytes 4 tick ++ big_bytes 2 image.size.w ++ big_bytes 2 image.size.h

-- a frame of a film
abbrev pub film_bytes : ℕ → ℕ → Bitmap → List ℕ
film_bytes tick port image = head_bytes 70 tick port image ++ image.bytes

-- the rows that are others than in these bytes of the last picture, with the number of the first and how many there are
abbrev pub band_bytes : ℕ → ℕ → Bitmap → List ℕ → List ℕ
band_bytes tick port image last =
    let b : Band = band_of (row_bytes image) image.size.h last image.bytes in
    head_bytes 66 tick port image ++ ((big_bytes 2 b.first ++ big_bytes 2 b.count) ++ band_in (row_bytes image) b image.bytes)

-- the bytes of the last picture, where one was put that has as many and the same sides
abbrev pub last_of : Bitmap → Screen → Option (List ℕ)
last_of image last =
    if last.is_put && (same_size last.image.size image.size && (length last.image.bytes == length image.bytes))
    then Some last.image.bytes else None

-- the whole picture where there are none
abbrev pub band_or_whole : ℕ → ℕ → Bitmap → Option (List ℕ) → List ℕ
band_or_whole tick port image None = film_bytes tick port image
band_or_whole tick port image (Some last) = band_bytes tick port image last

-- rows for a framebuffer, with zeros after the pixels of each; none where the pixels of a row take more bytes than it has
abbrev pub rows_bytes : ℕ → Bitmap → List ℕ
rows_bytes stride image =
    let room : ℕ = stride * image.size.h in
    if stands room stride (row_bytes image) image.size.h
    then copied order.Bgra stride (row_bytes image) (row_bytes image) image.size.h image.bytes (replicate room 0)
    else []

-- a picture, as it is put on a port that showed this last
abbrev pub frame_bytes : Form → ℕ → ℕ → Bitmap → Screen → List ℕ
frame_bytes form.Film tick port image last = film_bytes tick port image
frame_bytes form.Bands tick port image last = band_or_whole tick port image (last_of image last)
frame_bytes (form.Rows stride) tick port image last = if port == 1 then rows_bytes stride image else []

-- a port that showed this last shows the picture already
abbrev pub shows : Bitmap → Screen → Bool
shows image last = last.is_put && (same_size last.image.size image.size && bytes_eq last.image.bytes image.bytes)

-- what is put of a frame: its picture, where it is another one than the port showed last
abbrev pub shown_bytes : Form → ℕ → ℕ → Option Job → Screen → List ℕ
shown_bytes f tick port None last = []
shown_bytes f tick port (Some job) last = if shows job.image last then [] else frame_bytes f tick port job.image last

-- there is room for the picture
abbrev pub has_room : Bitmap → Screen → Bool
has_room image last = same_size last.image.size image.size && same_format last.image.format image.format

abbrev pub forgotten : Screen → Screen
forgotten last = record last { is_put = false }

-- what the port shows once a picture was put: a picture of another mode than the first has no room, so it is put at each tick
abbrev pub kept : Bitmap → Screen → Screen
kept image last = if has_room image last then record { image = image; is_put = true } else forgotten last

abbrev pub shown_now : Option Job → Screen → Screen
shown_now None last = last
shown_now (Some job) last = if shows job.image last then last else kept job.image last
