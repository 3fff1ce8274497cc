-- What an image is once its lent bytes come back.
use Rattle.std.specs.Prelude.{ℕ, List}
use Rattle.std.specs.List.{refill}
use Rattle.std.specs.Borrow.{Lends, MutBor, Fml, Array, u8}
use Rattle.std.specs.Prelude.{length}
use Rattle.wf_image.specs.Bitmap.{Bitmap}
use Rattle.wf_image.specs.contracts.image.Image.{the_row}

-- an image with other bytes, as many as it has
abbrev pub with_bytes : Bitmap → List ℕ → Bitmap
with_bytes image bytes = record image { bytes = refill (length image.bytes) image.bytes bytes }

abbrev pub LendsBytes : MutBor Bitmap → MutBor (List ℕ) → Fml
LendsBytes image r = Lends the_row (Array u8 0) image r (with_bytes image.now)
