-- Latching the streams of a scene one by one, and bringing images home one by one.
use Rattle.std.specs.Prelude.{◌≡◌, ◌≢◌, ℕ, List, [], ◌∷◌, ◌++◌, map, None, is_some, IfSome, IsSomeAnd, IsTrue, option_to_list}
use Rattle.std.specs.Prelude.{if◌then◌else◌}
use Rattle.wf_image.specs.declared.canvas.Canvas.{Canvas}
use Rattle.wf_image.specs.Bitmap.{Bitmap}
use Rattle.wf_image.specs.Contents.{image_of}
use Rattle.wf_stream.specs.Buffers.{HasShape, away, latched}
use Rattle.wf_stream.specs.Streams.{KeptStream, buffers_at, change_stream, stream_at}
use Rattle.wf_model.specs.Picture.{Images}
use Rattle.wf_model.specs.Frames.{next_image_of}

-- the images so far with the next one of a stream, where it has one that is not among them
abbrev pub with_next_image : ℕ → List KeptStream → Images → Images
with_next_image n streams contents =
    if is_some (image_of n contents) then contents
    else contents ++ map (λ image. (n, image)) (option_to_list (next_image_of (stream_at n streams)))

-- the streams after that: the next image of the stream went away
abbrev pub without_next_image : ℕ → Images → List KeptStream → List KeptStream
without_next_image n contents streams = if is_some (image_of n contents) then streams else change_stream n latched streams

-- the stream of a number, if it is kept, has its read image at home
abbrev pub IsAtHome : ℕ → List KeptStream → Type 0
IsAtHome n streams = IfSome (buffers_at n streams) (λ s. s.read ≢ away)

-- the stream of a number is kept, and its images are of this image's size and format
abbrev pub IsShapedAs : ℕ → List KeptStream → Bitmap → Type 0
IsShapedAs n streams image = IsSomeAnd (buffers_at n streams) (λ s. HasShape s.size s.format image)

-- each of these images has the size and the format of its stream, which is kept
abbrev pub AreShapedAs : List KeptStream → Images → Type 0
AreShapedAs streams [] = Unit {0}
AreShapedAs streams (pair ∷ contents) = IsShapedAs pair.0 streams pair.1 × AreShapedAs streams contents

-- no stream has its read image away
abbrev pub AreAtHome : List KeptStream → Type 0
AreAtHome [] = Unit {0}
AreAtHome (s ∷ streams) = (s.buffers.read ≢ away) × AreAtHome streams

-- the stream of a number, if it is kept, waits for an image of this size and format
abbrev pub Awaits : List KeptStream → ℕ × Bitmap → Type 0
Awaits streams pair = IfSome (buffers_at pair.0 streams) (λ s. (s.read ≡ away) × HasShape s.size s.format pair.1)

-- each stream once, and each waits for its image
abbrev pub AreAwaited : List KeptStream → Images → Type 0
AreAwaited streams [] = Unit {0}
AreAwaited streams (pair ∷ contents) = Awaits streams pair × (image_of pair.0 contents ≡ None) × AreAwaited streams contents

-- the stream of a canvas, if it is kept, has this write buffer out
abbrev pub IsOutFrom : List KeptStream → Canvas → Type 0
IsOutFrom streams canvas = IfSome (buffers_at canvas.stream streams) (λ s. IsTrue s.out × HasShape s.size s.format canvas.image)
