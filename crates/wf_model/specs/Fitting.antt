-- When a layer fits the streams that are kept.
use Rattle.std.specs.Prelude.{◌≡◌, ℕ, true, false, List, IfSome, IsSomeAnd, IsTrue}
use Rattle.wf_pixel.specs.Choice.{has_sides, is_a8}
use Rattle.wf_pixel.specs.Place.{size_of}
use Rattle.wf_stream.specs.Streams.{KeptStream, buffers_at}
use Rattle.wf_scene.specs.declared.Layer.{Layer}
use Rattle.wf_scene.specs.Layers.{holds_rect, is_placed_layer}

-- a layer shows a part of a stream of pixels, at a place in the range of coordinates, through a mask of the
-- destination's size where one applies
pub record LayerFits (streams : List KeptStream) (l : Layer) : Type 0 where
  pub source : IsSomeAnd (buffers_at l.stream streams) (λ b. (is_a8 b.format ≡ false) × IsTrue (holds_rect b.size l.src))
  pub dest : IsTrue (has_sides (size_of l.dest))
  pub place : IsTrue (is_placed_layer l)
  pub mask : IsTrue l.transparency.mask → IsSomeAnd (buffers_at l.mask streams) (λ b. (is_a8 b.format ≡ true) × (b.size ≡ size_of l.dest))
  pub unmasked : l.transparency.mask ≡ false → l.mask ≡ 0

-- a stream, if it is kept, is one of pixels
abbrev pub IsOfPixels : List KeptStream → ℕ → Type 0
IsOfPixels streams n = IfSome (buffers_at n streams) (λ b. is_a8 b.format ≡ false)
