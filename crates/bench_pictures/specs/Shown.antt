-- Layers that show parts of one image.
use Rattle.std.specs.Prelude.{◌≡◌, ◌≤ℤ◌, ℕ, pos, IsTrue}
use Rattle.wf_pixel.specs.declared.Size.{Size}
use Rattle.wf_pixel.specs.Place.{size_of, IsDrawn}
use Rattle.wf_scene.specs.declared.Layer.{Layer}
use Rattle.wf_scene.specs.Layers.{holds_rect}

-- the layer shows a part of stream 1, which has so many pixels a side; where it has a mask, that is stream 2, of this size
pub record IsShown (size : Size) (side : ℕ) (l : Layer) : Type 0 where
  pub stream : l.stream ≡ 1
  pub mask : IsTrue l.transparency.mask → l.mask ≡ 2
  pub whole : IsTrue l.transparency.mask → size ≡ size_of l.dest
  pub src : IsDrawn l.src
  pub dest : IsDrawn l.dest
  pub src_x : pos 0 ≤ℤ l.src.x
  pub src_y : pos 0 ≤ℤ l.src.y
  pub holds : IsTrue (holds_rect (record { w = side; h = side }) l.src)
