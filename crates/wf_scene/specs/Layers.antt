-- Layers, and which rectangles lie inside a source.
use Rattle.std.specs.Prelude.{Bool, false, ◌&&◌, pos, ◌+ℤ◌, int_le, nat_lt}
use Rattle.wf_pixel.specs.declared.Rect.{Rect}
use Rattle.wf_pixel.specs.declared.Size.{Size}
use Rattle.wf_pixel.specs.declared.Rotation.TheVariants.{R0}
use Rattle.wf_scene.specs.declared.Layer.{Layer}
use Rattle.wf_pixel.specs.Choice.{is_coordinate}

abbrev pub nowhere : Rect
nowhere = record { x = pos 0; y = pos 0; w = 0; h = 0 }

-- a layer that shows nothing
abbrev pub no_layer : Layer
no_layer =
    record {
      stream = 0;
      mask = 0;
      src = nowhere;
      dest = nowhere;
      flip = false;
      turn = R0;
      transparency = record { alpha = false; source = false; mask = false };
      alpha = 255;
    }

-- the place of a layer's destination is in the range of coordinates
abbrev pub is_placed_layer : Layer → Bool
is_placed_layer l = is_coordinate l.dest.x && is_coordinate l.dest.y

-- a rectangle with sides of at least 1 that lies inside an image of a size
abbrev pub holds_rect : Size → Rect → Bool
holds_rect size r =
    nat_lt 0 r.w && nat_lt 0 r.h && int_le (pos 0) r.x && int_le (pos 0) r.y
    && int_le (r.x +ℤ pos r.w) (pos size.w) && int_le (r.y +ℤ pos r.h) (pos size.h)
