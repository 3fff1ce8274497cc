-- What ports show before the first tick.
use Rattle.std.specs.Prelude.{false, nat_le, ◌&&◌, List, length, get_or, if◌then◌else◌}
use Rattle.wf_pixel.specs.Choice.{has_sides}
use Rattle.wf_pixel.specs.declared.Format.TheVariants.{Rgba8Pre}
use Rattle.wf_pixel.specs.declared.Size.{Size}
use Rattle.wf_image.specs.Bitmap.{blank}
use Rattle.wf_calls.specs.declared.ports.Modes.{Modes}
use Rattle.wf_guard.specs.declared.screen.Screen.{Screen}

abbrev pub one_pixel : Size
one_pixel = record { w = 1; h = 1 }

-- the size of the first mode
abbrev pub first_size : List Size → Size
first_size sizes =
    if nat_le 1 (length sizes) && has_sides (get_or sizes 0 one_pixel) then get_or sizes 0 one_pixel else one_pixel

-- room for a picture of that size, and none was put
abbrev pub screen_of : Modes → Screen
screen_of modes = record { image = blank (first_size modes.sizes.items) Rgba8Pre; is_put = false }
