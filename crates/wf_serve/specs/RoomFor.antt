-- How much room the rows of a picture may take.
use Rattle.std.specs.Prelude.{ℕ, ◌*◌}
use Rattle.wf_guard.specs.declared.form.Form.{Form}
use Rattle.wf_guard.specs.declared.form.Form.TheVariants as form
use Rattle.wf_pixel.specs.declared.TheConstants.{MOST_SIDE}

abbrev pub room_for : Form → ℕ
room_for form.Film = 0
room_for form.Bands = 0
room_for (form.Rows stride) = stride * MOST_SIDE
