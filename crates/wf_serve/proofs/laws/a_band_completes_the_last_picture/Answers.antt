use Rattle.wf_serve.proofs.Pasting.{completes}
use Rattle.wf_serve.proofs.laws.a_band_completes_the_last_picture.Goals as goal

pub returns : goal.returns
returns l row h last next long as_long = completes row last next h long as_long
