use Rattle.std.proofs.Common.{arith}
use Rattle.wf_display.proofs.AttributesSet.{stays}
use Rattle.std.proofs.lemmas.Grind.{common_steps}
use Rattle.wf_display.proofs.display.Display.try_commit_pipe.Goals as goal

pub returns-in_err-place : goal.returns-in_err-place
returns-in_err-place c = stays _ _ _ _ (grind (arith, common_steps)) c.requires.fits
