use Rattle.std.proofs.Common.{arith}
use Rattle.wf_display.proofs.AttributesSet.{stays}
use Rattle.std.proofs.lemmas.Grind.{common_steps}
use Rattle.wf_display.proofs.display.Display.try_commit.Goals as goal

pub returns-in-Some : goal.returns-in-Some
returns-in-Some c = stays _ _ _ _ (grind (arith, common_steps)) c.requires.fits
