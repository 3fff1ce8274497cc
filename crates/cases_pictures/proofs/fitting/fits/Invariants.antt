use Rattle.std.proofs.Common.{take}
use Rattle.std.specs.Prelude.{All}
use Rattle.wf_model.specs.Picture.{LayerFits}
use Rattle.cases_pictures.proofs.fitting.fits.Given as goal

-- the layers so far fit
abbrev pub invariant-loop-layer : goal.invariant-loop-layer
invariant-loop-layer l = All (LayerFits l.contents) (take l.layer-index l.layer-items)
