use Rattle.wf_machine.proofs.Common.{arith}
use Rattle.wf_machine.proofs.Images.{as_many, image_put}
use Rattle.wf_machine.proofs.port.Port.put_image.Goals as goal

pub index_mut-requires : goal.index_mut-requires
index_mut-requires c = omega (arith, as_many _ _ _ c.requires.away, c.requires.some, c.requires.within)

pub returns-clause-there : goal.returns-clause-there
returns-clause-there c = image_put _ _ _ c.requires.some c.requires.within _ c.requires.away c.requires.shape
