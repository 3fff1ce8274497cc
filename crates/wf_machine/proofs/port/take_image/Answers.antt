use Rattle.wf_machine.proofs.Common.{None, ◌∙◌, ap, sym}
use Rattle.wf_machine.proofs.Places.{fits_at, here, modes_stay, some_here, when_taken}
use Rattle.wf_machine.proofs.port.take_image.Goals as goal

pub take_image-requires-clause-some : goal.take_image-requires-clause-some
take_image-requires-clause-some c =
    (some_here _ _ _ c.index_mut.result.now c.requires.within c.requires.mode).0

pub take_image-requires-clause-within : goal.take_image-requires-clause-within
take_image-requires-clause-within c =
    rw (sym c.index_mut.ensures.value) at ((some_here _ _ _ c.index_mut.result.now c.requires.within c.requires.mode).1)

pub take_image-requires-clause-there : goal.take_image-requires-clause-there
take_image-requires-clause-there c =
    (fits_at None _ _ _ c.requires.within c.index_mut.ensures.value
    c.requires.fit).images

pub returns-clause-shape : goal.returns-clause-shape
returns-clause-shape c =
    here _ _ _ c.index_mut.result.now c.requires.within (rw (sym c.index_mut.ensures.value) c.take_image.ensures.shape)

pub returns-clause-modes : goal.returns-clause-modes
returns-clause-modes c =
    modes_stay _ _ _ _ c.requires.within
    (c.take_image.ensures.modes ∙ ap (λ p. p.modes) c.index_mut.ensures.value)

pub returns-clause-away : goal.returns-clause-away
returns-clause-away c frame is drawn =
    when_taken frame _ _ _ c.requires.within is drawn _ _ c.requires.fit
    (c.take_image.ensures.modes ∙ ap (λ p. p.modes) c.index_mut.ensures.value) c.take_image.ensures.away
