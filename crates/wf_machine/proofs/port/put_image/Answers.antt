use Rattle.wf_machine.proofs.Common.{ap, sym, ◌∙◌}
use Rattle.wf_machine.proofs.Places.{away_at, if_here, modes_stay, when_back}
use Rattle.wf_machine.proofs.port.put_image.Goals as goal

pub put_image-requires-clause-some : goal.put_image-requires-clause-some
put_image-requires-clause-some c =
    (if_here _ _ _ c.index_mut.result.now c.requires.within c.requires.shape).0.some

pub put_image-requires-clause-within : goal.put_image-requires-clause-within
put_image-requires-clause-within c =
    rw (sym c.index_mut.ensures.value) at ((if_here _ _ _ c.index_mut.result.now c.requires.within c.requires.shape).0.within)

pub put_image-requires-clause-away : goal.put_image-requires-clause-away
put_image-requires-clause-away c =
    let away = c.requires.away in
    rw (sym c.index_mut.ensures.value) at (away_at away.0 _ _ _ c.requires.within away.1 away.2 c.index_mut.result.now away.3)

pub put_image-requires-clause-shape : goal.put_image-requires-clause-shape
put_image-requires-clause-shape c =
    let here = if_here _ _ _ c.index_mut.result.now c.requires.within c.requires.shape in
    (rw (sym c.index_mut.ensures.value) at here.0.size_is, here.1)

pub returns-clause-modes : goal.returns-clause-modes
returns-clause-modes c =
    modes_stay _ _ _ _ c.requires.within (c.put_image.ensures.modes
    ∙ ap (λ p. p.modes) c.index_mut.ensures.value)

pub returns-clause-there : goal.returns-clause-there
returns-clause-there c =
    let away = c.requires.away in
    when_back away.0 _ _ _ c.requires.within away.1 away.2 _ _ away.3
    (c.put_image.ensures.modes ∙ ap (λ p. p.modes) c.index_mut.ensures.value) c.put_image.ensures.there
