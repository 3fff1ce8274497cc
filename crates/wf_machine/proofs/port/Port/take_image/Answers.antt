use Rattle.wf_machine.proofs.Common.{◌-◌, sym, subst, ◌∙◌, arith, slice_set, mode_size, HoldsBut, IsFrameImage}
use Rattle.wf_machine.proofs.Images.{as_many, image_taken, image_there}
use Rattle.wf_machine.proofs.port.Port.take_image.Goals as goal

pub index_mut-requires : goal.index_mut-requires
index_mut-requires c = omega (arith, as_many 0 _ _ c.requires.there, c.requires.some, c.requires.within)

pub unreachable-requires : goal.unreachable-requires
unreachable-requires c =
    let is = image_there _ _ _ c.requires.some c.requires.within _ c.requires.there c.index_mut.ensures.value in
    rw (sym c.take.ensures.value ∙ c.in-None.is) at is

pub returns-clause-shape : goal.returns-clause-shape
returns-clause-shape c =
    let is = image_there _ _ _ c.requires.some c.requires.within _ c.requires.there c.index_mut.ensures.value in
    subst (λ o. IsFrameImage (mode_size c.args.mode c.args.self.now.modes.items) o) (sym c.take.ensures.value ∙ c.in-Some.is) is

pub returns-clause-away : goal.returns-clause-away
returns-clause-away c =
    subst (λ o. HoldsBut c.args.mode c.args.self.now.modes.items (slice_set c.args.self.now.images.items (c.args.mode - 1) o))
    (sym c.take.ensures.after) (image_taken _ _ _ c.requires.some c.requires.within c.requires.there)
