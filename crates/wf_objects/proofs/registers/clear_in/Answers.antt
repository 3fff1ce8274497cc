use Rattle.std.proofs.Common.{arith, if◌then◌else◌, ◌==◌, None, ap, ◌∙◌}
use Rattle.wf_model.specs.Objects.{Device}
use Rattle.wf_words.specs.Places.{map_step}
use Rattle.wf_objects.proofs.registers.clear_in.Goals as goal

pub loop-place-preserved : goal.loop-place-preserved
loop-place-preserved c =
    let changed : Device → Device = λ x. if x.handle == c.args.handle then record x { register = None } else x in
    map_step changed _ c.loop-place.devices c.loop-place.place _ _ (omega arith)
    c.loop-place.invariant (c.cleared.ensures ∙ ap changed c.index-devices-place.is)
