use Rattle.std.proofs.Common.{◌∙◌}
use Rattle.std.proofs.lemmas.List.{length-take-le}
use Rattle.wf_wire.proofs.Numbers.{number_in_front, number_stops}
use Rattle.wf_wire.proofs.fields.number_of.Goals as goal

pub returns-in-Ok-clause-finds : goal.returns-in-Ok-clause-finds
returns-in-Ok-clause-finds g c =
    number_in_front _ _ _ _ _ _ c.fill_field.new.into _ (c.fill_field.ensures.size ∙ length-take-le c.args.width _ c.requires.eight)
    c.read_uint.ensures c.in-Ok.ensures.field

pub returns-in-Err-clause-finds : goal.returns-in-Err-clause-finds
returns-in-Err-clause-finds g c =
    number_stops _ _ _ _ _ c.fill_field.new.into _ (c.fill_field.ensures.size ∙ length-take-le c.args.width _ c.requires.eight)
    c.in-Err.ensures.field
