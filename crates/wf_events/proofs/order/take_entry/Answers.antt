use Rattle.std.proofs.Common.{◌∙◌, sym}
use Rattle.wf_events.proofs.TurnsLogged.{entry_taken, marked_alike}
use Rattle.wf_events.proofs.order.take_entry.Goals as goal

pub returns : goal.returns
returns c =
    entry_taken c.args.show.now c.turn.new.self c.args.entry c.in-Some.turn c.from.result _ c.in-Some.field-0-1 c.from.ensures
    (marked_alike _ _ (sym c.lacks_memory.ensures ∙ c.if-lacks_memory.false)) c.in-Some.ensures c.requires.legal
