use Rattle.std.proofs.Common.{arith}
use Rattle.wf_wire.proofs.Firsts.{first_found, first_late, first_none}
use Rattle.wf_wire.proofs.messages.first_of.Goals as goal

pub returns-then-n-eq0-clause-finds : goal.returns-then-n-eq0-clause-finds
returns-then-n-eq0-clause-finds g c =
    first_none _ _ _ _ c.fill.new.into c.in-Ok.ensures.bytes c.if-n-eq0.true (c.in-Ok.ensures.short (omega (arith, c.fill.ensures.size)))

pub returns-then-at-ge-MESSAGES_END-clause-finds : goal.returns-then-at-ge-MESSAGES_END-clause-finds
returns-then-at-ge-MESSAGES_END-clause-finds g c =
    first_late _ _ _ _ _ c.fill.new.into c.in-Ok.ensures.bytes
    (omega (arith, c.fill.ensures.size, c.in-Ok.ensures.within, c.if-n-eq0.false)) c.fill.ensures.size c.if-at-ge-MESSAGES_END.true

pub returns-clause-finds : goal.returns-clause-finds
returns-clause-finds g c =
    first_found _ _ _ _ c.fill.new.into c.in-Ok.ensures.bytes
    (omega (arith, c.fill.ensures.size, c.in-Ok.ensures.within, c.if-n-eq0.false)) c.fill.ensures.size c.if-at-ge-MESSAGES_END.false
