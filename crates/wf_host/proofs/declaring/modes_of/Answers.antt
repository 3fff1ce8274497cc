use Rattle.std.proofs.Common.{◌∙◌, arith, sym, ap, length}
use Rattle.wf_host.proofs.NotDeclared.{fifth, sideless}
use Rattle.wf_host.proofs.declaring.modes_of.Goals as goal

pub returns-then-len-eq4-clause-none : goal.returns-then-len-eq4-clause-none
returns-then-len-eq4-clause-none c =
    fifth c.args.port c.args.modes.now c.loop-mode.mode-index _ c.loop-mode-test.true c.if-mode-port.true
    (sym (ap length c.loop-mode.invariant.0) ∙ omega (arith, c.if-len-eq4.true, c.len.ensures.value))

pub returns-then-not-has_sides-clause-none : goal.returns-then-not-has_sides-clause-none
returns-then-not-has_sides-clause-none c =
    sideless c.args.port c.args.modes.now c.loop-mode.mode-index _ c.loop-mode-test.true c.if-mode-port.true
    (sym c.has_sides.ensures ∙ c.if-not-has_sides.true)
