use Rattle.std.proofs.Common.{arith}
use Rattle.std.proofs.lemmas.Bool.Decides.{nat_tests}
use Rattle.wf_host.proofs.NotDeclared.{asked, one_may_not}
use Rattle.wf_host.proofs.declaring.ports_of.Goals as goal

pub returns-then-count-lt1-clause-declares : goal.returns-then-count-lt1-clause-declares
returns-then-count-lt1-clause-declares c =
    grind (arith, nat_tests, asked c.args.count c.args.modes.now c.args.pipes, c.then-count-lt1.branch)

pub returns-in_err-modes_of-clause-declares : goal.returns-in_err-modes_of-clause-declares
returns-in_err-modes_of-clause-declares c =
    grind (arith, nat_tests, asked c.args.count c.args.modes.now c.args.pipes, one_may_not c.args.count c.loop-port.port c.args.modes.now)
