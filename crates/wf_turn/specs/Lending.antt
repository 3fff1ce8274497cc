-- What a program is once a lent Job comes back: it holds the Job as the borrower leaves it, and that counts as painted.
use Rattle.std.specs.Prelude.{false, [], Option, Some}
use Rattle.std.specs.Borrow.{LendsIf, Fml, MutBor}
use mir.Syntax.{named}
use Rattle.wf_calls.specs.declared.call.Job.{Job}
use Rattle.wf_calls.specs.contracts.call.Job as job
use Rattle.wf_turn.specs.Program.{Program}
use Rattle.wf_turn.specs.contracts.program.Program as program

abbrev pub with_job : Program → Job → Program
with_job p job = record p { job = Some job; unpainted = false }

-- without one it is the same program, in which nothing is left to paint
abbrev pub lends_job : MutBor Program → Option (MutBor Job) → Fml
lends_job p r =
    LendsIf (program.the_row (record { mir = named 1; lft = [] })) job.the_row p r (with_job p.now) (record p.now { unpainted = false })
