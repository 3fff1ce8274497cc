-- What a place is once its lent Job comes back.
use Rattle.std.specs.Borrow.{Lends, MutBor, Fml}
use Rattle.wf_calls.specs.declared.call.Job.{Job}
use Rattle.wf_calls.specs.contracts.call.Job as job
use Rattle.wf_calls.specs.contracts.place.JobPlace as place
use Rattle.wf_calls.specs.Places.{Place}

abbrev pub with_lent : Place → Job → Place
with_lent p job = record p { job = job }

abbrev pub LendsJob : MutBor Place → MutBor Job → Fml
LendsJob p r = Lends place.the_row job.the_row p r (with_lent p.now)
