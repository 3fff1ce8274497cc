use Rattle.std.proofs.Common.{◌++◌, arith, length, sym, subst}
use Rattle.std.proofs.lemmas.List.{take_all}
use Rattle.wf_check.specs.Verdicts.{Takes}
use Rattle.wf_check.proofs.Places.{takes_more}
use Rattle.wf_check.proofs.comparing.ComparisonSink.put.Goals as goal

pub returns-clause-taken : goal.returns-clause-taken
returns-clause-taken c = λ before takes.
    let bytes = c.args.bytes.now in
    subst (λ xs. Takes c.compare.new.self (before ++ xs)) (sym (take_all (length bytes) bytes (omega arith)))
    (takes_more c.args.self.now c.compare.new.self before bytes c.compare.ensures.film c.compare.ensures.compares takes)
