use Rattle.std.proofs.Common.{sym, subst}
use Rattle.wf_check.specs.Verdicts.{Compared, Compares}
use Rattle.wf_check.proofs.Places.{compared}
use Rattle.wf_check.proofs.comparing.Comparison.compare.Goals as goal

pub returns-clause-compares : goal.returns-clause-compares
returns-clause-compares c = λ before compares.
    let seen : Compared = record { film = c.self.inside.film.now; at = c.self.inside.at; apart = c.self.inside.apart } in
    compared seen before c.args.bytes.now c.common-same.result c.if-self.false c.common-same.ensures.second
    (rw c.split_at.ensures.back at c.common-same.ensures.same) (rw c.split_at.ensures.back at c.common-same.ensures.apart)
    (subst (λ v. Compares v before) (sym c.self.view_is) compares)
