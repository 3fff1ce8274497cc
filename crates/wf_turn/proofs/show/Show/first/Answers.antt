use Rattle.wf_turn.proofs.Common.{sym, subst, ℕ, IsCast, may_turn, show_of}
use Rattle.std.specs.Bool.{IsTrue}
use Rattle.wf_turn.proofs.Clients.{found_may}
use Rattle.wf_turn.proofs.show.Show.first.Goals as goal

pub returns-in-Some-clause-allowed : goal.returns-in-Some-clause-allowed
returns-in-Some-clause-allowed c =
    let client : ℕ × ℕ = (c.in-Some.client, c.in-Some.field-0-1) in
    subst (λ s. IsTrue (may_turn s.programs c.in-Some.client)) c.self.view_is
    (found_may (show_of c.self.inside) (subst IsCast (sym c.self.view_is) c.requires.cast) client (sym c.in-Some.ensures.first)
    c.in-Some.ensures.own)
