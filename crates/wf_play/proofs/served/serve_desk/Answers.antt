use Rattle.std.proofs.Common.{◌≡◌, ◌∙◌, List, [], ◌∷◌, ◌++◌, ap, subst}
use Rattle.wf_machine.specs.Histories.{PlainPass}
use Rattle.wf_wire.specs.Served.{Closed}
use Rattle.wf_play.specs.Serving.{IsClosed, first_pass}
use Rattle.wf_play.proofs.Sessions.{says_all}
use Rattle.wf_play.proofs.served.serve_desk.Goals as goal

pub returns-clause-says : goal.returns-clause-says
returns-clause-says g c = λ bytes rest ports is_opened left_is header_is.
    let first : c.remove-pass.result ≡ first_pass c.args.desk.id c.args.desk.opening =
    rw c.requires.passes at c.remove-pass.ensures.value in
    let none : c.remove-pass.new.self.items ≡ [] = rw c.requires.passes at c.remove-pass.ensures.by_index.2 in
    let back : c.push_reserved.new.self.items ≡ c.serve-end.new.pass ∷ [] =
    c.push_reserved.ensures.items ∙ ap (λ (ks : List PlainPass). ks ++ c.serve-end.new.pass ∷ []) none in
    let closed =
    subst (λ left. Closed g.O.Sink.took (first_pass c.args.desk.id c.args.desk.opening) c.serve-end.new.pass c.args.film.now
    c.serve-end.new.out c.args.session left (g.I.Source.left c.serve-end.new.input) c.serve-end.result) left_is
    (subst (λ (k : PlainPass). Closed g.O.Sink.took k c.serve-end.new.pass c.args.film.now c.serve-end.new.out c.args.session
    (g.I.Source.left c.args.input.now) (g.I.Source.left c.serve-end.new.input) c.serve-end.result) first c.serve-end.ensures.served) in
    says_all g.O.Sink.took c.args.film.now c.serve-end.new.out c.args.desk c.serve-end.new.pass c.args.session rest
    (g.I.Source.left c.serve-end.new.input) c.serve-end.result closed c.requires.quotas
    (subst (λ (ks : List PlainPass). IsClosed c.args.desk ks) back c.close.ensures) ports is_opened bytes header_is
