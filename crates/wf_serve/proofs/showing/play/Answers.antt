use Rattle.std.proofs.Common.{◌≡◌, ◌∙◌, ap, length, subst}
use Rattle.std.specs.Prelude.{OnOk}
use Rattle.wf_serve.specs.Putting.{Writes}
use Rattle.wf_serve.specs.Ticks.{Showing, played, shown}
use Rattle.wf_serve.proofs.showing.play.Goals as goal

pub returns-clause-machine : goal.returns-clause-machine
unfolding played
returns-clause-machine g c =
    subst (λ (x : Showing). OnOk c.show.result (c.show.new.machine ≡ x.machine))
    (ap (λ n. shown c.args.pictures.now c.args.tick n c.compose_all.new.machine c.args.screens.now.items) c.count_of-count.ensures
    ∙ ap (λ s. shown c.args.pictures.now c.args.tick (length c.args.screens.now.items) s c.args.screens.now.items)
    c.compose_all.ensures.machine)
    c.show.ensures.machine

pub returns-clause-screens : goal.returns-clause-screens
unfolding played
returns-clause-screens g c =
    subst (λ (x : Showing). OnOk c.show.result (c.show.new.screens.items ≡ x.screens))
    (ap (λ n. shown c.args.pictures.now c.args.tick n c.compose_all.new.machine c.args.screens.now.items) c.count_of-count.ensures
    ∙ ap (λ s. shown c.args.pictures.now c.args.tick (length c.args.screens.now.items) s c.args.screens.now.items)
    c.compose_all.ensures.machine)
    c.show.ensures.screens

pub returns-clause-writes : goal.returns-clause-writes
unfolding played
returns-clause-writes g c =
    subst (λ (x : Showing). Writes g.K.Sink.took c.args.out.now c.show.new.out x.put c.show.result)
    (ap (λ n. shown c.args.pictures.now c.args.tick n c.compose_all.new.machine c.args.screens.now.items) c.count_of-count.ensures
    ∙ ap (λ s. shown c.args.pictures.now c.args.tick (length c.args.screens.now.items) s c.args.screens.now.items)
    c.compose_all.ensures.machine)
    c.show.ensures.writes
