use Rattle.std.proofs.Common.{◌∙◌, inl, refl, sym}
use Rattle.wf_show.proofs.FramesOfTheClock.{no_more}
use Rattle.wf_show.proofs.PlayersAtTheStart.{all_play}
use Rattle.wf_show.proofs.playing.play_others.Goals as goal

pub returns-then-not-in_setup-clause-ended : goal.returns-then-not-in_setup-clause-ended
returns-then-not-in_setup-clause-ended g c =
    let clock = c.args.clock.now in
    inl (all_play c.args.desk.now.id clock clock c.args.others.now c.teach.new.others c.run_all.new.players c.requires.clock
    c.requires.setting (sym c.in_setup.ensures
    ∙ c.if-not-in_setup.true) refl (no_more clock.pass.seen) c.teach.ensures.told c.run_all.ensures)
