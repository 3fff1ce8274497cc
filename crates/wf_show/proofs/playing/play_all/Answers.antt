use Rattle.std.proofs.Common.{◌∙◌, inl, inr, length, sym, ap, subst}
use Rattle.wf_film.specs.Film.{Writing, magic}
use Rattle.wf_show.specs.Clocks.{Cuts, IsClock, Shows}
use Rattle.wf_show.specs.declared.player.Player.{Player}
use Rattle.wf_machine.specs.Histories.{PlainPass}
use Rattle.wf_show.proofs.FramesOfTheClock.{all_filmed, both_shown, cut_later, cut_script, cut_sees}
use Rattle.wf_show.proofs.PlayersAtTheStart.{all_play, first_clock, first_setting}
use Rattle.wf_show.proofs.playing.play_all.Goals as goal

pub play_others-requires-clause-clock : goal.play_others-requires-clause-clock
play_others-requires-clause-clock g c κs within = first_clock c.args.desk.now.id c.args.clock.now c.requires.clock

pub play_others-requires-clause-setting : goal.play_others-requires-clause-setting
play_others-requires-clause-setting g c κs within = first_setting c.args.desk.now.id c.args.clock.now c.requires.clock

pub returns-in-Err-clause-clock : goal.returns-in-Err-clause-clock
returns-in-Err-clause-clock g c =
    subst (IsClock c.args.desk.now.id) (sym c.play_others.ensures.clock) (first_clock c.args.desk.now.id c.args.clock.now c.requires.clock)

pub set_up-requires-clause-clock : goal.set_up-requires-clause-clock
set_up-requires-clause-clock g c κs within = first_clock c.args.desk.now.id c.args.clock.now c.requires.clock

pub returns-clause-played : goal.returns-clause-played
returns-clause-played g c =
    let d = c.args.desk.now.id in
    let m = c.set_up.new.clock in
    let end = c.play_together.new.clock in
    let first = c.args.clock.now in
    let setting = c.set_up.ensures.setting (first_setting d first c.requires.clock) in
    let last = subst (λ (p : Player). Shows g.K.Sink.took c.set_up.new.k c.play_together.new.k c.set_up.new.writer.form
    c.set_up.new.writer.written c.play_together.new.writer.written p end) c.teach.ensures.clock c.in_default-play_together.ensures.all in
    all_play d m end c.args.others.now c.teach.new.others c.play_together.new.others c.in_default.ensures.clock setting
    c.in_default.ensures.over
    (sym last.script) last.goes_on c.teach.ensures.told c.play_together.ensures.others

pub returns-clause-film : goal.returns-clause-film
returns-clause-film g c =
    let took = g.K.Sink.took in
    let middle = c.set_up.new in
    let end = c.play_together.new in
    let first = c.args.clock.now in
    let begun = c.in-Ok.ensures.begun in
    let form_is = c.in_default.ensures.form ∙ ap (λ (w : Writing). w.form) begun in
    let head : Shows took c.new.new.k middle.k c.args.form (length (magic c.args.form)) middle.writer.written first middle.clock =
    subst (λ (w : Writing). Shows took c.new.new.k middle.k w.form w.written middle.writer.written first middle.clock) begun
    c.in_default.ensures.all in
    let rest : Shows took middle.k end.k c.args.form middle.writer.written end.writer.written middle.clock end.clock =
    subst (λ f. Shows took middle.k end.k f middle.writer.written end.writer.written middle.clock end.clock) form_is
    (subst (λ (p : Player). Shows took middle.k end.k middle.writer.form middle.writer.written end.writer.written p end.clock)
    c.teach.ensures.clock c.in_default-play_together.ensures.all) in
    all_filmed took c.args.form c.args.k.now c.new.new.k end.k end.writer first end.clock
    (ap (λ (p : PlainPass). p.seen) c.requires.clock.pass) c.in-Ok.ensures.all
    (both_shown took c.args.form c.new.new.k middle.k end.k (length (magic c.args.form)) middle.writer.written end.writer.written
    first middle.clock end.clock head rest) c.in_default-play_together.ensures.few

pub returns-in-Err-play_together-clause-ended : goal.returns-in-Err-play_together-clause-ended
returns-in-Err-play_together-clause-ended g c =
    let d = c.args.desk.now.id in
    let m = c.set_up.new.clock in
    let end = c.play_together.new.clock in
    let first = c.args.clock.now in
    let setting = c.set_up.ensures.setting (first_setting d first c.requires.clock) in
    let form = c.set_up.new.writer.form in
    let was = c.set_up.new.writer.written in
    let written = c.in-Err-play_together.stop.written in
    let cuts = subst (λ (p : Player). Cuts g.K.Sink.took c.set_up.new.k c.play_together.new.k form was written p end)
    c.teach.ensures.clock c.in-Err-play_together.ensures.part in
    inl (all_play d m end c.args.others.now c.teach.new.others c.play_together.new.others c.in_default.ensures.clock setting
    c.in_default.ensures.over (sym (cut_script g.K.Sink.took c.set_up.new.k c.play_together.new.k form was written m end cuts))
    (cut_sees g.K.Sink.took c.set_up.new.k c.play_together.new.k form was written m end cuts) c.teach.ensures.told
    c.play_together.ensures.others)

pub returns-in-Err-play_together-clause-cut : goal.returns-in-Err-play_together-clause-cut
returns-in-Err-play_together-clause-cut g c =
    let m = c.set_up.new.clock in
    let end = c.play_together.new.clock in
    let first = c.args.clock.now in
    let form = c.set_up.new.writer.form in
    let was = c.set_up.new.writer.written in
    let written = c.in-Err-play_together.stop.written in
    let cuts = subst (λ (p : Player). Cuts g.K.Sink.took c.set_up.new.k c.play_together.new.k form was written p end)
    c.teach.ensures.clock c.in-Err-play_together.ensures.part in
    let all = cut_later g.K.Sink.took form c.new.new.k c.set_up.new.k c.play_together.new.k c.in-Ok.writer.written was written first m end
    (subst (λ f. Shows g.K.Sink.took c.new.new.k c.set_up.new.k f c.in-Ok.writer.written was first m) (sym c.in_default.ensures.form)
    c.in_default.ensures.all) cuts in
    let begun = c.in-Ok.ensures.begun in
    let form_is = c.in_default.ensures.form ∙ ap (λ (w : Writing). w.form) begun in
    inr (record {
      begun = c.new.new.k;
      magic_put = c.in-Ok.ensures.all;
      cuts =
          subst (λ n. Cuts g.K.Sink.took c.new.new.k c.play_together.new.k c.args.form n written first end)
          (ap (λ (w : Writing). w.written) begun)
          (subst (λ f. Cuts g.K.Sink.took c.new.new.k c.play_together.new.k f c.in-Ok.writer.written written first end) form_is all);
    })
