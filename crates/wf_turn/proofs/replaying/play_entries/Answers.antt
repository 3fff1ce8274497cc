use Rattle.wf_turn.proofs.Common.{◌∙◌, ◌+◌, ap, arith, refl}
use Rattle.wf_turn.specs.Played.{Replays}
use Rattle.wf_turn.proofs.EntriesPlayedAgain.{none_entered, one_entered}
use Rattle.wf_turn.proofs.TurnsPlayed.{none_played}
use Rattle.wf_turn.proofs.Serials.{nothing_replayed}
use Rattle.wf_turn.proofs.replaying.play_entries.Goals as goal

pub loop-place-init : goal.loop-place-init
loop-place-init g = λ c. record {
  plays = none_played g.K.Sink.took c.args.k.now c.args.writer.now.form c.args.writer.now.written Replays c.args.show.now
      (nothing_replayed _);
  form_is = refl;
  small = omega arith;
  turns = c.requires.fresh;
  cast = c.requires.cast;
  later = omega arith;
}

pub returns-in-NoTurn-clause-plays : goal.returns-in-NoTurn-clause-plays
returns-in-NoTurn-clause-plays g = λ c.
    none_entered g.K.Sink.took c.args.k.now c.loop-place.k c.args.writer.now.form c.args.writer.now.written c.loop-place.writer.written
    c.args.show.now c.loop-place.show c.args.entries.now
    c.loop-place.place _ _ c.loop-place-test.true refl c.loop-place.invariant.plays c.in-NoTurn.ensures.enters

pub loop-place-preserved : goal.loop-place-preserved
loop-place-preserved g = λ c.
    let was = c.loop-place.invariant in
    let one = rw was.form_is at c.in-Taken.ensures.enters in
    record {
      plays = one_entered g.K.Sink.took c.args.k.now c.loop-place.k c.play_entry.new.k c.args.writer.now.form c.args.writer.now.written
          c.loop-place.writer.written c.play_entry.new.writer.written c.args.show.now c.loop-place.show c.play_entry.new.show
          c.args.entries.now c.loop-place.place _ _ c.loop-place-test.true refl was.plays one.plays;
      form_is = c.in-Taken.ensures.form ∙ was.form_is;
      small = omega (arith, was.small, one.most);
      turns = one.turns ∙ ap (λ n. n + 1) was.turns;
      cast = one.cast;
      later = omega (arith, was.later, c.in-Taken.ensures.caused);
    }
