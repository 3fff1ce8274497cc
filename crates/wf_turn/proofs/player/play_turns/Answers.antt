use Rattle.wf_turn.proofs.Common.{◌∙◌, ap, arith, length, refl, sym, subst, IsNextTurn, IsRun, Plays}
use Rattle.wf_turn.proofs.TurnsPlayed.{none_played, one_played, one_stopped}
use Rattle.wf_turn.proofs.Serials.{run_more}
use Rattle.wf_turn.proofs.player.play_turns.Goals as goal

pub loop-next-init : goal.loop-next-init
loop-next-init c =
    λ c'.
    record {
      plays = subst (λ ts. Plays c.K.Sink.took c'.args.k.now c'.args.k.now c'.args.writer.now.form c'.args.writer.now.written
          c'.args.writer.now.written IsRun c'.args.show.now c'.args.show.now ts) (sym c'.requires.none)
          (none_played c.K.Sink.took c'.args.k.now c'.args.writer.now.form c'.args.writer.now.written IsRun c'.args.show.now refl);
      form_is = refl;
      fits = omega (arith, c'.requires.room, ap length c'.requires.none);
      many = omega (arith, ap length c'.requires.none);
      few = c'.requires.few;
      early = c'.requires.early;
      later = omega arith;
      cast = c'.requires.cast;
      alone = c'.requires.alone;
      next_is = c'.first-next.ensures.first;
      allowed = c'.first-next.ensures.allowed;
    }

pub loop-next-preserved : goal.loop-next-preserved
loop-next-preserved c =
    λ c'.
    let was = c'.loop-next.invariant in
    let one = c'.in_default-play_turn.ensures in
    let next = rw was.form_is at one.all in
    record {
      plays = subst (λ ts. Plays c.K.Sink.took c'.args.k.now c'.play_turn.new.k c'.args.writer.now.form c'.args.writer.now.written
          c'.play_turn.new.writer.written IsRun c'.args.show.now c'.play_turn.new.show ts) (sym next.after_is)
          (one_played c.K.Sink.took IsNextTurn IsRun run_more c'.args.k.now c'.loop-next.k c'.play_turn.new.k c'.args.writer.now.form
          c'.args.writer.now.written c'.loop-next.writer.written c'.play_turn.new.writer.written
          c'.args.show.now c'.loop-next.show c'.play_turn.new.show c'.loop-next.played.items next.turn was.plays next.plays);
      form_is = one.form ∙ was.form_is;
      fits = omega (arith, was.fits, one.many, one.room);
      many = omega (arith, was.many, one.many);
      few = omega (arith, was.few, one.fewer, one.most);
      early = omega (arith, was.early, one.fewer, one.early);
      later = omega (arith, was.later, one.cause.later);
      cast = one.cast;
      alone = one.alone;
      next_is = c'.first_after-next.ensures.first;
      allowed = c'.first_after-next.ensures.allowed;
    }

pub returns-in-Err-clause-part : goal.returns-in-Err-clause-part
returns-in-Err-clause-part c =
    λ c'.
    one_stopped c.K.Sink.took c'.args.k.now c'.loop-next.k c'.play_turn.new.k c'.args.writer.now.form c'.args.writer.now.written
    c'.loop-next.writer.written c'.in-Err.stop.written
    c'.args.show.now c'.loop-next.show c'.play_turn.new.show c'.loop-next.played.items
    c'.play_turn.new.played.items c'.loop-next.invariant.plays
    (rw c'.loop-next.invariant.form_is at c'.in-Err.ensures.part)
