use Rattle.std.proofs.Common.{◌∙◌, arith, refl}
use Rattle.wf_events.proofs.TurnsLogged.{all_logged, may_follow, none_logged, one_logged}
use Rattle.wf_events.proofs.order.log_turns.Goals as goal

pub loop-entry-init : goal.loop-entry-init
loop-entry-init c =
    none_logged c.args.show.now c.args.entries.now c.args.depth c.new-queue.result c.new-queue.ensures.queue c.new-queue.ensures.depth
    c.new-queue.ensures.none c.requires.legal c.requires.early c.requires.cast

pub log_turn-requires-clause-legal : goal.log_turn-requires-clause-legal
log_turn-requires-clause-legal c =
    may_follow c.args.show.now c.args.entries.now c.args.depth c.loop-entry.show c.loop-entry.queue c.loop-entry.entry-index _ _
    c.loop-entry-test.true refl c.loop-entry.invariant

pub loop-entry-preserved : goal.loop-entry-preserved
loop-entry-preserved c =
    one_logged c.args.show.now c.args.entries.now c.args.depth c.loop-entry.show c.loop-entry.queue c.loop-entry.entry-index _ _
    c.loop-entry-test.true refl c.loop-entry.invariant c.log_turn.new.show c.log_turn.new.queue c.in_ok-log_turn.ensures

pub returns : goal.returns
returns c =
    c.into_log.ensures
    ∙ all_logged c.args.show.now c.args.entries.now c.args.depth c.loop-entry.show c.loop-entry.queue c.flush.new.self
    c.loop-entry.entry-index (omega (arith, c.loop-entry-test.false)) c.loop-entry.invariant c.in_ok-flush.ensures.flushed
