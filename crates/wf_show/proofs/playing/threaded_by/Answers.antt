use Rattle.std.proofs.Common.{inl}
use Rattle.wf_show.proofs.AnswerOfThreads.{IsOver, ends_in_head, ends_in_tail, ends_others, ends_well, few_turns_in_all, is_over}
use Rattle.wf_show.proofs.AnswerOfThreads.{stands_well}
use Rattle.wf_show.proofs.playing.threaded_by.Given as given
use Rattle.wf_show.proofs.playing.threaded_by.Goals as goal
use Rattle.wf_show.proofs.playing.threaded_by.Goals.{After-close-order}

-- once the desk is closed, what all players did is over
is_closed : (g : given.Over) (c : goal.After-close-order g)
    → IsOver c.args.script.now c.in-Ok.opened c.play_all-played.new.clock c.deref_mut.result.now c.play_all-played.new.others
    c.close-order.result
is_closed g c =
    let played = c.play_all-played.ensures in
    is_over c.args.script.now c.in-Ok.opened c.play_all-played.new.clock c.deref_mut.result.now c.play_all-played.new.others
    c.close-order.result c.in-Ok.ensures played.clock played.script c.deref_mut.ensures.value played.many
    c.in-Ok.opened.others.ok.0 c.close-order.ensures.closed

pub finish-requires-clause-turns : goal.finish-requires-clause-turns
finish-requires-clause-turns g c =
    let played = c.in-Ok-played.ensures in
    few_turns_in_all c.args.script.now c.in-Ok.opened c.play_all-played.new.clock c.deref_mut.result.now c.play_all-played.new.others
    c.close-order.result (is_closed g (goal.at.finish-requires-clause-turns g c).After-close-order)
    (inl played.played)

pub returns-in-Ok-finish-clause-plays : goal.returns-in-Ok-finish-clause-plays
returns-in-Ok-finish-clause-plays g c =
    let played = c.in-Ok-played.ensures in
    ends_well c.args.script.now c.in-Ok.opened c.play_all-played.new.clock c.deref_mut.result.now c.play_all-played.new.others
    c.close-order.result (is_closed g (goal.at.returns-in-Ok-finish-clause-plays g c).After-close-order)
    g.K.Sink.took c.args.form c.args.k.now c.play_all-played.new.k c.finish.new.k c.in-Ok-played.writer played.played
    played.through played.film c.in-Ok-finish.ensures.all

pub returns-in-Ok-finish-clause-stands : goal.returns-in-Ok-finish-clause-stands
returns-in-Ok-finish-clause-stands g c =
    let played = c.in-Ok-played.ensures in
    stands_well c.args.script.now c.in-Ok.opened c.play_all-played.new.clock c.deref_mut.result.now c.play_all-played.new.others
    c.close-order.result (is_closed g (goal.at.returns-in-Ok-finish-clause-stands g c).After-close-order)
    g.K.Sink.took c.args.form c.args.k.now c.play_all-played.new.k c.in-Ok-played.writer played.played played.film
    c.close-order.ensures.values

pub returns-in-Err-finish-clause-plays : goal.returns-in-Err-finish-clause-plays
returns-in-Err-finish-clause-plays g c =
    let played = c.in-Ok-played.ensures in
    ends_in_tail c.args.script.now c.in-Ok.opened c.play_all-played.new.clock c.deref_mut.result.now c.play_all-played.new.others
    c.close-order.result (is_closed g (goal.at.returns-in-Err-finish-clause-plays g c).After-close-order)
    g.K.Sink.took c.args.form c.args.k.now c.play_all-played.new.k c.finish.new.k c.in-Ok-played.writer
    c.in-Err-finish.stop.written played.played played.through played.film c.in-Err-finish.ensures.part c.write_fault.result
    c.write_fault.ensures

pub returns-in-Err-finish-clause-others : goal.returns-in-Err-finish-clause-others
returns-in-Err-finish-clause-others g c =
    let played = c.in-Ok-played.ensures in
    ends_others c.args.script.now c.in-Ok.opened c.play_all-played.new.clock c.deref_mut.result.now c.play_all-played.new.others
    c.close-order.result (is_closed g (goal.at.returns-in-Err-finish-clause-others g c).After-close-order)
    c.in-Err-finish.stop.written (inl played.played) c.write_fault.result c.write_fault.ensures

pub returns-in-Err-played-clause-plays : goal.returns-in-Err-played-clause-plays
returns-in-Err-played-clause-plays g c =
    let played = c.in-Err-played.ensures in
    ends_in_head c.args.script.now c.in-Ok.opened c.play_all-played.new.clock c.deref_mut.result.now c.play_all-played.new.others
    c.close-order.result (is_closed g (goal.at.returns-in-Err-played-clause-plays g c).After-close-order)
    g.K.Sink.took c.args.form c.args.k.now c.play_all-played.new.k c.in-Err-played.stop.written played.ended played.cut
    c.write_fault-in-Err-played.result c.write_fault-in-Err-played.ensures

pub returns-in-Err-played-clause-others : goal.returns-in-Err-played-clause-others
returns-in-Err-played-clause-others g c =
    let played = c.in-Err-played.ensures in
    ends_others c.args.script.now c.in-Ok.opened c.play_all-played.new.clock c.deref_mut.result.now c.play_all-played.new.others
    c.close-order.result (is_closed g (goal.at.returns-in-Err-played-clause-others g c).After-close-order)
    c.in-Err-played.stop.written played.ended c.write_fault-in-Err-played.result c.write_fault-in-Err-played.ensures
