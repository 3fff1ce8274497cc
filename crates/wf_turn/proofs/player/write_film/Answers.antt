use Rattle.wf_turn.proofs.Common.{◌∙◌, ◌≤◌, ap, refl, sym, subst, length, [], Ok, arith, tail_bytes, Puts, PutsPart, all_left}
use Rattle.wf_turn.proofs.Common.{opening_show}
use Rattle.std.specs.List.{AllByRecursion}
use Rattle.wf_calls.specs.Orders.{IsEntry}
use Rattle.wf_film.specs.Film.{magic}
use Rattle.wf_film.specs.Stands.{IsFilm, as_read}
use Rattle.wf_turn.specs.Play.{plain_film}
use Rattle.wf_turn.specs.Films.{PlaysSerially}
use Rattle.wf_turn.specs.Playing.{script_of}
use Rattle.wf_turn.proofs.Films.{cut_frame, cut_journal, cut_magic, left_few, left_open, magic_length, plays_open, stop_is, stops_open}
use Rattle.wf_turn.proofs.Films.{stands, whole}
use Rattle.wf_turn.proofs.player.write_film.Goals as goal

pub returns-in-Err-clause-plays : goal.returns-in-Err-clause-plays
returns-in-Err-clause-plays g = λ c.
    stop_is g.K.Sink.took c.args.form (script_of c.args.show.now) c.args.k.now c.new.new.k c.write_fault.result c.in-Err.stop.written
    c.new-in-Err.result [] c.write_fault.ensures (c.new-in-Err.ensures.turns ∙ c.requires.none)
    (cut_magic g.K.Sink.took c.args.form (script_of c.args.show.now) c.args.k.now c.new.new.k c.in-Err.stop.written c.in-Err.ensures.part)

pub play_turns-requires-clause-room : goal.play_turns-requires-clause-room
play_turns-requires-clause-room g = λ c.
    omega (arith, left_open c.args.show.now (script_of c.args.show.now) c.requires.opened, c.requires.room)

pub play_turns-requires-clause-few : goal.play_turns-requires-clause-few
play_turns-requires-clause-few g = λ c.
    let most = left_few (script_of c.args.show.now) in
    omega (
      arith,
      most,
      ap (λ v. all_left v.programs) c.requires.opened,
      c.requires.few,
      magic_length c.args.form,
      ap (λ w. w.written) c.in-Ok.ensures.begun,
    )

pub play_turns-requires-clause-early : goal.play_turns-requires-clause-early
play_turns-requires-clause-early g = λ c.
    let most = left_few (script_of c.args.show.now) in
    omega (arith, most, ap (λ v. all_left v.programs) c.requires.opened, c.requires.few, ap (λ v. v.turns) c.requires.opened)

pub finish-requires-clause-turns : goal.finish-requires-clause-turns
finish-requires-clause-turns g = λ c.
    let most = left_few (script_of c.args.show.now) in
    omega (
      arith,
      most,
      ap (λ v. all_left v.programs) c.requires.opened,
      c.requires.few,
      c.in_default.ensures.many,
      ap length c.new-order.ensures.turns,
    )

pub returns-in-Err-play_turns-clause-plays : goal.returns-in-Err-play_turns-clause-plays
returns-in-Err-play_turns-clause-plays g = λ c.
    let script = script_of c.args.show.now in
    let order = c.play_turns.new.played.items in
    let stop = c.in-Err-play_turns in
    let many : length order ≤ all_left (opening_show script).programs =
    omega (arith, stop.ensures.many, ap (λ v. all_left v.programs) c.requires.opened) in
    stop_is g.K.Sink.took c.args.form script c.args.k.now c.play_turns.new.k c.write_fault-in-Err-play_turns.result stop.stop.written
    c.new-in-Err-play_turns.result order c.write_fault-in-Err-play_turns.ensures c.new-in-Err-play_turns.ensures.turns
    (cut_frame g.K.Sink.took c.args.form script c.requires.ticks c.args.k.now c.new.new.k c.play_turns.new.k stop.stop.written
    c.play_turns.new.show order c.in-Ok.ensures.all
    (stops_open g.K.Sink.took c.args.form script c.args.show.now c.requires.opened c.new.new.k c.play_turns.new.k c.in-Ok.writer
    stop.stop.written c.play_turns.new.show order c.in-Ok.ensures.begun stop.ensures.part) many)

pub returns-in-Ok-finish-clause-plays : goal.returns-in-Ok-finish-clause-plays
returns-in-Ok-finish-clause-plays g = λ c.
    let script = script_of c.args.show.now in
    let order = c.play_turns.new.played.items in
    let same = c.new-order.ensures.turns in
    let many : length order ≤ all_left (opening_show script).programs =
    omega (arith, c.in_default.ensures.many, ap (λ v. all_left v.programs) c.requires.opened) in
    let tail : Puts g.K.Sink.took c.play_turns.new.k c.finish.new.k (tail_bytes order) =
    subst (λ o. Puts g.K.Sink.took c.play_turns.new.k c.finish.new.k (tail_bytes o)) same c.in-Ok-finish.ensures.all in
    let plays = plays_open g.K.Sink.took c.args.form script c.args.show.now c.requires.opened c.new.new.k c.play_turns.new.k c.in-Ok.writer
    c.play_turns.new.writer.written c.play_turns.new.show order c.in-Ok.ensures.begun c.in_default.ensures.all in
    subst (λ o. PlaysSerially g.K.Sink.took c.args.k.now c.finish.new.k c.args.form script (Ok o)) (sym same)
    (whole g.K.Sink.took c.args.form script c.new.new.k c.play_turns.new.k (length (magic c.args.form)) c.play_turns.new.writer.written
    c.play_turns.new.show order plays many c.args.k.now c.finish.new.k c.in-Ok.ensures.all c.in_default.ensures.over tail)

pub returns-in-Ok-finish-clause-stands : goal.returns-in-Ok-finish-clause-stands
returns-in-Ok-finish-clause-stands g = λ c.
    let script = script_of c.args.show.now in
    let order = c.play_turns.new.played.items in
    let same = c.new-order.ensures.turns in
    let many : length order ≤ all_left (opening_show script).programs =
    omega (arith, c.in_default.ensures.many, ap (λ v. all_left v.programs) c.requires.opened) in
    let plays = plays_open g.K.Sink.took c.args.form script c.args.show.now c.requires.opened c.new.new.k c.play_turns.new.k c.in-Ok.writer
    c.play_turns.new.writer.written c.play_turns.new.show order c.in-Ok.ensures.begun c.in_default.ensures.all in
    subst (λ o. IsFilm (as_read (plain_film c.args.form script o))) (sym same)
    (stands g.K.Sink.took c.args.form script c.new.new.k c.play_turns.new.k (length (magic c.args.form)) c.play_turns.new.writer.written
    c.play_turns.new.show order plays many (subst (λ o. AllByRecursion IsEntry o) same c.new-order.ensures.values) c.requires.few)

pub returns-in-Err-finish-clause-plays : goal.returns-in-Err-finish-clause-plays
returns-in-Err-finish-clause-plays g = λ c.
    let script = script_of c.args.show.now in
    let order = c.play_turns.new.played.items in
    let same = c.new-order.ensures.turns in
    let written = c.in-Err-finish.stop.written in
    let middle = c.play_turns.new.writer.written in
    let many : length order ≤ all_left (opening_show script).programs =
    omega (arith, c.in_default.ensures.many, ap (λ v. all_left v.programs) c.requires.opened) in
    let part : PutsPart g.K.Sink.took c.play_turns.new.k c.finish.new.k middle (tail_bytes order) written =
    subst (λ o. PutsPart g.K.Sink.took c.play_turns.new.k c.finish.new.k middle (tail_bytes o) written) same
    c.in-Err-finish.ensures.part in
    let plays = plays_open g.K.Sink.took c.args.form script c.args.show.now c.requires.opened c.new.new.k c.play_turns.new.k c.in-Ok.writer
    middle c.play_turns.new.show order c.in-Ok.ensures.begun c.in_default.ensures.all in
    stop_is g.K.Sink.took c.args.form script c.args.k.now c.finish.new.k c.write_fault-in-Err-finish.result written
    c.new-order.result order c.write_fault-in-Err-finish.ensures same
    (cut_journal g.K.Sink.took c.args.form script c.new.new.k c.play_turns.new.k (length (magic c.args.form)) middle
    c.play_turns.new.show order plays many c.args.k.now c.finish.new.k written refl c.in-Ok.ensures.all c.in_default.ensures.over part)
