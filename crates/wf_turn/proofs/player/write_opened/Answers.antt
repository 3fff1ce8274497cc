use Rattle.std.specs.Result.{IfOk}
use Rattle.wf_turn.proofs.Common.{◌≡◌, ◌≤◌, ap, arith, most_turns, quota_of_all, subst, sym, vec_capacity}
use Rattle.wf_turn.specs.Playing.{script_of}
use Rattle.wf_turn.specs.Turns.{opening_show}
use Rattle.wf_turn.proofs.QuotaSums.{most_once}
use Rattle.wf_turn.proofs.player.write_opened.Goals as goal

-- there is room for all lines' turns, and no more are played
pub write_film-requires-clause-room : goal.write_film-requires-clause-room
write_film-requires-clause-room g c =
    let script = c.args.script.now in
    let opened = subst (λ r. IfOk r (λ show. show ≡ opening_show script)) c.in-Ok.is c.requires.opened in
    let lines = ap quota_of_all c.lines.ensures.lines in
    let room = c.in-Ok-with_capacity.ensures.capacity in
    subst (λ show. most_turns (script_of show).lines ≤ vec_capacity c.in-Ok-with_capacity.played) (sym opened)
    (omega (arith, most_once script.lines, c.quota_of_all-most.ensures, lines, room))
