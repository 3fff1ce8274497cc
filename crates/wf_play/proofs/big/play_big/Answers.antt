use Rattle.std.proofs.Common.{◌≡◌, ◌∙◌, [], ap, arith, subst}
use Rattle.wf_io.specs.Tally.{count_of}
use Rattle.wf_script.specs.Generator.{made}
use Rattle.wf_turn.specs.Play.{IsComplete, film, marks, serial_order}
use Rattle.wf_play.proofs.MadeOrders.{made_order}
use Rattle.wf_play.proofs.big.play_big.Goals as goal

pub tell-requires-clause-counted : goal.tell-requires-clause-counted
tell-requires-clause-counted g c =
    let script_is = c.in-Ok.ensures ∙ ap made c.into.ensures in
    subst (λ s. c.serial.new.k ≡ count_of (film c.args.form s c.in-Ok-serial.order)) script_is
    (c.in-Ok-serial.ensures.plays.0 [] c.new-tally.ensures)

pub tell-requires-clause-played : goal.tell-requires-clause-played
tell-requires-clause-played g c =
    let script_is = c.in-Ok.ensures ∙ ap made c.into.ensures in
    let order = c.in-Ok-serial.order in
    made_order c.args.size order (omega arith) (omega arith)
    (subst (λ s. IsComplete s order) script_is c.in-Ok-serial.ensures.plays.1)
    (subst (λ s. order ≡ serial_order s (marks order)) script_is c.in-Ok-serial.ensures.file_order)
