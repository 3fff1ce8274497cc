use Rattle.std.proofs.Common.{◌++◌, [], ◌∷◌, arith}
use Rattle.std.specs.List.{flat_map}
use Rattle.std.specs.Str.{byte}
use Rattle.std.proofs.lemmas.Result.{IfErr-weaker}
use Rattle.wf_io.specs.Parts.{puts_both, stops_late}
use Rattle.wf_film.specs.Film.{journal_head, turn_bytes}
use Rattle.wf_film.proofs.writer.Writer.finish.Goals as goal

pub returns-clause-part : goal.returns-clause-part
returns-clause-part g c =
    let head = journal_head c.args.order.now in
    let entries = flat_map turn_bytes c.args.order.now in
    let first = puts_both g.K.Sink.took _ _ _ head entries (rw c.head_of_journal.ensures at c.in_ok-put.ensures.all)
    c.in_ok-put_turns.ensures.all in
    IfErr-weaker c.put-2.result _ _
    (λ stop part. stops_late g.K.Sink.took _ _ _ _ _ (head ++ entries) (byte "E" ∷ []) stop.written first
    (omega (arith, rw c.head_of_journal.ensures at c.in_ok-put.ensures.written, c.in_ok-put_turns.ensures.written)) part)
    c.put-2.ensures.part
