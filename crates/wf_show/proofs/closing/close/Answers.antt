use Rattle.std.proofs.Common.{◌∙◌, List, sym, subst, length}
use Rattle.wf_calls.specs.Codes.{entry}
use Rattle.wf_desk.specs.Desk.{AreAll, IsClosing}
use Rattle.wf_machine.specs.Object.{MayAnswer, after}
use Rattle.wf_show.specs.Opened.{passes_of}
use Rattle.wf_machine.specs.Histories.{PlainPass}
use Rattle.wf_show.proofs.PassesAtTheEnd.{all_passes, history_is}
use Rattle.wf_show.proofs.closing.close.Goals as goal

pub close-journal-requires-clause-passes : goal.close-journal-requires-clause-passes
close-journal-requires-clause-passes c κs =
    subst (AreAll c.args.desk.id (length c.args.desk.quotas)) (sym c.gather.ensures)
    (all_passes c.args.desk.id c.args.clock c.args.others.items
    (length c.args.desk.quotas) c.requires.seated c.requires.seven c.requires.eight)

pub returns-clause-closed : goal.returns-clause-closed
returns-clause-closed c =
    let s = c.args.clock.program.script in
    let journal = c.close-journal.result.1 in
    let closing : IsClosing after MayAnswer entry c.args.desk
    (passes_of c.args.clock c.args.others.items) c.close-journal.result.0 journal =
    subst (λ (ks : List PlainPass). IsClosing after MayAnswer entry c.args.desk ks c.close-journal.result.0 journal) c.gather.ensures
    c.close-journal.ensures in (
      closing.history,
      (
        history_is s c.args.desk c.args.clock c.args.others.items c.close-journal.result.0 journal c.requires.opening c.requires.eight
            c.requires.seated closing,
        c.new.ensures.turns ∙ c.into_entries.ensures ∙ closing.journal_is,
      ),
    )
