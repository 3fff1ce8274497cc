use Rattle.std.proofs.Common.{ap, ◌∙◌}
use Rattle.clap.specs.Words.{app_of, is_simple_and_free}
use Rattle.wf_command.proofs.Meanings.{free, meant, not_meant}
use Rattle.wf_command.proofs.command.asked_by.Goals as goal

pub returns-in-Some-clause-asked : goal.returns-in-Some-clause-asked
returns-in-Some-clause-asked c =
    let parsed = c.in-Ok-try_get_matches_from in
    meant (app_of c.in-Ok.command) c.args.words.now parsed.matches c.in-Ok.ensures parsed.ensures.matches c.in-Some.asked
    (parsed.ensures.kinds (ap is_simple_and_free c.in-Ok.ensures ∙ free)) c.in-Some.ensures.asked

pub returns-in-Ok-try_get_matches_from-clause-usage : goal.returns-in-Ok-try_get_matches_from-clause-usage
returns-in-Ok-try_get_matches_from-clause-usage c = λ is.
    let parsed = c.in-Ok-try_get_matches_from in
    not_meant (app_of c.in-Ok.command) c.args.words.now parsed.matches c.in-Ok.ensures parsed.ensures.matches c.in-None.ensures.none
