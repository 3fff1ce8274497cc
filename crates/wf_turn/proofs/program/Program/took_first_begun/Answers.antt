use Rattle.wf_turn.proofs.Common.{◌≡◌, ◌∙◌, Option, Some, None, Job, refl, Verb, took_first, with_job}
use Rattle.wf_calls.specs.Replies.{bare}
use Rattle.wf_script.specs.declared.line.Verb.TheVariants as verb
use Rattle.wf_turn.proofs.program.Program.took_first_begun.Goals as goal

-- any other line does not use it
pub returns-in_default : goal.returns-in_default
returns-in_default c = c.took_first_answer.ensures ∙ of_verb c.args.line.now.verb c.args.self.now.job refl
  where
    of_verb : (v : Verb) (o : Option Job) → c.args.line.now.verb ≡ v
        → took_first c.args.self.now (record c.args.line.now { verb = v }) (bare c.args.answer)
        ≡ took_first c.args.self.now (record c.args.line.now { verb = v }) (with_job c.args.answer o)
    of_verb verb.Tick o is = absurd (c.in_default.not-Tick is)
    of_verb (verb.Compose d x) o is = absurd (c.in_default.not-Compose d x is)
    of_verb (verb.TryCompose d x) o is = absurd (c.in_default.not-TryCompose d x is)
    of_verb _ None is = refl
    of_verb _ (Some job) is = refl
