use Rattle.wf_turn.proofs.Common.{◌≡◌, ◌∙◌, ap, refl, option_map, Verb, plain_call, Program, first_call, handle, kept_first, plain}
use Rattle.wf_script.specs.declared.line.Verb.TheVariants as verb
use Rattle.wf_turn.proofs.program.Program.ask_first.Goals as goal

-- a line of one call
module _ (c : goal.After-ask_one) where
  abbrev p : Program
  p = c.args.self.now

  of_verb : (v : Verb) → c.args.verb.now ≡ v → (option_map plain (plain_call (handle p) v) ≡ first_call p v)
      × (p.canvas ≡ kept_first v p.canvas)
  of_verb (verb.Acquire s) is = absurd (c.in_default.not-Acquire s is)
  of_verb verb.Post is = absurd (c.in_default.not-Post is)
  of_verb verb.Discard is = absurd (c.in_default.not-Discard is)
  of_verb (verb.Paint paint) is = absurd (c.in_default.not-Paint paint is)
  of_verb (verb.Frame s paint) is = absurd (c.in_default.not-Frame s paint is)
  of_verb verb.Tick is = absurd (c.in_default.not-Tick is)
  of_verb (verb.Compose d x) is = absurd (c.in_default.not-Compose d x is)
  of_verb (verb.TryCompose d x) is = absurd (c.in_default.not-TryCompose d x is)
  of_verb _ is = (refl, refl)

pub returns-in_default-clause-asked : goal.returns-in_default-clause-asked
returns-in_default-clause-asked c = c.ask_one.ensures.asked ∙ (of_verb c _ refl).0

pub returns-in_default-clause-issued : goal.returns-in_default-clause-issued
returns-in_default-clause-issued c = ap (λ canvas. record c.args.self.now { canvas = canvas }) (of_verb c _ refl).1
