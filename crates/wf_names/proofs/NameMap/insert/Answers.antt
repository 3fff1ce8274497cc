use Rattle.std.proofs.Common.{◌≡◌, ◌∙◌, ℕ, List, Some, ap, cond, sym}
use Rattle.std.specs.Str.{bytes_eq}
use Rattle.wf_names.specs.Keys.{told}
use Rattle.wf_names.proofs.Changed.{name_updates}
use Rattle.wf_names.proofs.NameMap.insert.Goals as goal

pub returns-clause-told : goal.returns-clause-told
returns-clause-told g c = λ word.
    name_updates c.args.name.now c.number_of.result c.self.inside.values c.insert.new.self (Some c.args.value) c.number_of.ensures
    c.in_ok-before.ensures.updates word
    ∙ ap (λ entries. cond (bytes_eq c.args.name.now word) (Some c.args.value) (told entries word)) c.self.view_is
