-- What the words behind a verb give.
use Rattle.std.specs.Prelude.{List, Result}
use Rattle.wf_script.specs.declared.field.Item as declared
use Rattle.wf_script.specs.declared.line.Verb.{Verb}
use Rattle.wf_script.specs.declared.name.Name.{Name}
use Rattle.wf_script.specs.declared.rule.Rule.{Rule}
use Rattle.wf_script.specs.Fields.{names_in}
use Rattle.wf_script.specs.Items.{items_of}

-- what the words behind a verb give, with the names that they use, or the rule that they break: their number
-- before what they are
abbrev pub Given : Type 0
Given = Result (Verb × List Name) Rule

-- a verb, and the names that it uses, by the items of its words
abbrev pub given : List declared.Item → Verb → Verb × List Name
given items verb = (verb, names_in (items_of items))
