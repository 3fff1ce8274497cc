use Rattle.std.proofs.Common.{◌≡◌, ◌∙◌, ap, sym, Result, Ok}
use Rattle.wf_script.specs.Grammar.{read_script}
use Rattle.wf_script.specs.declared.fault.ScriptFault.{ScriptFault}
use Rattle.wf_script.specs.Script.{PlainScript}
use Rattle.wf_script.proofs.ScriptBack.{canonical_stands}
use Rattle.wf_script.proofs.laws.canonical_texts_tell_scripts_apart.Goals as goal

same_script : (s t : PlainScript)
    → (let r : Result PlainScript ScriptFault = Ok s in let q : Result PlainScript ScriptFault = Ok t in r ≡ q)
    → s ≡ t
same_script s t e = cc

pub returns : goal.returns
returns c = λ bytes others script other stands its same. same_script script other
    (sym (canonical_stands bytes script stands) ∙ ap read_script same ∙ canonical_stands others other its)
