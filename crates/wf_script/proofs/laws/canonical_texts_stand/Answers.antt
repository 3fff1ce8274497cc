use Rattle.wf_script.proofs.ScriptBack.{canonical_stands}
use Rattle.wf_script.proofs.laws.canonical_texts_stand.Goals as goal

pub returns : goal.returns
returns c = canonical_stands
