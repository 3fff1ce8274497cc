use Rattle.std.proofs.Common.{◌∙◌, ◌∷◌, [], Bor, List, ℕ, ap}
use Rattle.std.proofs.lemmas.Bool.Decides.{Decides-eqb}
use Rattle.std.proofs.lemmas.Slice.Eq.{strip_suffix_is}
use Rattle.wf_script.proofs.Cuts.{without_ending}
use Rattle.wf_play.proofs.parts.without_return.Goals as goal

pub returns : goal.returns
returns c = ap (λ (left : Bor (List ℕ)). left.now) c.unwrap_or.ensures
    ∙ without_ending c.args.line c.strip_suffix.result
    (strip_suffix_is Decides-eqb c.args.line.now (13 ∷ []) c.strip_suffix.result c.strip_suffix.ensures.cases)
