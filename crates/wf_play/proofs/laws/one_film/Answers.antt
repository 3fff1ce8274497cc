use Rattle.std.proofs.Common.{◌≡◌, ◌∙◌, Ok, ap, sym}
use Rattle.wf_script.specs.Script.{PlainScript}
use Rattle.wf_turn.specs.Play.{film}
use Rattle.wf_play.proofs.laws.one_film.Goals as goal

pub returns : goal.returns
returns c form bytes s t order first second =
    let same : Ok s ≡ Ok t = sym first ∙ second in
    let is : s ≡ t = cc in
    ap (λ (script : PlainScript). film form script order) is
