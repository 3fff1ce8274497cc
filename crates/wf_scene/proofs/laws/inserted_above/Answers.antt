use Rattle.wf_scene.proofs.Standing.{base_below, others_stay}
use Rattle.wf_scene.proofs.laws.inserted_above.Goals as goal

pub returns : goal.returns
returns c = record {
  above = λ order handle base there other. base_below handle base order there other;
  others = λ order handle base. others_stay handle base order;
}
