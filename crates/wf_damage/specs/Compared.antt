-- What is known of the images of streams that were compared.
use Rattle.std.specs.Prelude.{◌≡◌, true, false, All}
use Rattle.wf_model.specs.Picture.{Images}
use Rattle.wf_damage.specs.Areas.{same_content}
use Rattle.wf_damage.specs.declared.comparing.Compared.{Compared}

-- the streams stand on their sides
pub record AreCompared (before now : Images) (c : Compared) : Type 0 where
  pub same : All (λ stream. same_content before now stream ≡ true) c.same.items
  pub other : All (λ stream. same_content before now stream ≡ false) c.other.items
