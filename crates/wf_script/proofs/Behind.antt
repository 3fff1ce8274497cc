-- What is read behind what was read before.
use Rattle.std.proofs.Common.{◌≡◌, Result, Ok, Err, List, [], ◌∷◌, ◌++◌, refl, sym, ap, append_assoc}
use Rattle.wf_words.specs.Refusals.{◌>>=◌}
use Rattle.wf_script.specs.declared.rule.Rule.{Rule}
use Rattle.wf_script.specs.Items.{behind}

module _ {A : Type 0} where
  pub none_before : (read : Result (List A) Rule) → behind [] read ≡ read
  none_before (Ok others) = refl
  none_before (Err broken) = refl

  pub joined : (done : List A) (x : A) (read : Result (List A) Rule)
      → behind done (read >>= (λ others. Ok (x ∷ others))) ≡ behind (done ++ x ∷ []) read
  joined done x (Ok others) = ap (λ (s : List A). Ok s) (sym (append_assoc done (x ∷ []) others))
  joined done x (Err broken) = refl
