-- A call that is put where another one stood, and the value that it sets an attribute to.
use Rattle.std.specs.Prelude.{◌≡◌, ℕ, ℤ, pos, Bool, true, false, List, [], ◌∷◌, Option, Some, None}
use Rattle.std.proofs.Common.{◌∙◌, ap, sym}
use Rattle.wf_script.specs.declared.line.Value.{Value}
use Rattle.wf_script.specs.declared.line.Value.TheVariants as value
use Rattle.wf_script.specs.declared.name.Name.{Name}

-- something was put where another stood, if there was something to put
abbrev pub IsPut : {X : Type 0} → Option X → X → Bool → Type 0
IsPut None after given = given ≡ false
IsPut (Some x) after given = (given ≡ true) × (after ≡ x)

pub put_some : {X : Type 0} (o : Option X) (x : X) (given : Bool) → IsPut o x given → given ≡ true → o ≡ Some x
put_some None x given none was = absurd (let clash = sym none ∙ was in cc)
put_some (Some y) x given put was = ap Some (sym put.1)

-- what an attribute is set to: four numbers, of which a handle is the first
abbrev pub set_to : (Option Name → ℕ) → Value → List ℤ
set_to handle (value.Handle name) = pos (handle name) ∷ pos 0 ∷ pos 0 ∷ pos 0 ∷ []
set_to handle (value.Numbers numbers) = numbers
