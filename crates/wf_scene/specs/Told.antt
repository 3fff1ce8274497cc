-- The numbers that a value was given in.
use Rattle.std.specs.Prelude.{ℕ, ℤ, List, [], ◌∷◌}
use Rattle.wf_scene.specs.declared.attributes.ElementAttr.{ElementAttr}
use Rattle.wf_scene.specs.declared.attributes.ElementAttr.TheVariants as attr
use Rattle.wf_scene.specs.Values.{component, word}

-- the four numbers of a value, as they are answered
abbrev pub four : List ℤ → List ℕ
four v = word (component v 0) ∷ word (component v 1) ∷ word (component v 2) ∷ word (component v 3) ∷ []

-- the numbers of a value that an attribute reads, as they are answered
abbrev pub told : ElementAttr → List ℤ → List ℕ
told attr.Dest v = four v
told attr.SrcRect v = four v
told _ v = word (component v 0) ∷ []
