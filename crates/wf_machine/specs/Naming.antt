-- The names that a running frame is, with its write buffer, which is out.
use Rattle.std.specs.Prelude.{ℕ, List, [], ◌∷◌, ◌++◌, map}
use Rattle.wf_calls.specs.declared.call.JobKind.{JobKind}
use Rattle.wf_calls.specs.declared.call.JobKind.TheVariants as kind
use Rattle.wf_model.specs.declared.Content.{Content}

-- the target of a context's frame, once for the frame and once for the write buffer
abbrev pub drawn_names : JobKind → List ℕ
drawn_names (kind.Context handle target) = target ∷ target ∷ []
drawn_names (kind.Port port) = []

-- these, and the contents
abbrev pub held_names : List Content → JobKind → List ℕ
held_names contents k = map (λ c. c.stream) contents ++ drawn_names k
