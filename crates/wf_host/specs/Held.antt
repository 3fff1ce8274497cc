-- Write buffers that are held, each under a number: by an embedder under the handles of their streams, by a core under its clients.
use Rattle.std.specs.Prelude.{ℕ, ◌==◌, Bool, List, [], ◌∷◌, ◌++◌, Option, Some, None, find, option_map}
use Rattle.std.specs.List.{list_any, position, remove}
use Rattle.wf_image.specs.declared.canvas.Canvas.{Canvas}
use Rattle.wf_host.specs.declared.canvases.Held.{Held}

-- whether a canvas is held under a number
abbrev pub holds : ℕ → List Held → Bool
holds key held = list_any (λ h. h.key == key) held

-- the canvas under a number, if one is held
abbrev pub canvas_of : ℕ → List Held → Option Canvas
canvas_of key held = option_map (λ h. h.canvas) (find (λ h. h.key == key) held)

-- what is held without it
abbrev pub without : ℕ → List Held → List Held
without key held = of_place (position (λ h. h.key == key) held)
  where
    of_place : Option ℕ → List Held
    of_place None = held
    of_place (Some at) = remove held at

-- what is held with a canvas that came with an answer, if one did
abbrev pub adding : ℕ → Option Canvas → List Held → List Held
adding key None held = held
adding key (Some canvas) held = held ++ record { key = key; canvas = canvas } ∷ []
