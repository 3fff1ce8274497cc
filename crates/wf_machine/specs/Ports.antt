-- The images that are kept for the frames of ports.
use Rattle.std.specs.Prelude.{◌≡◌, ℕ, zero, suc, ◌-◌, List, [], ◌∷◌, Option, None, IsSomeAnd}
use Rattle.wf_pixel.specs.declared.Size.{Size}
use Rattle.wf_pixel.specs.declared.Format.TheVariants.{Rgba8Pre}
use Rattle.wf_image.specs.Bitmap.{Bitmap}
use Rattle.wf_model.specs.State.{Running}
use Rattle.wf_machine.specs.declared.frame.Frame.{Frame}
use Rattle.wf_machine.specs.declared.port.Port.{Port}

-- an image for the frames of a mode is there
abbrev pub IsFrameImage : Size → Option Bitmap → Type 0
IsFrameImage size place = IsSomeAnd place (λ image. (image.size ≡ size) × (image.format ≡ Rgba8Pre))

-- the image of a mode, or none where that is the one that is away
abbrev pub HoldsAt : ℕ → Size → Option Bitmap → Type 0
HoldsAt (suc zero) size place = place ≡ None
HoldsAt _ size place = IsFrameImage size place

-- an image of each mode, but for one counted from 1; for 0, of every mode
abbrev pub HoldsBut : ℕ → List Size → List (Option Bitmap) → Type 0
HoldsBut mode [] [] = Unit {0}
HoldsBut mode (size ∷ sizes) (place ∷ places) = HoldsAt mode size place × HoldsBut (mode - 1) sizes places
HoldsBut mode _ _ = ⊥

-- the sizes of a port's images
abbrev pub sizes_of : Port → List Size
sizes_of p = p.modes.items

abbrev pub running_of : Frame → Running
running_of f = record { number = f.number; kind = f.kind; size = f.size; format = f.format; contents = f.contents.items }
