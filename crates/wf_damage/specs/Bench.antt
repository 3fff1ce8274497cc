-- What a bench keeps, and what it asks its brush for.
use Rattle.std.specs.Prelude.{◌≡◌, ◌≢◌, ℕ, ◌+◌, ◌-◌, ◌*◌, ◌%◌, ◌^◌, ◌==◌, ◌&&◌, Bool, false, nat_le, List, [], ◌∷◌, length}
use Rattle.std.specs.Prelude.{All, Option, Some, None, IfSome, slice_index_or, if◌then◌else◌}
use Rattle.std.specs.List.{list_any}
use Rattle.wf_pixel.specs.declared.Rect.{Rect}
use Rattle.wf_pixel.specs.Choice.{same_size}
use Rattle.wf_image.specs.Bitmap.{Bitmap, pixel, pixel_bytes, drawn}
use Rattle.wf_scene.specs.declared.Scene.{Scene}
use Rattle.wf_calls.specs.declared.call.JobKind.{JobKind}
use Rattle.wf_calls.specs.declared.call.JobKind.TheVariants.{Context, Port}
use Rattle.wf_model.specs.Picture.{Images, picture, picture_pixel}
use Rattle.wf_kernel.specs.Parts.{covers_at}
use Rattle.wf_damage.specs.declared.bench.Kept.{Kept}
use Rattle.wf_damage.specs.Areas.{areas_of, whole_of}

-- a bench: its brush, and what each of its places keeps, if it is not empty
pub record Benched (B : Type 0) : Type 0 where
  pub brush : B
  pub places : List (Option Kept)

-- the picture that is kept is the one of the scene and the images
pub record IsKept (k : Kept) : Type 0 where
  pub four : pixel_bytes k.picture.format ≡ 4
  pub picture_is : k.picture ≡ picture k.scene k.contents k.picture.format

-- there are twenty places, and each is empty or keeps the picture of its scene and its images
pub record ArePlaces (places : List (Option Kept)) : Type 0 where
  pub count : length places ≡ 20
  pub kept : All (λ place. IfSome place IsKept) places

-- the place that serves a kind of frame, or none
abbrev pub place_of : JobKind → Option ℕ
place_of (Context handle target) = Some (4 + handle % 16)
place_of (Port port) = if nat_le 1 port && nat_le port 4 then Some (port - 1) else None

-- both are frames of one context or of one port
abbrev pub same_kind : JobKind → JobKind → Bool
same_kind (Context handle target) (Context other into) = handle == other
same_kind (Port port) (Port other) = port == other
same_kind _ _ = false

-- what is kept is of the same context or port, and of the same size
abbrev pub serves : Kept → JobKind → Scene → Bool
serves k kind scene = same_kind k.kind kind && same_size k.scene.size scene.size

-- what the brush is asked for
abbrev pub asked : Option Kept → JobKind → Scene → Images → List Rect
asked None kind scene contents = whole_of scene ∷ []
asked (Some k) kind scene contents = if serves k kind scene then areas_of k.scene k.contents scene contents else whole_of scene ∷ []

-- what stands at the place of a kind of frame
abbrev pub kept_at : List (Option Kept) → Option ℕ → Option Kept
kept_at places None = None
kept_at places (Some i) = slice_index_or places i None

-- how many pixels an area has, also where it is partly outside
abbrev pub area : Rect → ℕ
area r = r.w * r.h

-- a count that rises by n, modulo 2^64
abbrev pub IsRise : ℕ → ℕ → ℕ → Type 0
IsRise old new n = new % 2 ^ 64 ≡ (old + n) % 2 ^ 64

-- an image with a scene's picture inside some rectangles of the space, and its old pixels elsewhere
abbrev pub over_picture : Scene → Images → List Rect → Bitmap → Bitmap
over_picture s contents rs old =
    drawn old.size old.format (λ x y. if list_any (λ r. covers_at s r x y) rs then picture_pixel s contents x y else pixel old x y)

-- the place that was used is empty or keeps this, and the others are as they were
pub record AreKept (old new : List (Option Kept)) (place : Option ℕ) (now : Kept) : Type 0 where
  pub len : length new ≡ length old
  pub others : (i : ℕ) → place ≢ Some i → slice_index_or new i None ≡ slice_index_or old i None
  pub used : (i : ℕ) → place ≡ Some i → IfSome (slice_index_or new i None) (λ k. k ≡ now)
