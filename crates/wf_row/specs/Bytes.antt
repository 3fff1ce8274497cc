-- Rows of bytes, four for each pixel, and their lanes.
use Rattle.std.specs.Prelude.{◌≡◌, ℕ, ◌<◌, List, [], ◌∷◌, length, map, Option, Some, None}
use Rattle.std.specs.Simd.Lanes.{Each1}
use Rattle.wf_pixel.specs.Arithmetic.{mul, channel_over}
use Rattle.wf_row.specs.declared.AlphaMode.{AlphaMode}
use Rattle.wf_row.specs.declared.AlphaMode.TheVariants.{Premultiplied, Straight, Opaque}

-- n lanes, each of a byte
pub record AreBytes (n : ℕ) (xs : List ℕ) : Type 0 where
  pub count : length xs ≡ n
  pub below : Each1 (λ x. x < 256) xs

-- the lower and the upper bytes of the words
abbrev pub lows : List ℕ → List ℕ
lows (a ∷ b ∷ xs) = a ∷ lows xs
lows _ = []

abbrev pub highs : List ℕ → List ℕ
highs (a ∷ b ∷ xs) = b ∷ highs xs
highs _ = []

-- the bytes of the words with these lower and upper bytes
abbrev pub joined : List ℕ → List ℕ → List ℕ
joined (a ∷ xs) (b ∷ ys) = a ∷ b ∷ joined xs ys
joined _ _ = []

-- 16 words by their lower and upper bytes
pub record AreHalves (low high : List ℕ) : Type 0 where
  pub low_bytes : AreBytes 16 low
  pub high_bytes : AreBytes 16 high

-- each second number, twice
abbrev pub seconds : List ℕ → List ℕ
seconds (a ∷ b ∷ xs) = b ∷ b ∷ seconds xs
seconds _ = []

-- each second number made 255
abbrev pub solid : List ℕ → List ℕ
solid (a ∷ b ∷ xs) = a ∷ 255 ∷ solid xs
solid _ = []

-- each number, twice
abbrev pub twice : List ℕ → List ℕ
twice (a ∷ xs) = a ∷ a ∷ twice xs
twice [] = []

-- the pixels of a source as premultiplied ones, by the alpha that each stores, or opaque
abbrev pub premultiplied_bytes : AlphaMode → List ℕ → List ℕ
premultiplied_bytes Premultiplied xs = xs
premultiplied_bytes Straight (r ∷ g ∷ b ∷ a ∷ xs) = mul r a ∷ mul g a ∷ mul b a ∷ a ∷ premultiplied_bytes Straight xs
premultiplied_bytes Opaque (r ∷ g ∷ b ∷ a ∷ xs) = r ∷ g ∷ b ∷ 255 ∷ premultiplied_bytes Opaque xs
premultiplied_bytes _ _ = []

-- each channel times k
abbrev pub faded_bytes : ℕ → List ℕ → List ℕ
faded_bytes k xs = map (λ x. mul x k) xs

-- the channels of each pixel times its mask
abbrev pub masked_bytes : List ℕ → List ℕ → List ℕ
masked_bytes (m ∷ ms) (r ∷ g ∷ b ∷ a ∷ xs) = mul r m ∷ mul g m ∷ mul b m ∷ mul a m ∷ masked_bytes ms xs
masked_bytes _ _ = []

-- premultiplied pixels over those of a row
abbrev pub over_bytes : List ℕ → List ℕ → List ℕ
over_bytes (r ∷ g ∷ b ∷ a ∷ ps) (u ∷ v ∷ w ∷ z ∷ ds) =
    channel_over a r u ∷ channel_over a g v ∷ channel_over a b w ∷ channel_over a a z ∷ over_bytes ps ds
over_bytes _ _ = []

-- the pixels of a source as premultiplied ones, times k where they are faded
abbrev pub lifted : AlphaMode → Option ℕ → List ℕ → List ℕ
lifted mode (Some k) xs = faded_bytes k (premultiplied_bytes mode xs)
lifted mode None xs = premultiplied_bytes mode xs

-- the pixels of a source, lifted, over those of a row
abbrev pub blended : AlphaMode → Option ℕ → List ℕ → List ℕ → List ℕ
blended mode fade xs ys = over_bytes (lifted mode fade xs) ys

-- the same, each pixel of the source times its mask before it is laid over the row's
abbrev pub blended_masked : AlphaMode → Option ℕ → List ℕ → List ℕ → List ℕ → List ℕ
blended_masked mode fade ms xs ys = over_bytes (masked_bytes ms (lifted mode fade xs)) ys
