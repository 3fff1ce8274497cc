-- The pixels of a word, read one by one.
use Rattle.std.proofs.Common.{◌≡◌, ◌∙◌, ℕ, ◌<◌, ◌≤◌, Ok, Err, List, [], ◌∷◌, ◌++◌, length, take, drop, refl, ap, arith, append-nil}
use Rattle.wf_words.specs.Refusals.{◌>>=◌}
use Rattle.wf_pixel.specs.declared.Rgba.{Rgba}
use Rattle.wf_script.specs.declared.rule.Rule.{Rule}
use Rattle.wf_script.specs.declared.rule.Rule.TheVariants as rule
use Rattle.wf_script.specs.PaintWords.{hex_pixel, hex_pixels}
use Rattle.wf_script.proofs.Behind.{joined}
use Rattle.wf_script.specs.Items.{behind}

-- eight digits are a pixel
eight : (word : List ℕ) → 8 ≤ length word → hex_pixels word
    ≡ (hex_pixel (take 8 word) >>= (λ pixel. hex_pixels (drop 8 word) >>= (λ pixels. Ok (pixel ∷ pixels))))
unfolding hex_pixels
eight (a ∷ b ∷ c ∷ d ∷ e ∷ f ∷ g ∷ h ∷ rest) long = refl
eight _ long = absurd (omega arith)

-- fewer are none
pub too_short : (word : List ℕ) → 0 < length word → length word < 8 → hex_pixels word ≡ Err rule.Word
unfolding hex_pixels
too_short [] some short = absurd (omega arith)
too_short (a ∷ b ∷ c ∷ d ∷ e ∷ f ∷ g ∷ h ∷ rest) some short = absurd (omega arith)
too_short _ some short = refl

-- one more pixel
pub pixel_more : (done : List Rgba) (word digits left : List ℕ) (pixel : Rgba) → 8 ≤ length word → digits ≡ take 8 word → left ≡ drop 8 word
    → hex_pixel digits ≡ Ok pixel → behind done (hex_pixels word) ≡ behind (done ++ pixel ∷ []) (hex_pixels left)
pixel_more done word digits left pixel long front back is =
    let read : hex_pixels word ≡ (hex_pixels left >>= (λ pixels. Ok (pixel ∷ pixels))) = eight word long ∙ rw (← front, ← back, is) refl in
    ap (behind done) read ∙ joined done pixel (hex_pixels left)

-- digits that are no pixel
pub no_pixel : (done : List Rgba) (word digits : List ℕ) (broken : Rule) → 8 ≤ length word → digits ≡ take 8 word
    → hex_pixel digits ≡ Err broken → behind done (hex_pixels word) ≡ Err broken
no_pixel done word digits broken long front isnt =
    let read : hex_pixels word ≡ Err broken = eight word long ∙ rw (← front, isnt) refl in
    ap (behind done) read

-- no digit is left
pub pixels_end : (done : List Rgba) (word : List ℕ) → length word ≡ 0 → behind done (hex_pixels word) ≡ Ok done
unfolding hex_pixels
pixels_end done [] none = rw (append-nil done) refl
pixels_end done (x ∷ xs) none = absurd (omega arith)
