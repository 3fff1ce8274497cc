-- Layers laid over a row from the bottom up give the colours that are asked from the top down.
use Rattle.std.proofs.Common.{◌≡◌, ℕ, ◌+◌, ◌*◌, ◌<◌, List, [], ◌∷◌, ◌++◌, length, take, drop, get_or, map, refl, sym, ap, ◌∙◌, arith}
use Rattle.std.proofs.Common.{add-zero, zero-add}
use Rattle.std.specs.Prelude.{flat_map, reverse, Option}
use Rattle.std.specs.List.{range_with_len}
use Rattle.std.proofs.lemmas.List.{take_more, reverse-append}
use Rattle.wf_pixel.specs.declared.Rgba.{Rgba}
use Rattle.wf_pixel.specs.declared.Format.TheVariants.{Rgba8Pre}
use Rattle.wf_pixel.specs.Arithmetic.{channel_over, over}
use Rattle.wf_image.specs.Bitmap.{stored, read_at, drawn_row}
use Rattle.wf_model.specs.Picture.{on_top, stacked}
use borrow.Rule.Slice.PartMut.{put_mid}
use Rattle.wf_kernel.specs.Bound.{Bound, bound_texel, bound_colour}
use Rattle.wf_kernel.specs.Hiding.{IsOpaque, IsCover}
use Rattle.wf_kernel.specs.Laid.{laid}
use Rattle.wf_kernel.proofs.Pieces.{length-pieces, step, part_written}
use Rattle.wf_kernel.proofs.Pixels.{pieces_same, pieces_split, pieces_shift, read_drawn}

-- one more layer, on top of those below
pub colour_more : (layers : List Bound) (i : ℕ) (d : Bound) (background : Rgba) (x y : ℕ) → i < length layers
    → bound_colour (take (i + 1) layers) background x y
    ≡ on_top (bound_texel (get_or layers i d) x y) (bound_colour (take i layers) background x y)
colour_more layers i d background x y in_layers =
    ap (λ (ls : List Bound). stacked (map (λ b. bound_texel b x y) (reverse ls)) background) (take_more layers i d in_layers)
    ∙ ap (λ (ls : List Bound). stacked (map (λ b. bound_texel b x y) ls) background)
    (reverse-append (take i layers) (get_or layers i d ∷ []))

-- a layer laid over the row of those below it
pub laid_next : (first w : ℕ) (layers : List Bound) (i : ℕ) (d : Bound) (background : Rgba) (y : ℕ) (row : List ℕ) → i < length layers
    → row ≡ drawn_row w Rgba8Pre (λ x. bound_colour (take i layers) background (first + x) y)
    → laid w (λ x. bound_texel (get_or layers i d) (first + x) y) row
    ≡ drawn_row w Rgba8Pre (λ x. bound_colour (take (i + 1) layers) background (first + x) y)
laid_next first w layers i d background y row in_layers row_is =
    let below : ℕ → Rgba = λ x. bound_colour (take i layers) background (first + x) y in
    let texel : ℕ → Option Rgba = λ x. bound_texel (get_or layers i d) (first + x) y in
    pieces_same (λ x. stored Rgba8Pre (on_top (texel x) (read_at Rgba8Pre row (4 * x))))
    (λ x. stored Rgba8Pre (bound_colour (take (i + 1) layers) background (first + x) y)) 0 w
    (λ x low high.
    let read : read_at Rgba8Pre row (4 * x) ≡ below x = ap (λ (bytes : List ℕ). read_at Rgba8Pre bytes (4 * x)) row_is
    ∙ read_drawn w below x (omega arith) in
    ap (λ (c : Rgba). stored Rgba8Pre (on_top (texel x) c)) read
    ∙ ap (stored Rgba8Pre) (sym (colour_more layers i d background (first + x) y in_layers)))

-- ---- what an opaque texel hides
-- a channel under an alpha of 255
below : (a p d e : ℕ) → a ≡ 255 → channel_over a p d ≡ channel_over a p e
below a p d e full = ap (λ (n : ℕ). channel_over n p d) full ∙ omega arith ∙ sym (ap (λ (n : ℕ). channel_over n p e) full)

over_hidden : (t d e : Rgba) → t.a ≡ 255 → over t d ≡ over t e
over_hidden t d e full = λ i. record {
  r = below t.a t.r d.r e.r full i;
  g = below t.a t.g d.g e.g full i;
  b = below t.a t.b d.b e.b full i;
  a = below t.a t.a d.a e.a full i;
}

on_top_hidden : (t : Option Rgba) (d e : Rgba) → IsOpaque t → on_top t d ≡ on_top t e
on_top_hidden t d e opaque =
    ap (λ (texel : Option Rgba). on_top texel d) opaque.is ∙ over_hidden opaque.colour d e opaque.alpha
    ∙ sym (ap (λ (texel : Option Rgba). on_top texel e) opaque.is)

-- a layer that covers a row, laid over whatever is there
pub laid_first : (first w : ℕ) (layers : List Bound) (j : ℕ) (d : Bound) (background : Rgba) (y : ℕ) (row : List ℕ) → j < length layers
    → IsCover (get_or layers j d) first w y
    → laid w (λ x. bound_texel (get_or layers j d) (first + x) y) row
    ≡ drawn_row w Rgba8Pre (λ x. bound_colour (take (j + 1) layers) background (first + x) y)
laid_first first w layers j d background y row in_layers cover =
    let texel : ℕ → Option Rgba = λ x. bound_texel (get_or layers j d) (first + x) y in
    pieces_same (λ x. stored Rgba8Pre (on_top (texel x) (read_at Rgba8Pre row (4 * x))))
    (λ x. stored Rgba8Pre (bound_colour (take (j + 1) layers) background (first + x) y)) 0 w
    (λ x low high. ap (stored Rgba8Pre)
    (on_top_hidden (texel x) (read_at Rgba8Pre row (4 * x)) (bound_colour (take j layers) background (first + x) y) (cover x (omega arith))
    ∙ sym (colour_more layers j d background (first + x) y in_layers)))

-- n more pixels behind those that are written
pub strip_more : (colour : ℕ → Rgba) (a n at k : ℕ) (old piece first : List ℕ) → at ≡ 4 * a → k ≡ 4 * n
    → old ≡ drawn_row a Rgba8Pre colour ++ drop (4 * a) first → piece ≡ drawn_row n Rgba8Pre (λ i. colour (a + i))
    → put_mid at k old piece ≡ drawn_row (a + n) Rgba8Pre colour ++ drop (4 * (a + n)) first
strip_more colour a n at k old piece first at_is k_is old_is piece_is =
    let f : ℕ → List ℕ = λ x. stored Rgba8Pre (colour x) in
    let done : List ℕ = flat_map f (range_with_len 0 a) in
    let len : length done ≡ at = length-pieces f 4 0 a (λ x. refl) ∙ sym at_is in
    let before : old ≡ done ++ drop at first = old_is ∙ ap (λ (j : ℕ). done ++ drop j first) (sym at_is) in
    let both : done ++ piece ≡ flat_map f (range_with_len 0 (a + n)) =
    ap (λ (l : List ℕ). done ++ l) (piece_is ∙ sym (pieces_shift f a 0 n)
    ∙ ap (λ (j : ℕ). flat_map f (range_with_len j n)) (add-zero a ∙ sym (zero-add a))) ∙ sym (pieces_split f 0 a n) in
    let end : at + k ≡ 4 * (a + n) = omega arith in
    step done piece old (put_mid at k old piece) first at k (at + k) len refl before (part_written old piece at k (at + k) refl)
    ∙ (λ i. both i ++ drop (end i) first)
