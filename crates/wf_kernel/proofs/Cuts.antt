-- Strips, and what is cut off them.
use Rattle.std.proofs.Common.{◌≡◌, ℕ, zero, suc, ◌+◌, ◌-◌, ◌<◌, ◌≤◌, List, [], ◌∷◌, length, take, get_or, ap, sym, ◌∙◌, inl, inr}
use Rattle.std.proofs.Common.{arith, add-zero}
use Rattle.std.specs.Prelude.{Option, None, Some, IfSome}
use Rattle.std.proofs.lemmas.Bool.{cases_lt}
use Rattle.std.proofs.lemmas.List.{take_all}
use Rattle.wf_pixel.specs.declared.Rgba.{Rgba}
use Rattle.wf_pixel.specs.declared.Format.TheVariants.{Rgba8Pre}
use Rattle.wf_image.specs.Bitmap.{stored, drawn_row}
use Rattle.wf_model.specs.Picture.{on_top}
use Rattle.wf_kernel.specs.declared.spans.Span.{Span}
use Rattle.wf_kernel.specs.declared.strips.Strip.{Strip}
use Rattle.wf_kernel.specs.Bound.{Bound, bound_texel, bound_colour, layer_at, no_bound}
use Rattle.wf_kernel.specs.Placed.{placed, column_of, row_of}
use Rattle.wf_kernel.specs.Spans.{IsReach}
use Rattle.wf_kernel.specs.Hiding.{IsCover, IsBeside}
use Rattle.wf_kernel.specs.Strips.{IsStrip, IsCut}
use Rattle.wf_kernel.proofs.Pixels.{pieces_same}
use Rattle.wf_kernel.proofs.Shown.{bound_beside, bound_above}
use Rattle.wf_kernel.proofs.Stacks.{colour_more}

-- ---- pieces that a layer does not reach
pub beside_left : (b : Bound) (columns : Span) (first w y : ℕ) → IsReach (column_of b) (placed b).w columns → first + w ≤ columns.start
    → IsBeside b first w y
beside_left b columns first w y reach low x within = bound_beside b (first + x) y (reach.before (first + x) (omega arith))

pub beside_right : (b : Bound) (columns : Span) (first w y : ℕ) → IsReach (column_of b) (placed b).w columns
    → columns.start + columns.len ≤ first → IsBeside b first w y
beside_right b columns first w y reach high x within = bound_beside b (first + x) y (reach.behind (first + x) (omega arith))

pub beside_above : (b : Bound) (rows : Span) (first w y : ℕ) → IsReach (row_of b) (placed b).h rows → y < rows.start
    → IsBeside b first w y
beside_above b rows first w y reach low x within = bound_above b (first + x) y (reach.before y low)

pub beside_below : (b : Bound) (rows : Span) (first w y : ℕ) → IsReach (row_of b) (placed b).h rows → rows.start + rows.len ≤ y
    → IsBeside b first w y
beside_below b rows first w y reach high x within = bound_above b (first + x) y (reach.behind y high)

-- ---- the base of a strip
-- it is one of the layers
pub base_low : (layers : List Bound) (w j : ℕ) (s : Strip) → IsStrip layers w s → s.base ≡ Some j → j < length layers
base_low layers w j s strip base = let low = rw base at strip.base in let top = strip.top in omega arith

-- it covers the strip's pixels in each row
pub base_covers : (layers : List Bound) (w j y : ℕ) (s : Strip) → IsStrip layers w s → s.base ≡ Some j → s.from ≤ y → y < s.bottom
    → IsCover (layer_at layers j) s.first s.width y
base_covers layers w j y s strip base from bottom = let covers = rw base at strip.cover in covers no_bound y from bottom

-- ---- strips cut
-- a strip of fewer pixels or rows, with a base that covers it or none
cut_with : (layers : List Bound) (w : ℕ) (s t : Strip) → IsStrip layers w s → IsCut s t → t.top ≡ s.top → IfSome t.base (λ j. j < t.top)
    → IfSome t.base (λ j. (d : Bound) (y : ℕ) → t.from ≤ y → y < t.bottom → IsCover (get_or layers j d) t.first t.width y)
    → IsStrip layers w t
cut_with layers w s t strip cut top base cover =
    let first = cut.first in let from = cut.from in let width = cut.width in let bottom = cut.bottom in
    let within = strip.within in let top_in = strip.top in
    record {
      within = omega arith;
      some = λ y a b. cut.some;
      top = omega arith;
      base = base;
      cover = cover;
      beside = λ i d y a b c e x low.
          let n : t.first + x ≡ s.first + x = omega arith in
          ap (λ (j : ℕ). bound_texel (get_or layers i d) j y) n
          ∙ strip.beside i d y (omega arith) b (omega arith) (omega arith) x (omega arith);
    }

-- without a base
pub cut_strip : (layers : List Bound) (w : ℕ) (s t : Strip) → IsStrip layers w s → IsCut s t → t.base ≡ None → t.top ≡ s.top
    → IsStrip layers w t
cut_strip layers w s t strip cut none top = cut_with layers w s t strip cut top (rw none tt) (rw none tt)

-- with this base
pub based_strip : (layers : List Bound) (w j : ℕ) (s t : Strip) → IsStrip layers w s → IsCut s t → t.base ≡ Some j → t.top ≡ s.top
    → j < s.top
    → ((d : Bound) (y : ℕ) → t.from ≤ y → y < t.bottom → IsCover (get_or layers j d) t.first t.width y) → IsStrip layers w t
based_strip layers w j s t strip cut base top low cover =
    let in_top : j < t.top = omega arith in
    cut_with layers w s t strip cut top (rw base in_top) (rw base cover)

-- one layer fewer on top
pub topped_strip : (layers : List Bound) (w n : ℕ) (s t : Strip) → IsStrip layers w s → s.top ≡ n + 1 → t.first ≡ s.first
    → t.width ≡ s.width → t.from ≡ s.from → t.bottom ≡ s.bottom → t.base ≡ None → t.top ≡ n
    → ((d : Bound) (y : ℕ) → s.from ≤ y → y < s.bottom → IsBeside (get_or layers n d) s.first s.width y) → IsStrip layers w t
topped_strip layers w n s t strip top first width from bottom none top_is beside =
    let within = strip.within in
    let top_in = strip.top in
    record {
      within = omega arith;
      some = λ y a b. let some = strip.some y (omega arith) (omega arith) in omega arith;
      top = omega arith;
      base = rw none tt;
      cover = rw none tt;
      beside = λ i d y a b c e x low.
          let at : t.first + x ≡ s.first + x = omega arith in
          ap (λ (j : ℕ). bound_texel (get_or layers i d) j y) at
          ∙ elim (cases_lt n i) [
            | inl more ↦ strip.beside i d y (omega arith) b (omega arith) (omega arith) x (omega arith)
            | inr less ↦ (let same : i ≡ n = omega arith in
                ap (λ (j : ℕ). bound_texel (get_or layers j d) (s.first + x) y) same
                ∙ beside d y (omega arith) (omega arith) x (omega arith))
          ];
    }

-- the layers above count for nothing
colour_top : (layers : List Bound) (d : Bound) (background : Rgba) (x y top n : ℕ) → top + n ≤ length layers
    → ((i : ℕ) → top ≤ i → i < length layers → bound_texel (get_or layers i d) x y ≡ None)
    → bound_colour (take (top + n) layers) background x y ≡ bound_colour (take top layers) background x y
colour_top layers d background x y top zero within none = ap (λ (k : ℕ). bound_colour (take k layers) background x y) (add-zero top)
colour_top layers d background x y top (suc n) within none =
    let next : top + suc n ≡ top + n + 1 = omega arith in
    let below : Rgba = bound_colour (take (top + n) layers) background x y in
    ap (λ (k : ℕ). bound_colour (take k layers) background x y) next
    ∙ colour_more layers (top + n) d background x y (omega arith)
    ∙ ap (λ (t : Option Rgba). on_top t below) (none (top + n) (omega arith) (omega arith))
    ∙ colour_top layers d background x y top n (omega arith) none

drawn_by : (layers : List Bound) (d : Bound) (background : Rgba) (w y : ℕ) (s : Strip) → IsStrip layers w s → s.from ≤ y → y < s.bottom
    → drawn_row s.width Rgba8Pre (λ x. bound_colour (take s.top layers) background (s.first + x) y)
    ≡ drawn_row s.width Rgba8Pre (λ x. bound_colour layers background (s.first + x) y)
drawn_by layers d background w y s strip from bottom =
    pieces_same (λ x. stored Rgba8Pre (bound_colour (take s.top layers) background (s.first + x) y))
    (λ x. stored Rgba8Pre (bound_colour layers background (s.first + x) y)) 0 s.width
    (λ x low high.
    let n : ℕ = length layers - s.top in
    let top = strip.top in
    let all : s.top + n ≡ length layers = omega arith in
    ap (stored Rgba8Pre)
    (sym (colour_top layers d background (s.first + x) y s.top n (omega arith)
    (λ i a b. strip.beside i d y a b from bottom x (omega arith)))
    ∙ ap (λ (l : List Bound). bound_colour l background (s.first + x) y) (ap (λ (k : ℕ). take k layers) all
    ∙ take_all (length layers) layers (omega arith))))

pub strip_drawn : (layers : List Bound) (background : Rgba) (w y : ℕ) (s : Strip) → IsStrip layers w s → s.from ≤ y → y < s.bottom
    → drawn_row s.width Rgba8Pre (λ x. bound_colour (take s.top layers) background (s.first + x) y)
    ≡ drawn_row s.width Rgba8Pre (λ x. bound_colour layers background (s.first + x) y)
strip_drawn [] background w y s strip from bottom =
    let top_in = strip.top in
    let none : s.top ≡ 0 = omega arith in
    let empty : List Bound = [] in
    ap (λ (k : ℕ). drawn_row s.width Rgba8Pre (λ x. bound_colour (take k empty) background (s.first + x) y)) none
strip_drawn (l ∷ ls) background w y s strip from bottom = drawn_by (l ∷ ls) l background w y s strip from bottom

-- a part of a part, with any number of layers
pub cut_more : (a s t n : Strip) → IsCut a s → IsCut s t → n.first ≡ t.first → n.width ≡ t.width → n.from ≡ t.from → n.bottom ≡ t.bottom
    → IsCut a n
cut_more a s t n one two first width from bottom =
    let a1 = one.first in let a2 = one.from in let a3 = one.width in let a4 = one.bottom in
    let b1 = two.first in let b2 = two.from in let b3 = two.width in let b4 = two.bottom in let b5 = two.some in let b6 = two.rows in
    record { first = omega arith; from = omega arith; some = omega arith; width = omega arith; rows = omega arith; bottom = omega arith }

-- a strip of no rows
pub no_rows : (layers : List Bound) (w : ℕ) (s : Strip) → s.first ≡ 0 → s.width ≡ 0 → s.bottom ≡ 0 → s.base ≡ None → s.top ≡ 0
    → IsStrip layers w s
no_rows layers w s first width bottom none top =
    record {
      within = omega arith;
      some = λ y a b. absurd (omega arith);
      top = omega arith;
      base = rw none tt;
      cover = rw none tt;
      beside = λ i d y a b c e. absurd (omega arith);
    }
