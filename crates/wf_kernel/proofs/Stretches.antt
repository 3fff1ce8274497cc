-- The pixels of a piece of a row that a layer covers.
use Rattle.std.proofs.Common.{◌≡◌, ℕ, ◌+◌, ◌-◌, ◌<◌, ◌≤◌, pos, ap, ◌∙◌, inl, inr, arith}
use Rattle.std.specs.Prelude.{None, Some}
use Rattle.std.proofs.lemmas.Bool.{cases_lt}
use Rattle.wf_kernel.specs.declared.spans.Span.{Span}
use Rattle.wf_kernel.specs.declared.stretch.Stretch.{Stretch}
use Rattle.wf_kernel.specs.Bound.{Bound, bound_texel}
use Rattle.wf_kernel.specs.Placed.{placed, column_of, row_of}
use Rattle.wf_kernel.specs.Spans.{IsReach}
use Rattle.wf_kernel.specs.Laid.{IsStretchIn}
use Rattle.wf_kernel.proofs.Placed.{along_low}
use Rattle.wf_kernel.proofs.Shown.{bound_beside, bound_above}
use Rattle.wf_pixel.specs.declared.TheConstants.{MOST_SIDE}

-- none is covered
pub columns_empty : (b : Bound) (columns : Span) (first width y : ℕ) → IsReach (column_of b) (placed b).w columns
    → ((j : ℕ) → first ≤ j → j < first + width → columns.start ≤ j → columns.start + columns.len ≤ j)
    → (j : ℕ) → j < width → bound_texel b (first + j) y ≡ None
columns_empty b columns first width y reach out j low =
    bound_beside b (first + j) y (elim (cases_lt (first + j) columns.start) [
      | inl less ↦ reach.before (first + j) less
      | inr more ↦ reach.behind (first + j) (out (first + j) (omega arith) (omega arith) more)
    ])

pub rows_before : (b : Bound) (rows : Span) (first y : ℕ) → IsReach (row_of b) (placed b).h rows → y < rows.start → (j : ℕ)
    → bound_texel b (first + j) y ≡ None
rows_before b rows first y reach low j = bound_above b (first + j) y (reach.before y low)

pub rows_behind : (b : Bound) (rows : Span) (first y : ℕ) → IsReach (row_of b) (placed b).h rows → rows.start + rows.len ≤ y → (j : ℕ)
    → bound_texel b (first + j) y ≡ None
rows_behind b rows first y reach high j = bound_above b (first + j) y (reach.behind y high)

-- some are
pub stretch_is : (b : Bound) (columns rows : Span) (first width y from to : ℕ) (s : Stretch) → IsReach (column_of b) (placed b).w columns
    → IsReach (row_of b) (placed b).h rows
    → columns.start ≤ from → first ≤ from → from < to → to ≤ columns.start + columns.len → to ≤ first + width → first + width ≤ MOST_SIDE
    → ((j : ℕ) → first ≤ j → j < from → j < columns.start) → ((j : ℕ) → to ≤ j → j < first + width → columns.start + columns.len ≤ j)
    → rows.start ≤ y → y < rows.start + rows.len
    → s.x ≡ from → s.y ≡ y → s.across ≡ columns.skip + (from - columns.start) → s.down ≡ rows.skip + (y - rows.start) → s.len ≡ to - from
    → IsStretchIn b first width y s
stretch_is b columns rows first width y from to s across down a c d e f few left right above below x_is y_is across_is down_is len_is =
    let inside = across.inside in
    let i : ℕ = y - rows.start in
    let at_row : s.y ≡ rows.start + i = omega arith in
    let is_down : rows.skip + i ≡ s.down = omega arith in
    let row : row_of b s.y ≡ Some s.down =
    ap (row_of b) at_row ∙ down.covered i (omega arith) ∙ ap (λ (k : ℕ). Some k) is_down in
    record {
      stretch = record {
        some = omega arith;
        high = omega arith;
        inside = omega arith;
        below = along_low (placed b).y (placed b).h (pos s.y) s.down row;
        columns = λ j low.
            let at : s.x + j ≡ columns.start + (from - columns.start + j) = omega arith in
            let to : columns.skip + (from - columns.start + j) ≡ s.across + j = omega arith in
            ap (column_of b) at ∙ across.covered (from - columns.start + j) (omega arith)
            ∙ ap (λ (k : ℕ). Some k) to;
        row = row;
      };
      row = y_is;
      start = omega arith;
      end = omega arith;
      before = λ j low. bound_beside b (first + j) y (across.before (first + j) (left (first + j) (omega arith) (omega arith)));
      behind = λ j high low. bound_beside b (first + j) y (across.behind (first + j) (right (first + j) (omega arith) (omega arith)));
    }
