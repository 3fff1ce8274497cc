-- The pixels that a side covers, counted from the start of the row.
use Rattle.std.proofs.Common.{◌≡◌, ℕ, ◌+◌, ◌-◌, ◌<◌, ◌≤◌, pos, negsuc, arith, sym, ap, ◌∙◌, inl, inr}
use Rattle.std.specs.Prelude.{Option, None, Some, nat_le, nat_lt, ◌&&◌, Bool, true, false, if◌then◌else◌}
use Rattle.std.proofs.lemmas.Bool.{cases_lt}
use Rattle.std.proofs.lemmas.Int.{ints}
use Rattle.std.proofs.lemmas.Bool.Decides.{nat_tests}
use Rattle.wf_pixel.specs.Along.{along}
use Rattle.wf_kernel.specs.declared.spans.Span.{Span}
use Rattle.wf_kernel.specs.Bound.{cut_to}
use Rattle.wf_kernel.specs.Spans.{IsReach}
use Rattle.wf_kernel.specs.declared.TheConstants.{FARTHEST}

pub along_some : (n w j k : ℕ) → j ≡ n + k → k < w → along (pos n) w (pos j) ≡ Some k
along_some n w j k sum within = grind (arith, ints, nat_tests)

pub along_before : (n w j : ℕ) → j < n → along (pos n) w (pos j) ≡ None
along_before n w j low = grind (arith, ints, nat_tests)

pub along_behind : (n w j : ℕ) → n + w ≤ j → along (pos n) w (pos j) ≡ None
along_behind n w j high = grind (arith, ints, nat_tests)

pub along_some_below : (m w j k : ℕ) → k ≡ m + 1 + j → k < w → along (negsuc m) w (pos j) ≡ Some k
along_some_below m w j k sum within = grind (arith, ints, nat_tests)

pub along_behind_below : (m w j : ℕ) → w ≤ m + 1 + j → along (negsuc m) w (pos j) ≡ None
along_behind_below m w j high = grind (arith, ints, nat_tests)

-- a pixel that is covered lies in the reach
pub reach_holds : (side : ℕ → Option ℕ) (w : ℕ) (s : Span) (j a : ℕ) → IsReach side w s → side j ≡ Some a
    → (s.start ≤ j) × ((j < s.start + s.len) × (a ≡ s.skip + (j - s.start)))
reach_holds side w s j a reach e =
    let low : s.start ≤ j =
    elim (cases_lt j s.start) [ inl less ↦ absurd (let wrong : Some a ≡ None = sym e ∙ reach.before j less in cc) | inr more ↦ more ] in
    let high : j < s.start + s.len =
    elim (cases_lt j (s.start + s.len)) [
      | inl less ↦ less
      | inr more ↦ absurd (let wrong : Some a ≡ None = sym e
          ∙ reach.behind j more in cc)
    ] in
    let i : ℕ = j - s.start in
    let at : s.start + i ≡ j = omega arith in
    let same : Some (s.skip + i) ≡ Some a = sym (reach.covered i (omega arith)) ∙ ap side at ∙ e in
    (low, (high, (cc)))

-- ---- columns that are asked for
-- one of them
pub cut_in : {X : Type 0} (left right x : ℕ) (o : Option X) → left ≤ x → x < right → cut_to left right x o ≡ o
cut_in left right x o low high =
    let is : (nat_le left x && nat_lt x right) ≡ true = grind (arith, nat_tests) in
    ap (λ (b : Bool). if b then o else None) is

-- there is nothing in any of them
pub cut_none : {X : Type 0} (left right x : ℕ) (o : Option X) → (left ≤ x → x < right → o ≡ None) → cut_to left right x o ≡ None
cut_none left right x o none =
    elim (cases_lt x left) [
      | inl less ↦ (let out : (nat_le left x && nat_lt x right) ≡ false = grind (arith, nat_tests) in
          ap (λ (b : Bool). if b then o else None) out)
      | inr from ↦ elim (cases_lt x right) [
        | inl within ↦ cut_in left right x o from within ∙ none from within
        | inr more ↦ (let out : (nat_le left x && nat_lt x right) ≡ false = grind (arith, nat_tests) in
            ap (λ (b : Bool). if b then o else None) out)
      ]
    ]

-- what is there is in one of them
pub cut_some : {X : Type 0} (left right x : ℕ) (o : Option X) (a : X) → cut_to left right x o ≡ Some a
    → (left ≤ x) × ((x < right) × (o ≡ Some a))
cut_some left right x o a e =
    let low : left ≤ x =
    elim (cases_lt x left) [
      | inl less ↦ absurd (let wrong : Some a ≡ None = sym e ∙ cut_none left right x o (λ a b. absurd (omega arith)) in cc)
      | inr more ↦ more
    ] in
    let high : x < right =
    elim (cases_lt x right) [
      | inl less ↦ less
      | inr more ↦ absurd (let wrong : Some a ≡ None = sym e ∙ cut_none left right x o (λ a b. absurd (omega arith)) in cc)
    ] in
    (low, (high, sym (cut_in left right x o low high) ∙ e))

-- no column is covered
pub reach_none : (side : ℕ → Option ℕ) (w left right : ℕ) (s t : Span) → IsReach side w s
    → ((j : ℕ) → left ≤ j → j < right → s.start ≤ j → s.start + s.len ≤ j) → t.start ≡ 0 → t.skip ≡ 0 → t.len ≡ 0
    → IsReach (λ j. cut_to left right j (side j)) w t
reach_none side w left right s t reach out start skip len =
    let none : (j : ℕ) → cut_to left right j (side j) ≡ None =
    λ j. cut_none left right j (side j) (λ low high. elim (cases_lt j s.start) [
      | inl less ↦ reach.before j less
      | inr more ↦ reach.behind j (out j low high more)
    ]) in
    record {
      inside = omega arith;
      start_high = omega arith;
      w_high = reach.w_high;
      before = λ j low. none j;
      behind = λ j high. none j;
      covered = λ i low. absurd (omega arith);
    }

-- some are
pub reach_some : (side : ℕ → Option ℕ) (w left right from to : ℕ) (s t : Span) → IsReach side w s
    → s.start ≤ from → left ≤ from → from < to → to ≤ s.start + s.len → to ≤ right → right ≤ FARTHEST
    → ((j : ℕ) → left ≤ j → j < from → j < s.start) → ((j : ℕ) → to ≤ j → j < right → s.start + s.len ≤ j)
    → t.start ≡ from → t.skip ≡ s.skip + (from - s.start) → t.len ≡ to - from → IsReach (λ j. cut_to left right j (side j)) w t
reach_some side w left right from to s t reach a b c d e few before behind start_is skip_is len_is =
    let inside = reach.inside in
    record {
      inside = omega arith;
      start_high = omega arith;
      w_high = reach.w_high;
      before = λ j low. cut_none left right j (side j) (λ from_left to_right. reach.before j (before j from_left (omega arith)));
      behind = λ j high. cut_none left right j (side j) (λ from_left to_right. reach.behind j (behind j (omega arith) to_right));
      covered = λ i low.
          let at : t.start + i ≡ s.start + (from - s.start + i) = omega arith in
          let to : s.skip + (from - s.start + i) ≡ t.skip + i = omega arith in
          cut_in left right (t.start + i) (side (t.start + i)) (omega arith) (omega arith)
          ∙ ap side at ∙ reach.covered (from - s.start + i) (omega arith) ∙ ap (λ (k : ℕ). Some k) to;
    }
