-- A store whose streams have the names of composition and at most one other each, a live handle or a port, as before a machine runs.
use Rattle.std.proofs.Common.{◌≡◌, ℕ, ◌+◌, ◌<◌, ◌≤◌, true, false, ◌==◌, List, length, refl, ap, ◌∙◌, arith}
use Rattle.std.proofs.lemmas.Bool.{eqb-true}
use Rattle.std.proofs.lemmas.Bool.Decides.{nat_tests}
use Rattle.std.proofs.lemmas.List.Sums.{count_by-le-length}
use Rattle.wf_stream.specs.Counts.{times}
use Rattle.wf_stream.specs.Streams.{StoreView, count_of}
use Rattle.wf_stream.specs.Names.{HasRoom, NamesFit, Recounts}
use Rattle.wf_stream.specs.Renames.{named_again}
use Rattle.wf_model.specs.declared.TheConstants.{MOST_CORE_NAMES}

pub record AreOurs (names : List ℕ) (v : StoreView) : Type 0 where
  pub fit : NamesFit names v
  pub others : (n : ℕ) → 0 < n → count_of n v ≤ times n names + 1
  pub none : count_of 0 v ≡ 0

-- so it is behind a call
pub ours_again : (u v : StoreView) (old new : List ℕ) → AreOurs old u → Recounts old new u v → AreOurs new v
ours_again u v old new ours names =
    record {
      fit = named_again u v old new ours.fit names;
      others = λ n some. (
          let counts = names.counts n some in
          let was = ours.others n some in
          let fit = ours.fit.named n some in
          omega (arith, counts, was, fit));
      none = names.none 0 ours.none;
    }

-- and there is room for names where there are few
pub ours_room : (names : List ℕ) (v : StoreView) → AreOurs names v → length names ≤ MOST_CORE_NAMES → HasRoom v
ours_room names v ours few n =
    elim (n == 0) as (λ b. (n == 0) ≡ b → count_of n v < 2147483648) [
      | true ↦ λ is. (
          let zero = eqb-true n 0 is in
          let none : count_of n v ≡ 0 = ap (λ k. count_of k v) zero ∙ ours.none in
          omega (arith, none))
      | false ↦ λ is. (
          let some : 0 < n = grind (arith, nat_tests, is) in
          let most = ours.others n some in
          let named = count_by-le-length (λ k. k == n) names in
          omega (arith, most, named, few))
    ] refl
