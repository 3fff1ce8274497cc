use Rattle.std.proofs.Common.{ℕ, List, [], ◌∷◌, refl}
use Rattle.wf_row.proofs.Tiles.{TurnsLanes, turned_are}
use Rattle.wf_row.proofs.columns.turn_lanes.Goals as goal

abbrev left : List ℕ
left = 0 ∷ 1 ∷ 2 ∷ 3 ∷ 16 ∷ 17 ∷ 18 ∷ 19 ∷ 4 ∷ 5 ∷ 6 ∷ 7 ∷ 20 ∷ 21 ∷ 22 ∷ 23 ∷ []

abbrev right : List ℕ
right = 8 ∷ 9 ∷ 10 ∷ 11 ∷ 24 ∷ 25 ∷ 26 ∷ 27 ∷ 12 ∷ 13 ∷ 14 ∷ 15 ∷ 28 ∷ 29 ∷ 30 ∷ 31 ∷ []

abbrev lower : List ℕ
lower = 0 ∷ 1 ∷ 2 ∷ 3 ∷ 4 ∷ 5 ∷ 6 ∷ 7 ∷ 16 ∷ 17 ∷ 18 ∷ 19 ∷ 20 ∷ 21 ∷ 22 ∷ 23 ∷ []

abbrev upper : List ℕ
upper = 8 ∷ 9 ∷ 10 ∷ 11 ∷ 12 ∷ 13 ∷ 14 ∷ 15 ∷ 24 ∷ 25 ∷ 26 ∷ 27 ∷ 28 ∷ 29 ∷ 30 ∷ 31 ∷ []

pub returns : goal.returns
returns c =
    let a = c.args in
    let len = c.requires in
    let by = λ (ks ls : List ℕ) (j : ℕ) (same : TurnsLanes ks ls j). turned_are ks ls j same a.a a.b a.c a.d len.a len.b len.c len.d in
    record {
      first = by left lower 0 (λ a b c d. refl);
      second = by left upper 1 (λ a b c d. refl);
      third = by right lower 2 (λ a b c d. refl);
      fourth = by right upper 3 (λ a b c d. refl);
    }
