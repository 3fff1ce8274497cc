-- Streams by number: what a look-up finds, and what a change leaves.
use Rattle.wf_machine.proofs.Common.{◌≡◌, ℕ, ◌<◌, ◌≤◌, true, false, cond, ◌==◌, ◌&&◌, not, List, [], ◌∷◌, Some, None, refl}
use Rattle.wf_machine.proofs.Common.{ap, subst, arith, eq-eqb, nat_tests, Buffers}
use Rattle.wf_machine.proofs.Common.{KeptStream, IsNumbered, change_stream, stream_at, stream_of}

pub change_below : (low high n : ℕ) (f : Buffers → Buffers) (streams : List KeptStream) → IsNumbered low streams high → n ≤ low
    → change_stream n f streams ≡ streams
change_below low high n f [] rising under = refl
change_below low high n f (s ∷ streams) rising under =
    let apart : (s.number == n) ≡ false = grind (arith, nat_tests, rising.0) in
    rw apart (ap (λ ss. s ∷ ss) (change_below s.number high n f streams rising.1 (omega (arith, rising.0))))

pub stream_below : (low high n : ℕ) (streams : List KeptStream) → IsNumbered low streams high → n ≤ low → stream_at n streams ≡ None
stream_below low high n [] rising under = refl
stream_below low high n (s ∷ streams) rising under =
    let apart : (s.number == n) ≡ false = grind (arith, nat_tests, rising.0) in
    rw apart (stream_below s.number high n streams rising.1 (omega (arith, rising.0)))

-- the stream of a handle is that of its number
above : (low high h : ℕ) (streams : List KeptStream) (s : KeptStream) → IsNumbered low streams high → stream_of h streams ≡ Some s
    → low < s.number
above low high h [] s rising found = absurd cc
above low high h (t ∷ streams) s rising found =
    elim ((t.handle == h) && not (h == 0)) as (λ b. cond b (Some t) (stream_of h streams) ≡ Some s → low < s.number) [
      | true ↦ λ same. (let is : t ≡ s = cc in subst (λ u. low < u.number) is rising.0)
      | false ↦ λ same. (let later = above t.number high h streams s rising.1 same in omega (arith, later, rising.0))
    ] found

pub of_handle : (low high h : ℕ) (streams : List KeptStream) (s : KeptStream) → IsNumbered low streams high → stream_of h streams ≡ Some s
    → stream_at s.number streams ≡ Some s
of_handle low high h [] s rising found = absurd cc
of_handle low high h (t ∷ streams) s rising found =
    elim ((t.handle == h) && not (h == 0)) as (λ b. cond b (Some t) (stream_of h streams) ≡ Some s
    → cond (t.number == s.number) (Some t) (stream_at s.number streams) ≡ Some s) [
      | true ↦ λ same. (let is : t ≡ s = cc in let here : (t.number == s.number)
          ≡ true = eq-eqb t.number s.number (ap (λ u. u.number) is) in rw here same)
      | false ↦ λ same. (let later = above t.number high h streams s rising.1 same in
          let apart : (t.number == s.number) ≡ false = grind (arith, nat_tests, later) in
          rw apart (of_handle t.number high h streams s rising.1 same))
    ] found
