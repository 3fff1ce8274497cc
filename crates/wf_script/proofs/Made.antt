-- The script of the generator has what holds of every script.
use Rattle.std.proofs.Common.{◌≡◌, ◌∙◌, ℕ, zero, suc, ◌+◌, ◌*◌, ◌≤◌, Bool, true, false, ◌==◌, nat_lt, ◌++◌, length, refl, arith}
use Rattle.std.proofs.Common.{length-append}
use Rattle.std.specs.List.{list_all}
use Rattle.std.proofs.lemmas.Bool.{lt-ltb}
use Rattle.std.proofs.lemmas.Bool.Decides.{nat_tests}
use Rattle.std.proofs.Math.Numerals.{add-one}
use Rattle.wf_script.specs.declared.line.Line.{Line}
use Rattle.wf_script.specs.Generator.{client_of_round, made, round, rounds, setup}
use Rattle.wf_script.specs.Script.{IsScript, is_line, may_tick}
use Rattle.wf_script.proofs.Clean.{all_both}

pub rounds_more : (n : ℕ) → rounds (n + 1) ≡ rounds n ++ round n
unfolding rounds
rounds_more n = rw add-one refl

round_lines : (i : ℕ) → list_all is_line (round i) ≡ true
round_lines i =
    let client : nat_lt (client_of_round i) 8 ≡ true = lt-ltb (client_of_round i) 8 (omega arith) in
    rw client refl

round_ticks : (i : ℕ) → list_all may_tick (round i) ≡ true
round_ticks i =
    let other : (client_of_round i == 0) ≡ false = grind (arith, nat_tests) in
    rw other refl

-- a test that each line of each round passes
all_rounds : (p : Line → Bool) → ((i : ℕ) → list_all p (round i) ≡ true) → (n : ℕ) → list_all p (rounds n) ≡ true
unfolding rounds
all_rounds p each zero = refl
all_rounds p each (suc n) = all_both p (rounds n) (round n) (all_rounds p each n) (each n)

pub rounds_count : (n : ℕ) → length (rounds n) ≡ 13 * n
unfolding rounds
rounds_count zero = refl
rounds_count (suc n) = length-append (rounds n) (round n) ∙ omega (arith, rounds_count n)

pub made_script : (n : ℕ) → n ≤ 1000 → IsScript (made n)
made_script n few = record {
  ports = refl;
  lines = all_both is_line setup (rounds n) refl (all_rounds is_line round_lines n);
  ticks = all_both may_tick setup (rounds n) refl (all_rounds may_tick round_ticks n);
  few = omega (arith, length-append setup (rounds n), rounds_count n);
}
