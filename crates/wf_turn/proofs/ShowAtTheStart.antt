-- The show before the first turn.
use Rattle.wf_turn.proofs.Common.{◌≡◌, ◌∙◌, ℕ, zero, suc, ◌+◌, ◌≤◌, true, false, ◌&&◌, [], ◌∷◌, ◌++◌, map, length, None, refl, ap}
use Rattle.wf_turn.proofs.Common.{arith, nat_le, list_all, range_with_len, and_parts, length-map, may_declare, PlainScript, IsCast, Program}
use Rattle.wf_turn.proofs.Common.{lines_from, program, AreOf, IsFit, opening_show}
use Rattle.std.proofs.lemmas.Bool.{leb-true}
use Rattle.wf_calls.specs.PortRules.{may_have}
use Rattle.wf_turn.specs.declared.stage.Stage.TheVariants as stage
use Rattle.wf_turn.proofs.ProgramsStayFit.{fit_before}

few_ports : (script : PlainScript) → may_declare script.ports ≡ true → length script.ports.modes.items ≤ 4
few_ports script declared =
    let first = and_parts ((nat_le 1 (length script.ports.modes.items) && nat_le (length script.ports.modes.items) 4)
    && list_all may_have script.ports.modes.items) (nat_le script.ports.pipes 8) declared in
    let second = and_parts (nat_le 1 (length script.ports.modes.items) && nat_le (length script.ports.modes.items) 4)
    (list_all may_have script.ports.modes.items) first.0 in
    let third = and_parts (nat_le 1 (length script.ports.modes.items)) (nat_le (length script.ports.modes.items) 4) second.0 in
    leb-true (length script.ports.modes.items) 4 third.1

fit_opening : (script : PlainScript) → length script.ports.modes.items ≤ 4 → (client : ℕ) → IsFit (program script client)
fit_opening script few client = fit_before start (lines_from client 0 script.lines) few refl
  where
    start : Program
    start = record {
      script = script;
      client = client;
      lines = [];
      own = [];
      learned = [];
      canvas = None;
      job = None;
      unpainted = false;
      stage = stage.Fresh;
      tick = 0;
    }

-- a program can make its first call
pub opening_fit : (script : PlainScript) → may_declare script.ports ≡ true → (client : ℕ) → IsFit (program script client)
opening_fit script declared client = fit_opening script (few_ports script declared) client

are_opening : (script : PlainScript) → length script.ports.modes.items ≤ 4 → (k n : ℕ)
    → AreOf script k (map (program script) (range_with_len k n))
are_opening script few k zero = tt
are_opening script few k (suc n) = (refl, refl, fit_opening script few k, are_opening script few (k + 1) n)

pub opening_cast : (script : PlainScript) → may_declare script.ports ≡ true → IsCast (opening_show script)
opening_cast script declared =
    record {
      script = script;
      programs = are_opening script (few_ports script declared) 0 8;
      eight = length-map (range_with_len 0 8) (program script);
    }

-- one client more
pub range_more : (n : ℕ) → range_with_len 1 (n + 1) ≡ range_with_len 1 n ++ (n + 1) ∷ []
range_more n = from 1 n ∙ ap (λ k. range_with_len 1 n ++ k ∷ []) (omega arith)
  where
    from : (a n : ℕ) → range_with_len a (n + 1) ≡ range_with_len a n ++ (a + n) ∷ []
    from a zero = (let here : a ≡ a + 0 = omega arith in ap (λ k. k ∷ []) here)
    from a (suc n) =
        let shift : suc n + 1 ≡ suc (n + 1) = omega arith in
        let at : a + 1 + n ≡ a + suc n = omega arith in
        ap (range_with_len a) shift ∙ ap (λ ns. a ∷ ns) (from (a + 1) n)
        ∙ ap (λ k. a ∷ range_with_len (a + 1) n ++ k ∷ []) at
