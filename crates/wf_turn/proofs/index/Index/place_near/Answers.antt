use Rattle.wf_turn.proofs.Common.{◌≡◌, ◌∙◌, ◌-◌, ℕ, arith, bytes_eq, sym, true}
use Rattle.wf_turn.proofs.Places.{found_near}
use Rattle.wf_turn.proofs.index.Index.place_near.Goals as goal

pub returns-then-eq : goal.returns-then-eq
returns-then-eq c =
    let self = c.args.self.now in
    let at : ℕ = c.min-end.result - 1 - c.loop-back.back in
    let hit : bytes_eq c.index.result.now.now c.args.name.now ≡ true =
    (λ i. bytes_eq (sym c.as_str.ensures i) (sym c.as_str-in-loop-back.ensures i)) ∙ sym c.eq.ensures ∙ c.if-eq.true in
    found_near c.args.name.now self.names.items self.firsts.items at c.index.result.now c.index-then-eq.result.now (omega arith)
    c.requires.count c.requires.firsts c.index.ensures c.index-then-eq.ensures hit
