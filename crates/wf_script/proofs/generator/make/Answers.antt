use Rattle.std.proofs.Common.{◌≡◌, ◌∙◌, ◌≤◌, ◌++◌, ℕ, List, ap, append_assoc, append-nil, sym, subst, arith, refl}
use Rattle.wf_calls.specs.declared.ports.Ports.{Ports}
use Rattle.wf_script.specs.declared.line.Line.{Line}
use Rattle.wf_script.specs.Generator.{made, made_ports, round, rounds, setup}
use Rattle.wf_script.specs.Script.{IsScript}
use Rattle.wf_script.proofs.Made.{made_script, rounds_more}
use Rattle.wf_script.proofs.generator.make.Goals as goal

pub loop-number-init : goal.loop-number-init
unfolding rounds
loop-number-init c =
    c.in_ok-append.ensures ∙ ap (λ (ls : List Line). ls ++ c.setup.result) c.in_ok-lines.ensures.items ∙ c.setup.ensures
    ∙ sym (append-nil setup)

pub loop-number-preserved : goal.loop-number-preserved
loop-number-preserved c =
    let i : ℕ = c.loop-number.number in
    c.in_ok-append_round.ensures ∙ ap (λ (ls : List Line). ls ++ round i) c.loop-number.invariant
    ∙ append_assoc setup (rounds i) (round i) ∙ ap (λ (ls : List Line). setup ++ ls) (sym (rounds_more i))

is_made : (ports : Ports) (lines : List Line) (i n : ℕ) → ports ≡ made_ports → lines ≡ setup ++ rounds i → i ≡ n
    → record { ports = ports; lines = lines } ≡ made n
is_made ports lines i n declared all end = rw (declared, all, end) refl

pub new-requires : goal.new-requires
new-requires c =
    let i : ℕ = c.loop-number.number in
    let few : i ≤ 1000 = omega arith in
    subst IsScript (sym (is_made c.ports.result c.loop-number.lines.items i i c.ports.ensures c.loop-number.invariant refl))
    (made_script i few)

pub returns : goal.returns
returns c =
    let end : c.loop-number.number ≡ c.args.n = omega arith in
    c.new.ensures ∙ is_made c.ports.result c.loop-number.lines.items c.loop-number.number c.args.n c.ports.ensures
    c.loop-number.invariant end
