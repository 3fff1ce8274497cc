use Rattle.std.proofs.Common.{◌≡◌, ◌-◌, length, take, drop, arith, ap, sym, ◌∙◌}
use Rattle.wf_io.specs.Doubles.{Supply}
use Rattle.wf_io.proofs.Pieces.{rest_of, moved}
use Rattle.wf_io.proofs.memory_source.MemorySourceSource.take.Goals as goal

pub returns-clause-bytes : goal.returns-clause-bytes
returns-clause-bytes c =
    let at = c.self.inside.at in
    let left-is = ap (λ (s : Supply). s.left) (sym c.self.view_is) in
    let whole : take (length c.deref-2.result.now - at) (drop at c.deref-2.result.now) ≡ c.args.self.now.left =
    rest_of c.deref-2.result.now at ∙ ap (drop at) c.deref-2.ensures.value ∙ sym left-is in
    moved c.args.self.now.left c.self.inside.bytes.items c.copy_from_slice.new.self c.args.into.now at c.self.inside.step c.min-n.result
    left-is (c.copy_from_slice.ensures.after ∙ ap (take c.min-n.result) whole)
    (omega (arith, c.min-n.ensures, c.min.ensures, ap length whole)) c.self.invariant.1
