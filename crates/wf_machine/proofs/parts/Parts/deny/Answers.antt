use Rattle.std.proofs.Common.{◌≡◌, ◌∙◌, false, refl, ap}
use Rattle.wf_calls.specs.declared.part.Part.{Part}
use Rattle.wf_calls.specs.declared.part.Part.TheVariants as part
use Rattle.wf_calls.specs.Creations.{creations_carry_nothing}
use Rattle.wf_calls.specs.Parts.{carries}
use Rattle.wf_calls.specs.Requests.{call_of}
use Rattle.wf_machine.proofs.parts.Parts.deny.Goals as goal

-- a creation is of one of three parts
pub unreachable-requires : goal.unreachable-requires
unreachable-requires c =
    of_part c.part.result (ap carries c.part.ensures ∙ creations_carry_nothing (call_of c.args.call.now) c.requires) refl
  where
    of_part : (p : Part) → carries p ≡ false → c.part.result ≡ p → ⊥
    of_part part.Streams still is = c.in_default.not-Streams is
    of_part part.Buffers still is = absurd cc
    of_part (part.Composition d) still is = c.in_default.not-Composition d is
    of_part part.Display still is = c.in_default.not-Display is
    of_part (part.Begin d) still is = absurd cc
    of_part part.End still is = absurd cc
