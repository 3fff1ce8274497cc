use Rattle.wf_machine.proofs.Common.{◌≡◌, true, false, refl}
use Rattle.wf_calls.specs.Parts.{carries, is_begin, part_of}
use Rattle.wf_calls.specs.Requests.{call_of}
use Rattle.wf_calls.specs.declared.request.Request.{Request}
use Rattle.wf_calls.specs.declared.request.Request.TheVariants as request
use Rattle.wf_machine.proofs.machine.Machine.take.Goals as goal

-- what takes something and begins no frame takes a write buffer
pub unreachable-requires : goal.unreachable-requires
unreachable-requires c = of_call c.args.call.now refl c.requires.carries c.requires.small
  where
    of_call : (x : Request) → c.args.call.now ≡ x → carries (part_of (call_of x)) ≡ true → is_begin (call_of x) ≡ false → ⊥
    of_call (request.Acquire s) is takes small = c.in_default.not-Acquire s is
    of_call (request.BeginNext after) is takes small = absurd cc
    of_call (request.BeginPort port) is takes small = absurd cc
    of_call (request.BeginContext device context) is takes small = absurd cc
    of_call _ is takes small = absurd cc
