use Rattle.wf_machine.proofs.Common.{◌≡◌, true, refl, Call}
use Rattle.wf_calls.specs.Requests.{brings}
use Rattle.wf_calls.specs.declared.call.Call.TheVariants as call
use Rattle.wf_machine.proofs.machine.Machine.run_bringing.Goals as goal

-- each call that brings something has its arm
pub unreachable-requires : goal.unreachable-requires
unreachable-requires c = of_call c.args.call refl c.requires
  where
    of_call : (x : Call) → c.args.call ≡ x → brings x ≡ true → ⊥
    of_call (call.Post canvas) is some = c.in_default.not-Post canvas is
    of_call (call.Discard canvas) is some = c.in_default.not-Discard canvas is
    of_call (call.End job) is some = c.in_default.not-End job is
    of_call _ is some = absurd cc
