use Rattle.std.proofs.Common.{◌≡◌, false, refl}
use Rattle.wf_calls.specs.declared.request.Request.{Request}
use Rattle.wf_calls.specs.declared.request.Request.TheVariants as request
use Rattle.wf_wire.specs.Asked.{is_acquire}
use Rattle.wf_host.proofs.host.Host.ask.Goals as goal

pub ask_plain-requires : goal.ask_plain-requires
ask_plain-requires c = of_request c.args.request.now refl
  where
    of_request : (x : Request) → c.args.request.now ≡ x → is_acquire x ≡ false
    of_request (request.Acquire s) is = absurd (c.in_default.not-Acquire s is)
    of_request _ is = cc
