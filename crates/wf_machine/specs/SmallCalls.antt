-- The calls that small calls are.
use Rattle.wf_calls.specs.declared.call.Call.{Call}
use Rattle.wf_calls.specs.declared.call.Call.TheVariants as call
use Rattle.wf_calls.specs.Requests.{call_of}
use Rattle.wf_machine.specs.declared.small_call.Asked.{Asked}
use Rattle.wf_machine.specs.declared.small_call.Asked.TheVariants as asked

abbrev pub call_asked : Asked → Call
call_asked (asked.Request request) = call_of request
call_asked (asked.Post canvas) = call.Post canvas
call_asked (asked.Discard canvas) = call.Discard canvas
