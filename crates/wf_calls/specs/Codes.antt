-- The numbers of the codes, and the entry that a reply leaves.
use Rattle.std.specs.Prelude.{ℕ, Bool, true, false}
use Rattle.wf_calls.specs.declared.code.Code.{Code}
use Rattle.wf_calls.specs.declared.code.Code.TheVariants as code
use Rattle.wf_calls.specs.declared.reply.Reply.{Reply}
use Rattle.wf_calls.specs.declared.order.Turn.{Turn}

abbrev pub code_number : Code → ℕ
code_number code.Ok = 0
code_number code.OutOfMemory = 1
code_number code.IllegalArgument = 2
code_number code.Unsupported = 3
code_number code.NotSupported = 4
code_number code.BadAttribute = 5
code_number code.InUse = 6
code_number code.Busy = 7
code_number code.NoBuffer = 8
code_number code.BadDevice = 9
code_number code.BadHandle = 10
code_number code.Inconsistency = 11
code_number code.Limit = 12

abbrev pub is_ok_code : Code → Bool
is_ok_code code.Ok = true
is_ok_code _ = false

-- the answer to a creation for which there was no memory
abbrev pub is_out_of_memory : Code → Bool
is_out_of_memory code.OutOfMemory = true
is_out_of_memory _ = false

-- the journal's entry of an answer to a client
abbrev pub entry : ℕ → Reply → Turn
entry client reply = record { client = client; code = code_number reply.code; value = reply.value }
