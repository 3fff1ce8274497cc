-- Answers, and the replies that they make.
use Rattle.std.specs.Prelude.{ℕ, Option, Some, None}
use Rattle.wf_image.specs.declared.canvas.Canvas.{Canvas}
use Rattle.wf_calls.specs.declared.call.Job.{Job}
use Rattle.wf_calls.specs.declared.code.Code.{Code}
use Rattle.wf_calls.specs.declared.code.Code.TheVariants as code
use Rattle.wf_calls.specs.declared.reply.Answer.{Answer}
use Rattle.wf_calls.specs.declared.reply.Payload.{Payload}
use Rattle.wf_calls.specs.declared.reply.Payload.TheVariants as payload
use Rattle.wf_calls.specs.declared.reply.Refusal.{Refusal}
use Rattle.wf_calls.specs.declared.reply.Reply.{Reply}

-- the refusal by a code alone
abbrev pub refusal : Code → Refusal
refusal code = record { code = code; value = 0 }

-- the call was carried out, and answers this value
abbrev pub done : ℕ → Answer
done value = record { code = code.Ok; value = value }

-- the call is refused
abbrev pub refused : Refusal → Answer
refused r = record { code = r.code; value = r.value }

-- the reply with which nothing comes
abbrev pub bare : Answer → Reply
bare a = record { code = a.code; value = a.value; payload = payload.Nothing }

-- the call was carried out, and gives a write buffer
abbrev pub gives_canvas : Canvas → Reply
gives_canvas canvas = record { code = code.Ok; value = 0; payload = payload.Canvas canvas }

-- the call was carried out, and gives a Job beside its value
abbrev pub gives_job : ℕ → Job → Reply
gives_job value job = record { code = code.Ok; value = value; payload = payload.Job job }

-- the call is refused as a bad handle, and what it carried comes back

abbrev pub gives_back_canvas : Canvas → Reply
gives_back_canvas canvas = record { code = code.BadHandle; value = 0; payload = payload.Canvas canvas }

abbrev pub gives_back_job : Job → Reply
gives_back_job job = record { code = code.BadHandle; value = 0; payload = payload.Job job }

-- an answer with what comes with it
abbrev pub replied : Answer → Payload → Reply
replied a given = record { code = a.code; value = a.value; payload = given }

-- what comes with an answer, where it is a write buffer or nothing
abbrev pub canvas_payload : Option Canvas → Payload
canvas_payload None = payload.Nothing
canvas_payload (Some canvas) = payload.Canvas canvas

-- what comes with an answer, where it is a Job or nothing
abbrev pub job_payload : Option Job → Payload
job_payload None = payload.Nothing
job_payload (Some job) = payload.Job job

-- an answer, with the write buffer that comes with it if one does
abbrev pub with_canvas : Answer × Option Canvas → Reply
with_canvas x = replied x.0 (canvas_payload x.1)

-- an answer, with the Job that comes with it if one does
abbrev pub with_job : Answer → Option Job → Reply
with_job a job = replied a (job_payload job)

-- a reply without what it brings
abbrev pub told : Reply → Answer
told reply = record { code = reply.code; value = reply.value }

-- the canvas that comes with a reply
abbrev pub given_canvas : Payload → Option Canvas
given_canvas (payload.Canvas canvas) = Some canvas
given_canvas _ = None

-- the Job that comes with a reply
abbrev pub given_job : Payload → Option Job
given_job (payload.Job job) = Some job
given_job _ = None
