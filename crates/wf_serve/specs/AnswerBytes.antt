-- Answers: to which client, to which message, what is told, and what comes with it.
use Rattle.std.specs.Prelude.{ℕ, ◌+◌, List, ◌∷◌, ◌++◌, length}
use Rattle.byteorder.specs.Endian.{big_bytes}
use Rattle.wf_host.specs.declared.told.Told.{Told}

pub record Answer : Type 0 where
  pub client : ℕ
  pub number : ℕ
  pub told : Told
  pub payload : List ℕ

abbrev pub answer_to : ℕ → ℕ → Told → List ℕ → Answer
answer_to client number told payload = record { client = client; number = number; told = told; payload = payload }

-- what stands before a payload of so many bytes: how many bytes follow, the client, the message, the code and the value
abbrev pub head_bytes : ℕ → ℕ → Told → ℕ → List ℕ
head_bytes client number told count = big_bytes 4 (7 + count) ++ client ∷ number ∷ told.code ∷ big_bytes 4 told.value

abbrev pub answer_bytes : Answer → List ℕ
answer_bytes a = head_bytes a.client a.number a.told (length a.payload) ++ a.payload
