-- What a call took from its source, by what reading makes of it, where the source tells its bytes.
use Rattle.std.specs.Prelude.{◌≡◌, ℕ, ◌+◌, ◌<◌, ◌≤◌, Bool, true, false, ◌++◌, List, length, Option}
use Rattle.std.specs.Prelude.{Some, None, Result, Ok, Err, IfErr, IsErrOf, IsTrue, ◌⊎◌}
use Rattle.std.specs.Io.KnownBytes.{Consumes, IsAtEnd, Keeps}
use Rattle.wf_io.specs.Causes.{Rose}
use Rattle.wf_wire.specs.declared.stop.ServeStop.{ServeStop}
use Rattle.wf_wire.specs.declared.stop.ServeStop.TheVariants as stop
use Rattle.wf_wire.specs.Reading.{Reader, broken, cursor, ends}

module _ {A : Type 0} (read : Reader A) (bytes : List ℕ) (at : ℕ) (rest : List ℕ) where
  -- the bytes that were taken from the place `at` up to the place `now` read as x, whatever follows them
  pub record Gives (now : ℕ) (x : A) : Type 0 where
    pub taken : List ℕ
    pub front : bytes ≡ taken ++ rest
    pub place : now ≡ at + length taken
    pub reads : (more : List ℕ) → read (cursor at (taken ++ more)) ≡ Ok (x, cursor now more)

  -- those that were taken break no rule but that they end inside of a field
  pub record IsCut : Type 0 where
    pub taken : List ℕ
    pub front : bytes ≡ taken ++ rest
    pub reads : read (cursor at taken) ≡ Err (ends (cursor at taken))

  -- what was read is given, the first fault is told when the field that has it was taken and nothing behind it, and where the source
  -- fails there was no fault before
  abbrev pub Tells : ℕ → Result A ServeStop → Type 0
  Tells now (Ok x) = Gives now x
  Tells now (Err (stop.BadMessage place rule)) = read (cursor at bytes) ≡ Err (broken place rule rest)
  Tells now (Err stop.ReadFault) = IsCut
  Tells now (Err _) = ⊥

-- `old` and `at` are the bytes and the place before, `new` and `now` those behind
abbrev pub Finds : {A : Type 0} → Reader A → Option (List ℕ) → ℕ → Option (List ℕ) → ℕ → Result A ServeStop → Type 0
Finds read None at new now result = Unit {0}
Finds read (Some bytes) at None now result = ⊥
Finds read (Some bytes) at (Some rest) now result = Tells read bytes at rest now result

-- the input ends where what is read may be missing
abbrev pub FindsEnd : {A : Type 0} → Reader (Option A) → Option (List ℕ) → ℕ → Option (List ℕ) → ℕ → Type 0
FindsEnd read None at new now = Unit {0}
FindsEnd read (Some bytes) at None now = ⊥
FindsEnd read (Some bytes) at (Some rest) now = read (cursor at bytes) ≡ Ok (None, cursor now rest)

-- what may be missing was found; or the input ends there; or it has a fault; or the source fails, where maybe nothing was taken
abbrev pub FindsNext : {A : Type 0} → Reader (Option A) → Option (List ℕ) → ℕ → Option (List ℕ) → ℕ → Result (Option A) ServeStop → Type 0
FindsNext read old at new now (Ok None) = FindsEnd read old at new now
FindsNext read old at new now (Err stop.ReadFault) = Keeps old new ⊎ Finds read old at new now (Err stop.ReadFault)
FindsNext read old at new now result = Finds read old at new now result

-- fewer than n bytes were taken
abbrev pub TakesFewer : Option (List ℕ) → Option (List ℕ) → ℕ → Type 0
TakesFewer old new n = (taken : List ℕ) × Consumes old new taken × (length taken < n)

-- the bytes of one field and the place behind them, or why they are not whole
abbrev pub Fills : Option (List ℕ) → ℕ → Option (List ℕ) → ℕ → List ℕ → Result (Unit {0}) ServeStop → Type 0
Fills old at new now into (Ok _) = Consumes old new into × (now ≡ at + length into)
Fills old at new now into (Err stop.ReadFault) = TakesFewer old new (length into)
Fills old at new now into (Err (stop.BadMessage place rule)) =
    (taken : List ℕ) × Consumes old new taken × (length taken < length into) × IsAtEnd new × (place ≡ at + length taken) × (rule ≡ 4)
Fills old at new now into (Err _) = ⊥

-- a stop of reading: the source failed, or a rule is broken
abbrev pub is_of_reading : ServeStop → Bool
is_of_reading stop.ReadFault = true
is_of_reading (stop.BadMessage place rule) = true
is_of_reading _ = false

-- the count of faults did not fall, and a fault is told only where it rose; nothing but reading stops it
pub record IsCaused {A : Type 0} (before now : ℕ) (result : Result A ServeStop) : Type 0 where
  pub later : before ≤ now
  pub fault : IsErrOf result stop.ReadFault → Rose before now
  pub reading : IfErr result (λ s. IsTrue (is_of_reading s))

-- an answer, by what is seen of its value
abbrev pub seen : {A B : Type 0} → (A → B) → Result A ServeStop → Result B ServeStop
seen view (Ok x) = Ok (view x)
seen view (Err s) = Err s

-- what begins a session: the place behind it comes with what was read
abbrev pub Opens : {A : Type 0} → Reader A → Option (List ℕ) → Option (List ℕ) → Result (ℕ × A) ServeStop → Type 0
Opens read old new (Ok opened) = Finds read old 0 new opened.0 (Ok opened.1)
Opens read old new (Err s) = Finds read old 0 new 0 (Err s)
