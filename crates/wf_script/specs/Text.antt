-- The text that is printed: which bytes were added to it since it began, and what of them went into the sink.
use Rattle.std.specs.Prelude.{◌≡◌, ℕ, ◌+◌, ◌^◌, ◌<◌, ◌≤◌, true, false, List, ◌++◌, length, Result, OnOk, IfErr}
use Rattle.wf_io.specs.Bytes.{Puts, PutsPart}
use Rattle.wf_io.specs.Causes.{HasCause, Rose}
use Rattle.wf_io.specs.declared.writing.WriteStop.{WriteStop}
use Rattle.wf_script.specs.declared.text.Text.{Text}

-- how many bytes were put or wait
abbrev pub extent : Text → ℕ
extent text = text.written + length text.waiting.items

-- fewer bytes were put than the count has room for
abbrev pub IsCounted : Text → Type 0
IsCounted text = text.written < 2 ^ 63

module _ {S : Type 0} (took : S → List ℕ → Type 0) (faults : S → ℕ) where
  -- of all bytes that were added, a front went into the sink, and the others wait
  pub record IsGoing (start : S) (text : Text) (now : S) (added : List ℕ) : Type 0 where
    pub front : List ℕ
    pub all : added ≡ front ++ text.waiting.items
    pub count : text.written ≡ length front
    pub puts : Puts took start now front

  -- the sink failed
  pub record IsStopped (start : S) (text : Text) (now : S) (added : List ℕ) : Type 0 where
    pub part : PutsPart took start now 0 added text.written
    pub rose : Rose (faults start) (faults now)

  -- since the text began these bytes were added
  pub record Added (start : S) (text : Text) (now : S) (added : List ℕ) : Type 0 where
    pub later : faults start ≤ faults now
    pub going : IsCounted text → text.stopped ≡ false → IsGoing start text now added
    pub stopped : IsCounted text → text.stopped ≡ true → IsStopped start text now added

  -- these bytes more were added
  pub data Adds (old : Text) (before : S) (new : Text) (after : S) (bytes : List ℕ) : Type 0 where
    adding : ((start : S) (added : List ℕ) → Added start old before added → Added start new after (added ++ bytes))
        → Adds old before new after bytes

  -- the text ended: all that was added was put, or just the front that is told
  pub record IsEnded {T : Type 0} (start now : S) (added : List ℕ) (result : Result T WriteStop) : Type 0 where
    pub all : OnOk result (Puts took start now added)
    pub part : IfErr result (λ stop. PutsPart took start now 0 added stop.written)
    pub cause : HasCause (faults start) (faults now) result

  pub record Ends {T : Type 0} (text : Text) (before after : S) (result : Result T WriteStop) : Type 0 where
    pub ends : (start : S) (added : List ℕ) → extent text < 2 ^ 63 → Added start text before added → IsEnded start after added result
