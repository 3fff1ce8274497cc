-- The calls of composition and of the display on the whole state.
use Rattle.std.specs.Prelude.{ℕ, ◌+◌, ℤ, length, Option, None}
use Rattle.wf_words.specs.Whole.{count_of}
use Rattle.wf_calls.specs.declared.call.Call.{Call}
use Rattle.wf_calls.specs.declared.call.Call.TheVariants as call
use Rattle.wf_calls.specs.declared.reply.Answer.{Answer}
use Rattle.wf_calls.specs.declared.reply.Reply.{Reply}
use Rattle.wf_calls.specs.Replies.{bare}
use Rattle.wf_model.specs.Outcome.{Outcome}
use Rattle.wf_model.specs.Composition.{CoreSide, core_answer}
use Rattle.wf_model.specs.DisplaySides.{DisplaySide, display_answer, screen_at}
use Rattle.wf_model.specs.State.{State}

-- what a call of composition sees of the state
abbrev pub core_side : State → CoreSide
core_side h = record { made = h.made; streams = h.streams; core = h.core; display_sources = length h.display.sources }

-- the state with what such a call left
abbrev pub with_side : CoreSide → State → State
with_side w h = record h { made = w.made; streams = w.streams; core = w.core }

-- the screen of a port, which counts from 1, or none where it was not declared
abbrev pub declared_screen : ℤ → State → Option ℕ
declared_screen port h = screen_at (count_of port) h.display

-- the screen that a call asks for: the call that makes a screen's context asks for one
abbrev pub screen_of : Call → State → Option ℕ
screen_of (call.ScreenContext d port) h = declared_screen port h
screen_of _ h = None

-- what a call of a device leaves and answers
abbrev pub composed : ℕ → (CoreSide → Outcome CoreSide) → State → State × Reply
composed d call h = on_side (core_answer d (core_side h) (call (core_side h)))
  where
    on_side : CoreSide × Answer → State × Reply
    on_side x = (with_side x.0 h, bare x.1)

-- what a call of the display sees of the state
abbrev pub display_side : State → DisplaySide
display_side h =
    record {
      made = h.made;
      streams = h.streams;
      display = h.display;
      composition_sources = length h.core.sources + length h.core.masks;
    }

-- the state with what such a call left
abbrev pub with_display_side : DisplaySide → State → State
with_display_side w h = record h { made = w.made; streams = w.streams; display = w.display }

-- what a call of the display leaves and answers
abbrev pub displayed : (DisplaySide → Outcome DisplaySide) → State → State × Reply
displayed call h = on_side (display_answer (display_side h) (call (display_side h)))
  where
    on_side : DisplaySide × Answer → State × Reply
    on_side x = (with_display_side x.0 h, bare x.1)
