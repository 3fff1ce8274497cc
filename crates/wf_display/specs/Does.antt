-- What a call of the display leaves and answers, by the plain machine.
use Rattle.std.specs.Prelude.{ℕ, Bool, Result}
use Rattle.wf_life.specs.declared.Kind.TheVariants as kind
use Rattle.wf_life.specs.Handles.{same_kind}
use Rattle.wf_stream.specs.Streams.{StoreView}
use Rattle.wf_calls.specs.declared.reply.Refusal.{Refusal}
use Rattle.wf_calls.specs.declared.reply.Reply.{Reply}
use Rattle.wf_model.specs.DisplaySides.{DisplaySide, display_answer}
use Rattle.wf_model.specs.Names.{display_names}
use Rattle.wf_model.specs.Outcome.{Outcome}
use Rattle.wf_model.specs.Sides as sides
use Rattle.wf_model.specs.State.{DisplayState}
use Rattle.wf_display.specs.Fits.{Fits}
use Rattle.wf_display.specs.Sides.{display_side_of}

-- a body of the display leaves and answers what the plain call does
abbrev pub Does : (Bool → DisplaySide → Outcome DisplaySide) → DisplayState → DisplayState → StoreView → StoreView → Result ℕ Refusal
    → Type 0
Does plain d left store now result =
    sides.Does display_side_of display_names Fits plain (λ k. same_kind k kind.DisplaySource) d left store now result

-- a call of the display, with its reply: it leaves and answers what the plain call does, and keeps so much of the store
abbrev pub Steps : (Bool → DisplaySide → Outcome DisplaySide) → (StoreView → StoreView → Type 0) → DisplayState → DisplayState → StoreView
    → StoreView → Reply → Type 0
Steps plain Keeps d left store now reply =
    sides.Steps display_side_of display_names Fits plain display_answer Keeps d left store now reply
