-- The error registers: a refused call offers its code to the one register that it has, and changes nothing else.
use Rattle.wf_calls.specs.declared.code.Code.{Code}
use Rattle.wf_calls.specs.Parts.{Register, no_register, of_device, of_display}
use Rattle.std.specs.Prelude.{None, Ok}
use Rattle.wf_model.specs.Composition.{offer}
use Rattle.wf_model.specs.Core.{register_number}
use Rattle.wf_model.specs.DisplaySides.{offer_display}
use Rattle.wf_model.specs.Outcome.{Outcome}
use Rattle.wf_model.specs.State.{DisplayState, State}

-- the state with a code offered to a register, which takes it where it is there and empty
abbrev pub offered : Register → Code → State → State
offered (of_device d) code h = record h { core = offer d code h.core }
offered of_display code h = record h { display = offer_display code h.display }
offered no_register code h = h

-- the number of the code in the display's register, which is emptied
abbrev pub display_error : DisplayState → Outcome DisplayState
display_error d = Ok (record d { register = None }, register_number d.register)
