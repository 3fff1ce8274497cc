-- A message as the code has it.
use Rattle.std.specs.Prelude.{Option, option_map}
use Rattle.wf_wire.specs.declared.messages.Heard.{Heard}
use Rattle.wf_wire.specs.Messages.{Spelled}

abbrev pub spelled_of : Heard → Spelled
spelled_of heard = record { form = heard.form; bits = heard.bits.items }

abbrev pub spelled_if : Option Heard → Option Spelled
spelled_if heard = option_map spelled_of heard
