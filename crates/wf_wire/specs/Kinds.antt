-- The kinds of the arguments of messages, and the range of each. tools/calls writes this file.
use Rattle.std.specs.Prelude.{ℤ, pos, negsuc, ◌-◌, ◌^◌}
use Rattle.wf_pixel.specs.declared.TheConstants.{MOST_COORDINATE, MOST_SIDE}
use Rattle.wf_wire.specs.declared.kind.Kind.{Kind}
use Rattle.wf_wire.specs.declared.kind.Kind.TheVariants as kind

-- the least and the most that an argument of a kind may be
abbrev pub range_of : Kind → ℤ × ℤ
range_of kind.Number = (negsuc (2 ^ 63 - 1), pos (2 ^ 63 - 1))
range_of kind.Handle = (pos 0, pos 4294967295)
range_of kind.Format = (pos 0, pos 3)
range_of kind.Stat = (pos 0, pos 1)
range_of kind.Transition = (pos 0, pos 1)
range_of kind.Element = (pos 0, pos 8)
range_of kind.Context = (pos 0, pos 4)
range_of kind.Port = (pos 0, pos 5)
range_of kind.Pipe = (pos 0, pos 9)
range_of kind.Channel = (pos 0, pos 255)
range_of kind.Coordinate = (negsuc (MOST_COORDINATE - 1), pos MOST_COORDINATE)
range_of kind.Extent = (pos 0, pos MOST_COORDINATE)
range_of kind.Square = (pos 1, pos MOST_SIDE)
