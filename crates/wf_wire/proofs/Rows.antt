-- Worked sessions: their bytes, what they ask for, and the faults that end them.
use Rattle.std.proofs.Common.{◌≡◌, ℕ, ℤ, pos, negsuc, ◌+◌, ◌-◌, ◌^◌, Bool, true, false, List, [], ◌∷◌, ◌++◌, Option, Some, None}
use Rattle.std.proofs.Common.{Ok, Err}
use Rattle.std.proofs.Common.{codes, map, take, refl}
use Rattle.byteorder.specs.Endian.{big_bytes}
use Rattle.wf_pixel.specs.declared.Format.TheVariants.{Rgba8}
use Rattle.wf_pixel.specs.declared.Rgba.{Rgba}
use Rattle.wf_pixel.specs.declared.TheConstants.{MOST_COORDINATE, MOST_SIDE}
use Rattle.wf_image.specs.declared.paint.Paint.TheVariants as paint
use Rattle.wf_scene.specs.declared.attributes.ContextAttr.TheVariants as context
use Rattle.wf_scene.specs.declared.attributes.ElementAttr.TheVariants as element
use Rattle.wf_calls.specs.declared.call.StatWord.TheVariants.{Streams}
use Rattle.wf_calls.specs.declared.display.PipeAttr.TheVariants as pipe
use Rattle.wf_calls.specs.declared.request.Request.TheVariants as request
use Rattle.wf_wire.specs.declared.kind.Kind.{Kind}
use Rattle.wf_wire.specs.declared.kind.Kind.TheVariants as kind
use Rattle.wf_wire.specs.declared.message.Message.{Message}
use Rattle.wf_wire.specs.declared.message.Message.TheVariants as message
use Rattle.wf_wire.specs.declared.TheConstants.{MESSAGES_END}
use Rattle.wf_wire.specs.Header.{declared, header, mode_of, port}
use Rattle.wf_wire.specs.Messages.{first, is_of_kind, next, spelled}
use Rattle.wf_wire.specs.Reading.{Read, broken, cursor, each, number, number_that}
use Rattle.wf_wire.specs.Session.{PlainSession, Told, WireFault, fault, messages, session, told}

-- the bytes of numbers that are not negative, eight for each
abbrev longs : List ℕ → List ℕ
longs [] = []
longs (x ∷ xs) = big_bytes 8 x ++ longs xs

-- a number below 0 in two's complement
abbrev minus : ℕ → ℕ
minus n = 2 ^ 64 - n

-- a message
abbrev said : ℕ → List ℕ → List ℕ
said n arguments = n ∷ longs arguments

-- a header of one port of 4x2 and no pipeline
abbrev head : List ℕ
head = codes "WFW1" ++ 1 ∷ 0 ∷ 4 ∷ 0 ∷ 2 ∷ 0 ∷ []

abbrev behind_head : List Message → Option WireFault → PlainSession
behind_head ms end = record { ports = Some (declared (mode_of 4 2 ∷ []) 0); told = told ms end }

-- what is told of messages behind that header
abbrev heard : List ℕ → PlainSession
heard bytes = session (head ++ bytes)

-- a message that shows the port, whole and cut
abbrev shown : List ℕ
shown = head ++ said 45 (1 ∷ [])

abbrev show : ℤ → Message
show port = message.Ask (request.BeginPort port)

show_one : session shown ≡ behind_head (show (pos 1) ∷ []) None
unfolding session header port number number_that each messages next spelled first
show_one = refl

cut_at : ℕ → Told
cut_at n = (session (take n shown)).told

abbrev short : ℕ → Told
short n = told [] (Some (fault n 4))

-- nothing but the header is a session, and each other piece ends too early
cut_in_header : map cut_at (0 ∷ 1 ∷ 2 ∷ 3 ∷ 4 ∷ 5 ∷ 6 ∷ 7 ∷ 8 ∷ 9 ∷ []) ≡ map short (0 ∷ 1 ∷ 2 ∷ 3 ∷ 4 ∷ 5 ∷ 6 ∷ 7 ∷ 8 ∷ 9 ∷ [])
unfolding cut_at session header port number number_that each messages next spelled first
cut_in_header = refl

cut_behind_header : cut_at 10 ≡ told [] None
unfolding cut_at session header port number number_that each messages next spelled first
cut_behind_header = refl

cut_in_message : map cut_at (11 ∷ 12 ∷ 13 ∷ 14 ∷ 15 ∷ 16 ∷ 17 ∷ 18 ∷ []) ≡ map short (11 ∷ 12 ∷ 13 ∷ 14 ∷ 15 ∷ 16 ∷ 17 ∷ 18 ∷ [])
unfolding cut_at session header port number number_that each messages next spelled first
cut_in_message = refl

-- headers with a field that is wrong, which is looked at when it is whole
abbrev faulty_headers : List (List ℕ × WireFault)
faulty_headers =
    (codes "WFX1", fault 0 1)
    ∷ (codes "WFX", fault 3 4)
    ∷ (codes "WFW1" ++ 0 ∷ [], fault 4 1)
    ∷ (codes "WFW1" ++ 5 ∷ [], fault 4 1)
    ∷ (codes "WFW1" ++ 1 ∷ 0 ∷ 0 ∷ [], fault 5 1)
    ∷ (codes "WFW1" ++ 1 ∷ (big_bytes 2 (MOST_SIDE + 1) ++ 0 ∷ []), fault 5 1)
    ∷ (codes "WFW1" ++ 1 ∷ 0 ∷ 1 ∷ 0 ∷ 1 ∷ 9 ∷ [], fault 9 1)
    ∷ (codes "WFW1" ++ 2 ∷ 0 ∷ 1 ∷ 0 ∷ 1 ∷ 0 ∷ 0 ∷ 0 ∷ 1 ∷ 0 ∷ [], fault 9 1)
    ∷ (codes "WFW1" ++ 2 ∷ 0 ∷ 1 ∷ 0 ∷ 1 ∷ 0 ∷ 1 ∷ 0 ∷ [], fault 12 4)
    ∷ []

wrong_header : map (λ row. session row.0) faulty_headers ≡ map (λ row. record { ports = None; told = told [] (Some row.1) }) faulty_headers
unfolding session header port number number_that each
wrong_header = refl

-- two ports, the highest sides, and the most pipelines
largest_header : session (codes "WFW1" ++ 2 ∷ (big_bytes 2 MOST_SIDE ++ 0 ∷ 1 ∷ 0 ∷ 1 ∷ (big_bytes 2 MOST_SIDE ++ 8 ∷ [])))
    ≡ record { ports = Some (declared (mode_of MOST_SIDE 1 ∷ mode_of 1 MOST_SIDE ∷ []) 8); told = told [] None }
unfolding session header port number number_that each messages next spelled first
largest_header = refl

-- the numbers that no message has
abbrev no_message : List ℕ
no_message = 0 ∷ 50 ∷ 51 ∷ 99 ∷ 128 ∷ 254 ∷ 255 ∷ []

unknown_number : map (λ n. heard (5 ∷ n ∷ [])) no_message ≡ map (λ _. behind_head (message.Post ∷ []) (Some (fault 11 2))) no_message
unfolding session header port number number_that each messages next spelled first
unknown_number = refl

-- a canvas is taken, painted, posted and discarded, and streams are counted
canvas : heard
    (said 1 (1 ∷ 1 ∷ 0 ∷ 2 ∷ []) ++ said 46 (9 ∷ 8 ∷ 7 ∷ 255 ∷ []) ++ said 4 (1 ∷ []) ++ said 5 [] ++ said 6 [] ++ said 7 (0 ∷ []))
    ≡ behind_head
    (message.Ask (request.StreamNew (pos 1) (pos 1) Rgba8 (pos 2))
    ∷ message.Paint (paint.Fill (record { r = 9; g = 8; b = 7; a = 255 }))
    ∷ message.Ask (request.Acquire 1) ∷ message.Post ∷ message.Discard ∷ message.Ask (request.Stat Streams) ∷ [])
    None
unfolding session header port number number_that each messages next spelled first
canvas = refl

-- the end inside of an argument, behind two messages
cut_in_argument : heard (said 1 (1 ∷ 1 ∷ 0 ∷ 2 ∷ []) ++ said 4 (1 ∷ []) ++ 7 ∷ 0 ∷ 0 ∷ [])
    ≡ behind_head
    (message.Ask (request.StreamNew (pos 1) (pos 1) Rgba8 (pos 2)) ∷ message.Ask (request.Acquire 1) ∷ [])
    (Some (fault 55 4))
unfolding session header port number number_that each messages next spelled first
cut_in_argument = refl

-- a handle outside of its range, before it is asked whether what follows is whole
abbrev wrong_handles : List (List ℕ)
wrong_handles =
    said 3 (minus 1 ∷ []) ∷ said 3 (2 ^ 32 ∷ []) ∷ said 12 (2 ^ 32 ∷ 2 ^ 32 ∷ []) ∷ (said 12 (2 ^ 32 ∷ []) ++ 0 ∷ []) ∷ []

wrong_handle : map heard wrong_handles ≡ map (λ _. behind_head [] (Some (fault 11 3))) wrong_handles
unfolding session header port number number_that each messages next spelled first
wrong_handle = refl

-- while a number may be any: a source of -1, and ports that are not there
any_number : heard (said 20 (0 ∷ 0 ∷ 1 ∷ minus 1 ∷ 0 ∷ 0 ∷ 0 ∷ []) ++ said 45 (9 ∷ []) ++ said 45 (minus 1 ∷ []))
    ≡ behind_head
    (message.Ask (request.ElementSet 0 0 element.Source (negsuc 0 ∷ pos 0 ∷ pos 0 ∷ pos 0 ∷ [])) ∷ show (pos 9) ∷ show (negsuc 0) ∷ [])
    None
unfolding session header port number number_that each messages next spelled first
any_number = refl

-- a context of a screen with its background, which is composed
screen : heard (said 8 [] ++ said 11 (1 ∷ 1 ∷ []) ++ said 26 (1 ∷ 2 ∷ 1 ∷ 5 ∷ 6 ∷ 7 ∷ 255 ∷ []) ++ said 31 (1 ∷ 2 ∷ []))
    ≡ behind_head
    (message.Ask request.DeviceNew ∷ message.Ask (request.ScreenContext 1 (pos 1))
    ∷ message.Ask (request.ContextSet 1 2 context.Background (pos 5 ∷ pos 6 ∷ pos 7 ∷ pos 255 ∷ []))
    ∷ message.Ask (request.BeginContext 1 2) ∷ [])
    None
unfolding session header port number number_that each messages next spelled first
screen = refl

-- a pipeline's alpha comes before its transparency
pipeline : heard (said 36 (1 ∷ 5 ∷ 0 ∷ []) ++ said 36 (1 ∷ 6 ∷ 0 ∷ []) ++ said 36 (1 ∷ 10 ∷ 0 ∷ []))
    ≡ behind_head
    (message.Ask (request.PipeGet (pos 1) pipe.Alpha (pos 0)) ∷ message.Ask (request.PipeGet (pos 1) pipe.Transparency (pos 0)) ∷ [])
    (Some (fault 69 3))
unfolding session header port number number_that each messages next spelled first
pipeline = refl

-- paints

abbrev grey : ℕ → Rgba
grey n = record { r = n; g = n; b = n; a = n }

paints : heard
    (said 47 (minus MOST_COORDINATE ∷ MOST_COORDINATE ∷ 0 ∷ MOST_COORDINATE ∷ 1 ∷ 1 ∷ 1 ∷ 1 ∷ [])
    ++ said 48 (MOST_SIDE ∷ 2 ∷ 2 ∷ 2 ∷ 2 ∷ 3 ∷ 3 ∷ 3 ∷ 3 ∷ [])
    ++ said 49 (4 ∷ 4 ∷ 4 ∷ 4 ∷ 5 ∷ 5 ∷ 5 ∷ 5 ∷ []) ++ said 46 (0 ∷ 0 ∷ 256 ∷ []))
    ≡ behind_head
    (message.Paint
    (paint.Rectangle (record { x = negsuc (MOST_COORDINATE - 1); y = pos MOST_COORDINATE; w = 0; h = MOST_COORDINATE }) (grey 1))
    ∷ message.Paint (paint.Checker MOST_SIDE (grey 2) (grey 3)) ∷ message.Paint (paint.Ramp (grey 4) (grey 5)) ∷ [])
    (Some (fault 230 3))
unfolding session header port number number_that each messages next spelled first
paints = refl

-- both ends of each range, and the numbers beyond
abbrev of_kind : Kind → List ℕ → List Bool
of_kind k numbers = map (is_of_kind k) numbers

ranges :
    (of_kind kind.Number (0 ∷ (2 ^ 63 - 1) ∷ 2 ^ 63 ∷ minus 1 ∷ []) ≡ true ∷ true ∷ true ∷ true ∷ [])
    × (of_kind kind.Handle (0 ∷ (2 ^ 32 - 1) ∷ 2 ^ 32 ∷ minus 1 ∷ []) ≡ true ∷ true ∷ false ∷ false ∷ [])
    × (of_kind kind.Format (0 ∷ 3 ∷ 4 ∷ minus 1 ∷ []) ≡ true ∷ true ∷ false ∷ false ∷ [])
    × (of_kind kind.Stat (0 ∷ 1 ∷ 2 ∷ minus 1 ∷ []) ≡ true ∷ true ∷ false ∷ false ∷ [])
    × (of_kind kind.Transition (0 ∷ 1 ∷ 2 ∷ minus 1 ∷ []) ≡ true ∷ true ∷ false ∷ false ∷ [])
    × (of_kind kind.Element (0 ∷ 8 ∷ 9 ∷ minus 1 ∷ []) ≡ true ∷ true ∷ false ∷ false ∷ [])
    × (of_kind kind.Context (0 ∷ 4 ∷ 5 ∷ minus 1 ∷ []) ≡ true ∷ true ∷ false ∷ false ∷ [])
    × (of_kind kind.Port (0 ∷ 5 ∷ 6 ∷ minus 1 ∷ []) ≡ true ∷ true ∷ false ∷ false ∷ [])
    × (of_kind kind.Pipe (0 ∷ 9 ∷ 10 ∷ minus 1 ∷ []) ≡ true ∷ true ∷ false ∷ false ∷ [])
    × (of_kind kind.Channel (0 ∷ 255 ∷ 256 ∷ minus 1 ∷ []) ≡ true ∷ true ∷ false ∷ false ∷ [])
    × (of_kind kind.Extent (0 ∷ MOST_COORDINATE ∷ (MOST_COORDINATE + 1) ∷ minus 1 ∷ []) ≡ true ∷ true ∷ false ∷ false ∷ [])
    × (of_kind kind.Square (1 ∷ MOST_SIDE ∷ (MOST_SIDE + 1) ∷ 0 ∷ []) ≡ true ∷ true ∷ false ∷ false ∷ [])
    × (of_kind kind.Coordinate (minus MOST_COORDINATE ∷ MOST_COORDINATE ∷ (MOST_COORDINATE + 1) ∷ minus (MOST_COORDINATE + 1) ∷ [])
    ≡ true ∷ true ∷ false ∷ false ∷ [])
ranges = (refl, refl, refl, refl, refl, refl, refl, refl, refl, refl, refl, refl, refl)

-- where a message may begin: the last byte, none behind it, and nothing but the end of the input

abbrev at_byte : ℕ → List ℕ → Read (Option Message)
at_byte n bytes = next (cursor n bytes)

last_message : at_byte (MESSAGES_END - 1) (5 ∷ 9 ∷ []) ≡ Ok (Some message.Post, cursor MESSAGES_END (9 ∷ []))
unfolding next spelled first each
last_message = refl

late_message : at_byte MESSAGES_END (5 ∷ 9 ∷ []) ≡ Err (broken MESSAGES_END 5 (9 ∷ []))
unfolding next spelled first
late_message = refl

late_number : at_byte MESSAGES_END (99 ∷ []) ≡ Err (broken MESSAGES_END 5 [])
unfolding next spelled first
late_number = refl

late_end : at_byte MESSAGES_END [] ≡ Ok (None, cursor MESSAGES_END [])
unfolding next spelled first
late_end = refl
