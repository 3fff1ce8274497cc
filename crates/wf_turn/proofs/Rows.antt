-- Worked scripts: what the plain machine and the plain player make of them.
use Rattle.wf_turn.proofs.Common.{◌≡◌, ℕ, List, [], ◌∷◌, ◌++◌, map, Option, Some, None, length, refl, sym, subst, Size, drawn, Turn, Frame}
use Rattle.wf_turn.proofs.Common.{act, step, Line, Verb, Name, PlainScript, Begins, IsOfMoment, Program, next, program, waiting, Show}
use Rattle.wf_turn.proofs.Common.{opening_show, turn, serial_from, serial_order, replay_from, frames_after, replay}
use Rattle.std.proofs.Common.{codes, pos}
use Rattle.wf_pixel.specs.declared.Rgba.{Rgba}
use Rattle.wf_pixel.specs.declared.Format.TheVariants.{Rgba8}
use Rattle.wf_image.specs.declared.paint.Paint.TheVariants.{Fill}
use Rattle.wf_scene.specs.declared.attributes.ElementAttr.{ElementAttr}
use Rattle.wf_scene.specs.declared.attributes.ElementAttr.TheVariants as element
use Rattle.wf_calls.specs.declared.call.StatWord.TheVariants as stat
use Rattle.wf_script.specs.declared.line.Value.{Value}
use Rattle.wf_script.specs.declared.line.Value.TheVariants as value
use Rattle.wf_script.specs.declared.line.Verb.TheVariants as verb
use Rattle.wf_calls.specs.declared.call.Call.TheVariants as call
use Rattle.wf_film.specs.declared.form.FilmForm.TheVariants as forms
use Rattle.wf_turn.specs.Play.{film}
use Rattle.wf_turn.specs.Quota.{quota}

abbrev line : ℕ → Verb → Line
line client v = record { client = client; name = None; verb = v }

abbrev s : Option Name
s = Some (codes "s")

abbrev grey : Rgba
grey = record { r = 9; g = 9; b = 9; a = 255 }

-- a script of one port
abbrev on_port : Size → List Line → PlainScript
on_port size lines =
    record {
      ports = record { modes = record { items = record { sizes = record { items = size ∷ [] } } ∷ [] }; pipes = 0 };
      lines = lines;
    }

-- a line of client 0 that makes what a name stands for
abbrev made : Option Name → Verb → Line
made name v = record { client = 0; name = name; verb = v }

abbrev new_stream : Line
new_stream = made s (verb.StreamNew (pos 1) (pos 1) Rgba8 (pos 2))

-- a stream is written by client 0, while client 1 asks for it in vain
abbrev written : PlainScript
written =
    on_port (record { w = 1; h = 1 })
    (new_stream ∷ line 0 (verb.Acquire s) ∷ line 1 (verb.Acquire s) ∷ line 0 (verb.Paint (Fill grey)) ∷ line 0 verb.Post
    ∷ line 0 (verb.Stat stat.Streams) ∷ line 0 (verb.Stat stat.Bytes) ∷ [])

abbrev entry : ℕ → ℕ → ℕ → Turn
entry client code value = record { client = client; code = code; value = value }

abbrev written_order : List Turn
written_order = entry 0 0 1 ∷ entry 0 0 0 ∷ entry 1 7 0 ∷ entry 0 0 0 ∷ entry 0 0 2 ∷ entry 0 0 20 ∷ []

written_serially : serial_order written [] ≡ written_order
unfolding serial_from turn step act drawn
written_serially = refl

written_film : length (film forms.Two written written_order) ≡ 46
unfolding replay_from turn step act drawn
written_film = refl

-- an element shows a stream on all of a port's screen: a tick begins and ends a frame of the context, finds no context
-- more, and then shows the port
abbrev d : Option Name
d = Some (codes "d")

abbrev c : Option Name
c = Some (codes "c")

abbrev x : Option Name
x = Some (codes "x")

abbrev e : Option Name
e = Some (codes "e")

abbrev set : ElementAttr → Value → Line
set attr to = line 0 (verb.ElementSet d e attr to)

abbrev composed : PlainScript
composed =
    on_port (record { w = 4; h = 2 })
    (made d verb.DeviceNew ∷ made c (verb.ScreenContext d (pos 1)) ∷ new_stream ∷ made x (verb.SourceNew d c s)
    ∷ made e (verb.ElementNew d c)
    ∷ set element.Source (value.Handle x) ∷ set element.SrcRect (value.Numbers (pos 0 ∷ pos 0 ∷ pos 1 ∷ pos 1 ∷ []))
    ∷ set element.Dest (value.Numbers (pos 0 ∷ pos 0 ∷ pos 4 ∷ pos 2 ∷ []))
    ∷ line 0 (verb.ElementInsert d e None) ∷ line 0 (verb.Commit d c) ∷ line 0 (verb.Activate d c) ∷ line 0 (verb.Frame s (Fill grey))
    ∷ line 0 verb.Tick ∷ [])

abbrev composed_order : List Turn
composed_order = map (entry 0 0) (1 ∷ 2 ∷ 3 ∷ 4 ∷ 5 ∷ 0 ∷ 0 ∷ 0 ∷ 0 ∷ 0 ∷ 0 ∷ 0 ∷ 0 ∷ 2 ∷ 0 ∷ 0 ∷ 1 ∷ 0 ∷ [])

composed_serially : serial_order composed [] ≡ composed_order
unfolding serial_from turn step act drawn
composed_serially = refl

abbrev grey_screen : Frame
grey_screen =
    record {
      port = 1;
      tick = 1;
      begin = 16;
      size = record { w = 4; h = 2 };
      pixels = 9 ∷ 9 ∷ 9 ∷ 255 ∷ 9 ∷ 9 ∷ 9 ∷ 255 ∷ 9 ∷ 9 ∷ 9 ∷ 255 ∷ 9 ∷ 9 ∷ 9 ∷ 255 ∷ 9 ∷ 9 ∷ 9 ∷ 255 ∷ 9 ∷ 9 ∷ 9 ∷ 255 ∷ 9 ∷ 9 ∷ 9 ∷ 255
          ∷ 9 ∷ 9 ∷ 9 ∷ 255 ∷ [];
    }

composed_frames : frames_after (replay composed composed_order) ≡ grey_screen ∷ []
unfolding replay_from turn step act drawn
composed_frames = refl

composed_film_of_one : length (film forms.One composed composed_order) ≡ 160
unfolding replay_from turn step act drawn
composed_film_of_one = refl

composed_film_of_two : length (film forms.Two composed composed_order) ≡ 164
unfolding replay_from turn step act drawn
composed_film_of_two = refl

-- a device, and a tick without any scene: the creation of the device tells 1, and so does the Begin of port 1. The frame
-- is of the moment of that Begin, and not of the creation
abbrev created : PlainScript
created = on_port (record { w = 1; h = 1 }) (made d verb.DeviceNew ∷ line 0 verb.Tick ∷ [])

abbrev before_port : List Turn
before_port = entry 0 0 1 ∷ entry 0 0 0 ∷ []

abbrev created_order : List Turn
created_order = before_port ++ entry 0 0 1 ∷ entry 0 0 0 ∷ []

abbrev black : Frame
black = record { port = 1; tick = 1; begin = 2; size = record { w = 1; h = 1 }; pixels = 0 ∷ 0 ∷ 0 ∷ 255 ∷ [] }

created_frames : frames_after (replay created created_order) ≡ black ∷ []
unfolding replay_from turn step act drawn
created_frames = refl

-- the show after an order that can be replayed, or the opening one, and its clock's program
abbrev show_after : List Turn → Show
show_after order = elim (replay created order) as (λ _. Show) [ None ↦ opening_show created | Some show ↦ show ]

abbrev clock_of : List Program → Program
clock_of [] = program created 0
clock_of (clock ∷ others) = clock

begun_at_port : Begins black (show_after before_port) (entry 0 0 1)
unfolding replay_from turn step act drawn
begun_at_port =
    record {
      asks = record { program = clock_of (show_after before_port).programs; own = refl; next_is = refl };
      tick = refl;
      place = refl;
      code = refl;
      value = refl;
      shows = refl;
    }

created_moment : IsOfMoment created created_order black
unfolding replay_from turn step act drawn
created_moment =
    record {
      earlier = before_port;
      entry = entry 0 0 1;
      later = entry 0 0 0 ∷ [];
      cut = refl;
      moment = show_after before_port;
      reached = refl;
      holds = begun_at_port;
    }

not_at_creation : Begins black (opening_show created) (entry 0 0 1) → ⊥
not_at_creation begins =
    let own : Some (program created 0) ≡ Some begins.asks.program = begins.asks.own in
    let is : program created 0 ≡ begins.asks.program = cc in
    let next : next (program created 0) ≡ Some (waiting (call.BeginPort (pos 1))) =
    subst (λ p. next p ≡ Some (waiting (call.BeginPort (pos 1)))) (sym is) begins.asks.next_is in
    absurd cc

-- the events that lines of each client make at most: client 0 makes a stream and ticks, client 1 writes a frame, client 2 takes a
-- write buffer, paints it and posts it, and client 3 has no line
abbrev shared : List Line
shared =
    new_stream ∷ line 2 (verb.Acquire s) ∷ line 1 (verb.Frame s (Fill grey)) ∷ line 2 (verb.Paint (Fill grey)) ∷ line 0 verb.Tick
    ∷ line 2 verb.Post ∷ []

shared_quotas : map (quota shared) (0 ∷ 1 ∷ 2 ∷ 3 ∷ []) ≡ 41 ∷ 2 ∷ 2 ∷ 0 ∷ []
shared_quotas = refl
