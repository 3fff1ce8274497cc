-- Worked texts of scripts.
use Rattle.std.proofs.Common.{◌≡◌, ℕ, ℤ, pos, negsuc, List, [], ◌∷◌, ◌++◌, Option, Some, Result, Ok, Err, codes, flat_map, map, refl, take}
use Rattle.std.specs.Fmt.{digits}
use Rattle.wf_words.specs.Refusals.{◌>>=◌, found_or}
use Rattle.wf_pixel.specs.declared.Format.TheVariants.{A8, Rgbx8}
use Rattle.wf_scene.specs.declared.attributes.ContextAttr.TheVariants as context
use Rattle.wf_scene.specs.declared.attributes.ElementAttr.TheVariants as element
use Rattle.wf_calls.specs.declared.call.StatWord.TheVariants.{Bytes}
use Rattle.wf_calls.specs.declared.display.PipeAttr.TheVariants as pipe
use Rattle.wf_calls.specs.declared.display.PortAttr.TheVariants as port
use Rattle.wf_calls.specs.declared.display.Transition.TheVariants.{Vsync}
use Rattle.wf_script.specs.declared.line.Value.{Value}
use Rattle.wf_script.specs.declared.line.Value.TheVariants.{Handle, Numbers}
use Rattle.wf_script.specs.declared.line.Verb.{Verb}
use Rattle.wf_script.specs.declared.line.Verb.TheVariants as verb
use Rattle.wf_script.specs.declared.name.Name.{Name}
use Rattle.wf_script.specs.declared.rule.Rule.{Rule}
use Rattle.wf_script.specs.declared.rule.Rule.TheVariants as rule
use Rattle.wf_script.specs.Forms.{arguments, forms, plain_words}
use Rattle.wf_script.specs.declared.fault.ScriptFault.{ScriptFault}
use Rattle.wf_script.specs.declared.fault.ScriptFault.TheVariants as fault
use Rattle.wf_script.specs.Canonical.{canonical}
use Rattle.wf_script.specs.Fields.{read_all}
use Rattle.wf_script.specs.Streams.{frame_words, paint_words}
use Rattle.wf_script.specs.Grammar.{end_line, event_line, line_of, parts_of, pipes_line, port_line, read_line, read_lines, read_script}
use Rattle.wf_script.specs.Grammar.{sizes}
use Rattle.wf_script.specs.PaintWords.{checker, color, hex_byte, hex_pixel, hex_pixels, paint_of, rectangle, row, row_number}
use Rattle.wf_script.specs.Script.{PlainScript}
use Rattle.wf_script.specs.Words.{Word, look_up, count_in, digits_of, handle_of, integer_in, integer_of, lines_of, name_of}
use Rattle.wf_script.specs.Words.{size_of, words_in}

-- lines, each with its line feed
abbrev text : List (List ℕ) → List ℕ
text ls = flat_map {X = List ℕ} (λ l. l ++ 10 ∷ []) ls

abbrev small : List ℕ
small = text (codes "WFS1" ∷ codes "port 4x2" ∷ codes "0 tick" ∷ codes "end" ∷ [])

-- reading, computed
abbrev read : List ℕ → Result PlainScript ScriptFault
read = read_script

empty_input : read [] ≡ Err fault.Header
unfolding read_script lines_of
empty_input = refl

-- a missing end, an unknown verb, and a script that is cut to its first bytes
abbrev faulty : List (List ℕ × ScriptFault)
faulty =
    (text (codes "WFS1" ∷ codes "port 4x2" ∷ codes "0 tick" ∷ []), fault.NoEnd 4)
    ∷ (text (codes "WFS1" ∷ codes "port 4x2" ∷ codes "0 tock" ∷ codes "end" ∷ []), fault.Line 3 3) ∷ (take 12 small, fault.Line 2 6)
    ∷ (take 9 small, fault.Line 2 5) ∷ []

each_has_its_fault : map (λ l. read l.0) faulty ≡ map (λ l. Err l.1) faulty
unfolding read_script lines_of words_in read_lines read_line line_of port_line sizes size_of count_in digits_of event_line parts_of
    plain_words read_all
each_has_its_fault = refl

-- the text of what was read
abbrev printed : Result PlainScript ScriptFault → List ℕ
printed (Ok script) = canonical script
printed (Err f) = []

-- carriage returns, comments, spaces, leading zeros and blank lines
loose : printed (read (codes "WFS1" ++ 13 ∷ 10 ∷ codes "# one" ++ 10 ∷ codes " port 04x2 " ++ 10 ∷ 10 ∷ codes "0   tick" ++ 10
    ∷ codes "end"
    ++ 10 ∷ [])) ≡ small
unfolding canonical digits read_script lines_of words_in read_lines read_line line_of port_line end_line sizes size_of count_in
    digits_of event_line parts_of plain_words read_all
loose = refl

-- a longer text is its own canonical text
abbrev longer : List ℕ
longer =
    text
    (codes "WFS1" ∷ codes "port 320x240 640x480" ∷ codes "pipes 1" ∷ codes "0 wp = stream 320 -2 rgbx 2" ∷ codes "0 acquire wp"
    ∷ codes "0 paint checker 8 1 2 3 4 5 6 7 8" ∷ codes "0 post" ∷ codes "1 stat bytes"
    ∷ codes "1 frame wp box -1 0 8 8 255 255 255 255" ∷ codes "1 paint row 0 00ff10a0" ∷ codes "1 acquire none" ∷ codes "0 tick"
    ∷ codes "end" ∷ [])

longer_stands : printed (read longer) ≡ longer
unfolding canonical digits read_script lines_of words_in read_lines read_line line_of port_line pipes_line end_line sizes size_of
    count_in digits_of event_line parts_of plain_words read_all paint_words frame_words integer_of integer_in name_of handle_of
    paint_of color rectangle checker row row_number hex_pixels hex_pixel hex_byte
longer_stands = refl

-- and so is one with each verb of composition, and each attribute that it sets
abbrev pub composed : List ℕ
composed =
    text
    (codes "WFS1" ∷ codes "port 4x2" ∷ codes "0 d = device" ∷ codes "0 c = screen d 1" ∷ codes "0 e = element d c"
    ∷ codes "0 s = stream 1 1 rgba 2" ∷ codes "0 o = offscreen d s" ∷ codes "0 discard" ∷ codes "0 stat streams"
    ∷ codes "0 x = source d c s" ∷ codes "0 m = mask d c s" ∷ codes "0 set d e dest -1 2 3 4" ∷ codes "0 set d e source x"
    ∷ codes "0 set d e srcrect 0 0 7 8" ∷ codes "0 set d e flip 1" ∷ codes "0 set d e rotation 180"
    ∷ codes "0 set d e mask none" ∷ codes "0 set d e filter better" ∷ codes "0 set d e transparency alpha+mask" ∷ codes "0 set d e alpha 9"
    ∷ codes "0 get d e srcrect 3" ∷ codes "0 insert d e none" ∷ codes "0 remove d e" ∷ codes "0 above d e" ∷ codes "0 below d e"
    ∷ codes "0 cset d c background 4 3 2 1" ∷ codes "0 cset d c rotation 90" ∷ codes "0 cget d c lowest 0" ∷ codes "0 commit d c"
    ∷ codes "0 error d" ∷ codes "0 compose d o" ∷ codes "0 trycompose d o"
    ∷ codes "0 activate d c" ∷ codes "0 deactivate d c"
    ∷ codes "0 del_mask d m" ∷ codes "0 del_source d x" ∷ codes "0 del_element d e" ∷ codes "0 del_context d c" ∷ codes "0 del_device d"
    ∷ codes "0 del_stream s" ∷ codes "end" ∷ [])

composed_stands : printed (read composed) ≡ composed
unfolding canonical digits read_script lines_of words_in read_lines read_line line_of port_line end_line sizes size_of count_in
    digits_of event_line parts_of plain_words read_all integer_of name_of handle_of
composed_stands = refl

-- and one with each verb of the display
abbrev pub displayed : List ℕ
displayed =
    text
    (codes "WFS1" ∷ codes "port 4x2 8x4" ∷ codes "pipes 2" ∷ codes "0 s = stream 1 1 pre 2" ∷ codes "0 pset 1 mode 2"
    ∷ codes "0 pset 1 background 1 2 3" ∷ codes "0 pset 1 power 0" ∷ codes "0 pget 1 attached 0" ∷ codes "0 attach 1 0"
    ∷ codes "0 lset 1 dest -1 2 3 4" ∷ codes "0 lset 1 srcrect 0 0 7 8" ∷ codes "0 lset 2 flip 1" ∷ codes "0 lset 2 rotation 270"
    ∷ codes "0 lset 1 filter faster" ∷ codes "0 lset 1 transparency alpha+source" ∷ codes "0 lset 1 alpha 9" ∷ codes "0 lget 1 pending 0"
    ∷ codes "0 lport 1 1" ∷ codes "0 x = wsource 1 s" ∷ codes "0 lsource 1 x vsync" ∷ codes "0 lsource 2 none now"
    ∷ codes "0 commit_pipe 1" ∷ codes "0 commit_port 1" ∷ codes "0 commit_device" ∷ codes "0 derror" ∷ codes "0 del_wsource x"
    ∷ codes "end" ∷ [])

displayed_stands : printed (read displayed) ≡ displayed
unfolding canonical digits read_script lines_of words_in read_lines read_line line_of port_line pipes_line end_line sizes size_of count_in
    digits_of event_line parts_of plain_words read_all integer_of name_of handle_of
displayed_stands = refl

-- a word too many, and a word of another kind
abbrev event : List ℕ → List ℕ
event line = text (codes "WFS1" ∷ codes "port 4x2" ∷ line ∷ codes "end" ∷ [])

abbrev refused : List (List ℕ × ℕ)
refused =
    (codes "0 commit d c c", 5) ∷ (codes "0 commit d", 5) ∷ (codes "0 commit 1 c", 6) ∷ (codes "0 lport 1 d", 6)
    ∷ (codes "0 set d e alpha 1 2", 5) ∷ (codes "0 set d e dest 1 2 3", 5) ∷ (codes "0 set d e", 5) ∷ (codes "0 set d e size 1", 6)
    ∷ (codes "0 lset 1 mode 1", 6) ∷ (codes "0 set d e alpha none", 6) ∷ (codes "0 set d e filter 1", 6) ∷ (codes "0 commit d c", 7) ∷ []

each_is_refused : map (λ l. read (event l.0)) refused ≡ map (λ l. Err (fault.Line 3 l.1)) refused
unfolding read_script lines_of words_in read_lines read_line line_of port_line sizes size_of count_in digits_of event_line parts_of
    plain_words read_all integer_of name_of handle_of
each_is_refused = refl

-- what lines of each form mean
abbrev given_by : List Word → Result Verb Rule
given_by [] = Err rule.Verb
given_by (v ∷ ws) = found_or rule.Verb (look_up forms v) >>= (λ f. arguments f ws >>= (λ g. Ok g.0))

-- names, and values of numbers
abbrev a : Option Name
a = Some (codes "a")

abbrev b : Option Name
b = Some (codes "b")

abbrev c : Option Name
c = Some (codes "c")

abbrev x : Option Name
x = Some (codes "x")

abbrev four : ℤ → ℤ → ℤ → ℤ → Value
four p q r s = Numbers (p ∷ q ∷ r ∷ s ∷ [])

abbrev meanings : List (List ℕ × Verb)
meanings =
    (codes "stream 3 -4 rgbx 5", verb.StreamNew (pos 3) (negsuc 3) Rgbx8 (pos 5))
    ∷ (codes "queue 3 -4 a8 9", verb.StreamQueue (pos 3) (negsuc 3) A8 (pos 9))
    ∷ (codes "acquire a", verb.Acquire a)
    ∷ (codes "post", verb.Post)
    ∷ (codes "discard", verb.Discard)
    ∷ (codes "stat bytes", verb.Stat Bytes)
    ∷ (codes "tick", verb.Tick)
    ∷ (codes "device", verb.DeviceNew)
    ∷ (codes "error a", verb.GetError a)
    ∷ (codes "screen a 3", verb.ScreenContext a (pos 3))
    ∷ (codes "offscreen a b", verb.StreamContext a b)
    ∷ (codes "element a b", verb.ElementNew a b)
    ∷ (codes "source a b c", verb.SourceNew a b c)
    ∷ (codes "mask a b c", verb.MaskNew a b c)
    ∷ (codes "set a b dest 1 -2 3 4", verb.ElementSet a b element.Dest (four (pos 1) (negsuc 1) (pos 3) (pos 4)))
    ∷ (codes "set a b mask x", verb.ElementSet a b element.Mask (Handle x))
    ∷ (codes "set a b filter better", verb.ElementSet a b element.Filter (four (pos 2) (pos 0) (pos 0) (pos 0)))
    ∷ (codes "set a b transparency source+mask", verb.ElementSet a b element.Transparency (four (pos 6) (pos 0) (pos 0) (pos 0)))
    ∷ (codes "get a b source 3", verb.ElementGet a b element.Source (pos 3))
    ∷ (codes "insert a b c", verb.ElementInsert a b c)
    ∷ (codes "remove a b", verb.ElementRemove a b)
    ∷ (codes "above a b", verb.ElementAbove a b)
    ∷ (codes "below a b", verb.ElementBelow a b)
    ∷ (codes "cset a b background 1 2 3 4", verb.ContextSet a b context.Background (four (pos 1) (pos 2) (pos 3) (pos 4)))
    ∷ (codes "cget a b lowest 3", verb.ContextGet a b context.Lowest (pos 3))
    ∷ (codes "commit a b", verb.Commit a b)
    ∷ (codes "activate a b", verb.Activate a b)
    ∷ (codes "deactivate a b", verb.Deactivate a b)
    ∷ (codes "compose a b", verb.Compose a b)
    ∷ (codes "trycompose a b", verb.TryCompose a b)
    ∷ (codes "del_stream a", verb.StreamDestroy a)
    ∷ (codes "del_device a", verb.DeviceDestroy a)
    ∷ (codes "del_context a b", verb.ContextDestroy a b)
    ∷ (codes "del_element a b", verb.ElementDestroy a b)
    ∷ (codes "del_source a b", verb.SourceDestroy a b)
    ∷ (codes "del_mask a b", verb.MaskDestroy a b)
    ∷ (codes "pset 3 background 1 2 3", verb.PortSet (pos 3) port.Background (four (pos 1) (pos 2) (pos 3) (pos 0)))
    ∷ (codes "pget 3 width -4", verb.PortGet (pos 3) port.Width (negsuc 3))
    ∷ (codes "attach 3 -4", verb.Attach (pos 3) (negsuc 3))
    ∷ (codes "lset 3 filter faster", verb.PipeSet (pos 3) pipe.Filter (four (pos 1) (pos 0) (pos 0) (pos 0)))
    ∷ (codes "lget 3 showing -4", verb.PipeGet (pos 3) pipe.Showing (negsuc 3))
    ∷ (codes "lport 3 -4", verb.PipeBindPort (pos 3) (negsuc 3))
    ∷ (codes "wsource 3 a", verb.DisplaySource (pos 3) a)
    ∷ (codes "del_wsource a", verb.DisplaySourceDestroy a)
    ∷ (codes "lsource 3 a vsync", verb.PipeBindSource (pos 3) a Vsync)
    ∷ (codes "commit_device", verb.CommitDevice)
    ∷ (codes "commit_port 3", verb.CommitPort (pos 3))
    ∷ (codes "commit_pipe 3", verb.CommitPipe (pos 3))
    ∷ (codes "derror", verb.DisplayError)
    ∷ []

each_means : map (λ l. given_by (words_in l.0)) meanings ≡ map (λ l. Ok l.1) meanings
unfolding words_in plain_words read_all count_in digits_of integer_of name_of handle_of
each_means = refl

-- a name that another client binds behind the setup
not_visible : read (text (codes "WFS1" ∷ codes "port 1x1" ∷ codes "1 s = stream 1 1 a8 2" ∷ codes "0 acquire s" ∷ codes "end" ∷ []))
    ≡ Err (fault.Line 4 7)
unfolding read_script lines_of words_in read_lines read_line line_of port_line sizes size_of count_in digits_of event_line parts_of
    plain_words read_all integer_of name_of handle_of
not_visible = refl
