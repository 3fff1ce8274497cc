-- A worked script of a screen: two frames are composed into it, one after another, and then it has the second one.
use Rattle.wf_turn.proofs.Common.{◌≡◌, ℕ, List, [], ◌∷◌, ◌++◌, map, Some, refl, ap, arith, slice_get, unwrap_or, drawn, act, step, Bitmap}
use Rattle.wf_turn.proofs.Common.{Turn, Line}
use Rattle.wf_turn.proofs.Common.{Verb, Name, PlainScript, turn, serial_from, serial_order, replay_from, replay}
use Rattle.std.proofs.Common.{codes, pos}
use Rattle.std.specs.Prelude.{ℤ, Option, None}
use Rattle.wf_pixel.specs.declared.Format.TheVariants.{Rgbx8}
use Rattle.wf_scene.specs.declared.attributes.ContextAttr.TheVariants as context
use Rattle.wf_script.specs.declared.line.Value.TheVariants as value
use Rattle.wf_script.specs.declared.line.Verb.TheVariants as verb
use Rattle.wf_turn.specs.Moments.{IsOfLastFrame, image_after}
use Rattle.wf_turn.proofs.OneLastFrame.{one_image}
use Rattle.wf_turn.proofs.Screens.{screens_show_last}

abbrev line : Option Name → Verb → Line
line name v = record { client = 0; name = name; verb = v }

abbrev d : Option Name
d = Some (codes "d")

abbrev c : Option Name
c = Some (codes "c")

-- all of the screen is of a grey, from the next commit on
abbrev grey : ℤ → List Line
grey z =
    line None (verb.ContextSet d c context.Background (value.Numbers (z ∷ z ∷ z ∷ pos 255 ∷ []))) ∷ line None (verb.Commit d c) ∷ []

-- a port, a context of its screen, and two ticks, between which the context gets another background
abbrev twice : PlainScript
twice =
    record {
      ports = record { modes = record { items = record { sizes = record { items = record { w = 1; h = 1 } ∷ [] } } ∷ [] }; pipes = 0 };
      lines = line d verb.DeviceNew ∷ line c (verb.ScreenContext d (pos 1)) ∷ grey (pos 9) ++ line None (verb.Activate d c)
          ∷ line None verb.Tick ∷ grey (pos 7) ++ line None verb.Tick ∷ [];
    }

abbrev entry : ℕ → Turn
entry value = record { client = 0; code = 0; value = value }

-- up to the first tick's end, and the rest
abbrev first_tick : List Turn
first_tick = map entry (1 ∷ 2 ∷ 0 ∷ 0 ∷ 0 ∷ 2 ∷ 0 ∷ 0 ∷ 1 ∷ 0 ∷ [])

abbrev both_ticks : List Turn
both_ticks = first_tick ++ map entry (0 ∷ 0 ∷ 2 ∷ 0 ∷ 0 ∷ 1 ∷ 0 ∷ [])

twice_serially : serial_order twice [] ≡ both_ticks
unfolding serial_from turn step act drawn
twice_serially = refl

abbrev pixel : ℕ → Bitmap
pixel z = record { size = record { w = 1; h = 1 }; format = Rgbx8; bytes = z ∷ z ∷ z ∷ 255 ∷ [] }

-- after each tick the screen has the picture that was composed in it
first_composed : image_after 1 (replay twice first_tick) ≡ Some (pixel 9)
unfolding replay_from turn step act drawn
first_composed = refl

second_composed : image_after 1 (replay twice both_ticks) ≡ Some (pixel 7)
unfolding replay_from turn step act drawn
second_composed = refl

-- so the first picture is of the last frame for a while, and no more: a screen that kept it for ever would break the law

first_was_last : IsOfLastFrame twice first_tick 1 (pixel 9)
first_was_last = screens_show_last twice first_tick 1 (pixel 9) refl first_composed

second_is_last : IsOfLastFrame twice both_ticks 1 (pixel 7)
second_is_last = screens_show_last twice both_ticks 1 (pixel 7) refl second_composed

first_is_over : IsOfLastFrame twice both_ticks 1 (pixel 9) → ⊥
first_is_over first =
    let same : pixel 9 ≡ pixel 7 = one_image twice both_ticks 1 (pixel 9) (pixel 7) first second_is_last in
    let red : 9 ≡ 7 = ap (λ (b : Bitmap). unwrap_or (slice_get b.bytes 0) 0) same in
    omega (arith, red)
