-- The numbers of streams rise in every state that requests lead to, so no number stands twice.
use Rattle.std.proofs.Common.{◌≡◌, ℕ, ◌+◌, ◌<◌, Bool, true, false, cond, not, ◌==◌, ◌&&◌, List, [], ◌∷◌, map, length, Option, Some, None}
use Rattle.std.proofs.Common.{refl, sym, subst, arith, ◌∙◌, ap}
use Rattle.std.proofs.lemmas.Bool.{eqb-true}
use Rattle.std.specs.List.{range_with_len, zip}
use Rattle.wf_words.specs.Keyed.{is_in}
use Rattle.wf_words.specs.Rising.{RisesTo, found_above, rises_to, rises_to_change, rises_to_filter, rises_to_more}
use Rattle.wf_image.specs.Bitmap.{Bitmap}
use Rattle.wf_image.specs.Contents.{image_of}
use Rattle.wf_stream.specs.Buffers.{Buffers, acquired, posted}
use Rattle.wf_stream.specs.Streams.{KeptStream, change_stream, stream_at, stream_of, unnamed}
use Rattle.wf_calls.specs.Codes.{is_ok_code}
use Rattle.wf_calls.specs.Parts.{Register, no_register, of_device, of_display, register_of}
use Rattle.wf_calls.specs.declared.call.Call.{Call}
use Rattle.wf_calls.specs.declared.call.JobKind.{JobKind}
use Rattle.wf_calls.specs.declared.call.JobKind.TheVariants as kind
use Rattle.wf_calls.specs.declared.code.Code.{Code}
use Rattle.wf_calls.specs.declared.ports.Modes.{Modes}
use Rattle.wf_calls.specs.declared.ports.Ports.{Ports}
use Rattle.wf_calls.specs.declared.reply.Reply.{Reply}
use Rattle.wf_model.specs.Effects.{Effect, acquires, begins, composes, displays, effect, ends, makes, refuses, returns, tells, unnames}
use Rattle.wf_model.specs.Frames.{brought_home, delivered, drawing, home_if, latch, latched_among, scene_streams}
use Rattle.wf_model.specs.Names.{all_names, settle_if}
use Rattle.wf_model.specs.Picture.{Images}
use Rattle.wf_model.specs.Registers.{offered}
use Rattle.wf_model.specs.State.{State, screen}
use Rattle.wf_model.specs.Step.{act, step}
use Rattle.wf_guard.specs.declared.form.Form.{Form}
use Rattle.wf_guard.specs.LiveStreams.{Turn, after_turn, after_turns, opened}
use Rattle.wf_guard.specs.Serving.{Served}
use Rattle.wf_guard.proofs.Turns.{runs_keep, steps_keep}

-- the stream of a live handle is the stream of its number
abbrev pub AreApart : List KeptStream → Type 0
AreApart ss = (handle : ℕ) (t : KeptStream) → stream_of handle ss ≡ Some t → stream_at t.number ss ≡ Some t

abbrev pub number : KeptStream → ℕ
number s = s.number

abbrev pub NumbersRise : State → Type 0
NumbersRise h = RisesTo number 0 h.streams h.numbered

pub rise_apart : (h : State) → NumbersRise h → AreApart h.streams
rise_apart h rise handle t found =
    (found_above number (λ s. (s.handle == handle) && not (handle == 0)) 0 h.streams t (rises_to number 0 h.numbered h.streams rise)
    found).1

-- the stream of a handle has it
pub found_handle : (handle : ℕ) (ss : List KeptStream) (t : KeptStream) → stream_of handle ss ≡ Some t → t.handle ≡ handle
found_handle handle [] t is = absurd cc
found_handle handle (s ∷ ss) t is =
    by_test ((s.handle == handle) && not (handle == 0)) refl (found_handle handle ss t) is
  where
    first : (b : Bool) → (b && not (handle == 0)) ≡ true → b ≡ true
    first true both = refl
    first false both = absurd cc

    by_test : (b : Bool) → ((s.handle == handle) && not (handle == 0)) ≡ b → (stream_of handle ss ≡ Some t → t.handle ≡ handle)
        → cond b (Some s) (stream_of handle ss) ≡ Some t → t.handle ≡ handle
    by_test true both rest is =
        let same : s ≡ t = cc in
        ap (λ (x : KeptStream). x.handle) (sym same) ∙ eqb-true s.handle handle (first (s.handle == handle) both)
    by_test false none rest is = rest is

-- lists of streams

mapped : (g : KeptStream → KeptStream) → ((s : KeptStream) → (g s).number ≡ s.number) → (low high : ℕ) (ss : List KeptStream)
    → RisesTo number low ss high → RisesTo number low (map g ss) high
mapped g keeps low high [] rises = rises
mapped g keeps low high (s ∷ ss) rises =
    let later = mapped g keeps s.number high ss rises.1 in (
      subst (λ n. low < n) (sym (keeps s)) rises.0,
      subst (λ n. RisesTo number n (map g ss) high) (sym (keeps s)) later,
    )

module _ (high : ℕ) where
  abbrev Rise : List KeptStream → Type 0
  Rise ss = RisesTo number 0 ss high

  changed : (k : ℕ) (f : Buffers → Buffers) (ss : List KeptStream) → Rise ss → Rise (change_stream k f ss)
  changed k f ss rise = rises_to_change number (λ s. record s { buffers = f s.buffers }) k 0 high ss (λ s. refl) rise

  unnames_one : (handle : ℕ) (ss : List KeptStream) → Rise ss → Rise (map (unnamed handle) ss)
  unnames_one handle ss rise = mapped (unnamed handle) keeps 0 high ss rise
    where
      keeps : (s : KeptStream) → (unnamed handle s).number ≡ s.number
      keeps s =
          elim (s.handle == handle) as (λ b. (cond b (record s { handle = 0 }) s).number ≡ s.number) [
            | true ↦ refl
            | false ↦ refl
          ]

  latches : (ns : List ℕ) (ss : List KeptStream) → Rise ss → Rise (latch ns ss)
  latches ns ss rise = mapped (latched_among ns) keeps 0 high ss rise
    where
      keeps : (s : KeptStream) → (latched_among ns s).number ≡ s.number
      keeps s = by_test (is_in s.number ns) refl
        where
          by_test : (b : Bool) → is_in s.number ns ≡ b → (latched_among ns s).number ≡ s.number
          by_test true is = rw is refl
          by_test false is = rw is refl

  draws : (k : JobKind) (ss : List KeptStream) → Rise ss → Rise (drawing k ss)
  draws (kind.Context handle target) ss rise = changed target acquired ss rise
  draws (kind.Port port) ss rise = rise

  homes : (contents : Images) (ss : List KeptStream) → Rise ss → Rise (brought_home contents ss)
  homes contents ss rise = mapped (λ s. home_if (image_of s.number contents) s) (λ s. keeps (image_of s.number contents) s) 0 high ss rise
    where
      keeps : (o : Option Bitmap) (s : KeptStream) → (home_if o s).number ≡ s.number
      keeps None s = refl
      keeps (Some image) s = refl

  delivers : (k : JobKind) (image : Bitmap) (ss : List KeptStream) → Rise ss → Rise (delivered k image ss)
  delivers (kind.Context handle target) image ss rise = changed target (posted image) ss rise
  delivers (kind.Port port) image ss rise = rise

-- calls

offers : (register : Register) (refused : Code) (h : State) → NumbersRise h → NumbersRise (offered register refused h)
offers (of_device d) refused h rise = rise
offers of_display refused h rise = rise
offers no_register refused h rise = rise

effect_rises : (h : State) (c : Call) (x : State × Reply) → Effect h c x → NumbersRise h → NumbersRise x.0
effect_rises h c x (refuses honest left) rise = subst NumbersRise (sym left) (offers (register_of c) x.1.code h rise)
effect_rises h c x (composes m w value does is) rise = subst (λ y. NumbersRise y.0) (sym is) rise
effect_rises h c x (displays m w value does is) rise = subst (λ y. NumbersRise y.0) (sym is) rise
effect_rises h c x (makes new is) rise =
    let one : KeptStream = record { number = h.numbered + 1; handle = h.made + 1; buffers = new } in
    subst (λ y. NumbersRise y.0) (sym is)
    (rises_to_more number 0 h.numbered (h.numbered + 1) h.streams one (omega arith) (omega arith) rise)
effect_rises h c x (unnames handle is) rise = subst (λ y. NumbersRise y.0) (sym is) (unnames_one h.numbered handle h.streams rise)
effect_rises h c x (acquires handle s at is) rise =
    subst (λ y. NumbersRise y.0) (sym is) (changed h.numbered s.number acquired h.streams rise)
effect_rises h c x (returns canvas f way out is) rise =
    subst (λ y. NumbersRise y.0) (sym is) (changed h.numbered canvas.stream f h.streams rise)
effect_rises h c x (begins b free begun is) rise =
    subst (λ y. NumbersRise y.0) (sym is)
    (draws h.numbered b.kind (latch (scene_streams b.scene) h.streams) (latches h.numbered (scene_streams b.scene) h.streams rise))
effect_rises h c x (ends job f call_is runs own is) rise =
    subst (λ y. NumbersRise y.0) (sym is)
    (delivers h.numbered job.kind job.image (brought_home job.contents h.streams) (homes h.numbered job.contents h.streams rise))
effect_rises h c x (tells value is) rise = subst (λ y. NumbersRise y.0) (sym is) rise

settled : (b : Bool) (h : State) → NumbersRise h → NumbersRise (settle_if b h)
settled false h rise = rise
settled true h rise = rises_to_filter number (λ s. is_in s.number (all_names h)) 0 h.numbered h.streams rise

step_rises : (h : State) (client : ℕ) (c : Call) (m : Bool) → NumbersRise h → NumbersRise (step h client c m).0
unfolding step
step_rises h client c m rise =
    settled (is_ok_code (act h c m).1.code) (act h c m).0 (effect_rises h c (act h c m) (effect h c m) rise)

-- over runs

pub turn_rises : (t : Turn) (v : Served) → NumbersRise v.machine → NumbersRise (after_turn t v).machine
turn_rises = steps_keep NumbersRise step_rises

-- screens are numbered first
screens_rise : (low : ℕ) (ms : List Modes)
    → RisesTo number low (map screen (zip (range_with_len (low + 1) (length ms)) ms)) (low + length ms)
screens_rise low [] = omega arith
screens_rise low (m ∷ ms) =
    let same : low + 1 + length ms ≡ low + length (m ∷ ms) = omega arith in (
      omega arith,
      subst (RisesTo number (low + 1) (map screen (zip (range_with_len (low + 1 + 1) (length ms)) ms))) same (screens_rise (low + 1) ms),
    )

pub open_rising : (form : Form) (ports : Ports) → NumbersRise (opened form ports).machine
open_rising form ports =
    let count : 0 + length ports.modes.items ≡ length ports.modes.items = omega arith in
    subst (RisesTo number 0 (opened form ports).machine.streams) count (screens_rise 0 ports.modes.items)

pub always_apart : (form : Form) (ports : Ports) (rs : List Turn) → AreApart (after_turns (opened form ports) rs).machine.streams
always_apart form ports rs =
    rise_apart (after_turns (opened form ports) rs).machine
    (runs_keep (λ v. NumbersRise v.machine) turn_rises rs (opened form ports) (open_rising form ports))
