-- A client holds one write buffer at most.
use Rattle.std.proofs.Common.{◌≡◌, ◌∙◌, ℕ, zero, suc, Bool, true, false, cond, ◌==◌, ◌||◌, List, [], ◌∷◌, ◌++◌, Option, Some, None, ◌&&◌}
use Rattle.std.proofs.Common.{refl, sym, ap, subst, one-add}
use Rattle.std.proofs.lemmas.Bool.{or_parts, eqb-true}
use Rattle.std.specs.Prelude.{find, nat_le, length, option_and_then, slice_get}
use Rattle.std.specs.List.{position, position_or_len, remove}
use Rattle.wf_words.specs.Found.{get_position}
use Rattle.wf_image.specs.declared.canvas.Canvas.{Canvas}
use Rattle.wf_stream.specs.declared.TheConstants.{MOST_STREAMS}
use Rattle.wf_calls.specs.Replies.{given_canvas}
use Rattle.wf_calls.specs.Requests.{call_of}
use Rattle.wf_calls.specs.declared.call.Call.TheVariants as call
use Rattle.wf_calls.specs.declared.ports.Ports.{Ports}
use Rattle.wf_calls.specs.declared.request.Request.{Request}
use Rattle.wf_host.specs.Held.{adding, canvas_of, holds, without}
use Rattle.wf_host.specs.declared.canvases.Held.{Held}
use Rattle.wf_model.specs.Step.{step}
use Rattle.wf_wire.specs.Asked.{is_acquire}
use Rattle.wf_guard.specs.declared.form.Form.{Form}
use Rattle.wf_guard.specs.LiveStreams.{Turn, after_turn, after_turns, opened}
use Rattle.wf_guard.specs.Serving.{Served, lacks_place, made}
use Rattle.wf_guard.proofs.OwnCanvases.{AllHeld}
use Rattle.wf_guard.proofs.Payloads.{gives_none}
use Rattle.wf_guard.proofs.Turns.{Keeps, runs_keep, turn_keeps}

module _ (a : ℕ) where
  -- none is held under the number
  abbrev pub NoneOf : List Held → Type 0
  NoneOf hs = AllHeld a (λ canvas. ⊥) hs

  -- one is held under it at most
  abbrev pub OneOf : List Held → Type 0
  OneOf [] = Unit {0}
  OneOf (h ∷ hs) = ((h.key == a) ≡ true → NoneOf hs) × OneOf hs

  pub none_held : (hs : List Held) → NoneOf hs → canvas_of a hs ≡ None
  none_held [] none = refl
  none_held (h ∷ hs) none = by_test (none_held hs none.1) (h.key == a) refl
    where
      by_test : canvas_of a hs ≡ None → (b : Bool) → (h.key == a) ≡ b → canvas_of a (h ∷ hs) ≡ None
      by_test later true is = absurd (none.0 is)
      by_test later false is = rw is later

  pub none_of : (hs : List Held) → holds a hs ≡ false → NoneOf hs
  none_of [] none = tt
  none_of (h ∷ hs) none =
      let parts = or_parts (h.key == a) (holds a hs) none in
      ((λ is. (let no : true ≡ false = sym is ∙ parts.0 in absurd cc)), none_of hs parts.1)

  none_left : (at : ℕ) (hs : List Held) → NoneOf hs → NoneOf (remove hs at)
  none_left zero [] none = none
  none_left (suc at) [] none = none
  none_left zero (h ∷ hs) none = none.1
  none_left (suc at) (h ∷ hs) none = (none.0, none_left at hs none.1)

  one_left : (at : ℕ) (hs : List Held) → OneOf hs → OneOf (remove hs at)
  one_left zero [] one = one
  one_left (suc at) [] one = one
  one_left zero (h ∷ hs) one = one.1
  one_left (suc at) (h ∷ hs) one = ((λ is. none_left at hs (one.0 is)), one_left at hs one.1)

  none_found : (hs : List Held) → find (λ h. h.key == a) hs ≡ None → NoneOf hs
  none_found [] none = tt
  none_found (h ∷ hs) none = by_test (none_found hs) (h.key == a) refl none
    where
      by_test : (find (λ x. x.key == a) hs ≡ None → NoneOf hs) → (b : Bool) → (h.key == a) ≡ b → find (λ x. x.key == a) (h ∷ hs) ≡ None
          → NoneOf (h ∷ hs)
      by_test later true is none = absurd (let no : Some h ≡ None = rw is at none in cc)
      by_test later false is none = ((λ key. (let no : true ≡ false = sym key ∙ is in absurd cc)), later (rw is at none))

  -- how many stand before the first one
  abbrev before : List Held → ℕ
  before hs = position_or_len (λ h. h.key == a) hs

  at_first : (b : Bool) (n at : ℕ) → cond b (Some n) None ≡ Some at → n ≡ at
  at_first true n at is = cc
  at_first false n at is = absurd cc

  first_left : (hs : List Held) → OneOf hs → NoneOf (remove hs (before hs))
  first_left [] one = tt
  first_left (h ∷ hs) one = by_test (first_left hs one.1) (h.key == a) refl
    where
      by_test : NoneOf (remove hs (before hs)) → (b : Bool) → (h.key == a) ≡ b → NoneOf (remove (h ∷ hs) (before (h ∷ hs)))
      by_test later true is = rw is (one.0 is)
      by_test later false is = rw (is, one-add) ((λ key. (let no : true ≡ false = sym key ∙ is in absurd cc)), later)

  -- without the one there is none
  pub left_none : (hs : List Held) → OneOf hs → NoneOf (without a hs)
  left_none hs one = of_place (position (λ h. h.key == a) hs) refl
    where
      of_place : (o : Option ℕ) → position (λ h. h.key == a) hs ≡ o → NoneOf (without a hs)
      of_place None is =
          let none : find (λ h. h.key == a) hs ≡ None =
          sym (ap (option_and_then (slice_get hs)) (sym is) ∙ get_position (λ h. h.key == a) hs) in
          rw is (none_found hs none)
      of_place (Some at) is = rw is (subst (λ i. NoneOf (remove hs i)) (at_first _ (before hs) at is) (first_left hs one))

  left_one : (b : ℕ) (hs : List Held) → OneOf hs → OneOf (without b hs)
  left_one b hs one = of_place (position (λ h. h.key == b) hs) refl
    where
      of_place : (o : Option ℕ) → position (λ h. h.key == b) hs ≡ o → OneOf (without b hs)
      of_place None is = rw is one
      of_place (Some at) is = rw is (one_left at hs one)

  none_more : (h : Held) → (h.key == a) ≡ false → (hs : List Held) → NoneOf hs → NoneOf (hs ++ h ∷ [])
  none_more h other [] none = ((λ is. (let no : true ≡ false = sym is ∙ other in absurd cc)), tt)
  none_more h other (x ∷ hs) none = (none.0, none_more h other hs none.1)

  one_more : (h : Held) (hs : List Held) → ((h.key == a) ≡ true → NoneOf hs) → OneOf hs → OneOf (hs ++ h ∷ [])
  one_more h [] none one = ((λ is. tt), tt)
  one_more h (x ∷ hs) none one = by_test (λ n. one_more h hs n one.1) (h.key == a) refl
    where
      by_test : (((h.key == a) ≡ true → NoneOf hs) → OneOf (hs ++ h ∷ [])) → (b : Bool) → (h.key == a) ≡ b → OneOf (x ∷ (hs ++ h ∷ []))
      by_test later true is =
          let all : NoneOf (x ∷ hs) = none is in
          ((λ key. absurd (all.0 key)), later (λ k. all.1))
      by_test later false other =
          ((λ key. none_more h other hs (one.0 key)), later (λ k. (let no : true ≡ false = sym k ∙ other in absurd cc)))

  adds : (b : ℕ) (o : Option Canvas) (hs : List Held) → ((b == a) ≡ true → NoneOf hs) → OneOf hs → OneOf (adding b o hs)
  adds b None hs none one = one
  adds b (Some canvas) hs none one = one_more (record { key = b; canvas = canvas }) hs none one

  module _ (v : Served) (one : OneOf v.held) where
    -- who asks for a write buffer holds none
    free : (r : Request) (b : ℕ) → is_acquire r ≡ true → lacks_place b r v.held ≡ false → (b == a) ≡ true → NoneOf v.held
    free r b takes place key =
        let both : (true && (holds b v.held || nat_le MOST_STREAMS (length v.held))) ≡ false =
        ap (λ t. t && (holds b v.held || nat_le MOST_STREAMS (length v.held))) (sym takes) ∙ place in
        let none = or_parts (holds b v.held) (nat_le MOST_STREAMS (length v.held)) both in
        none_of v.held (ap (λ i. holds i v.held) (sym (eqb-true b a key)) ∙ none.0)

    without_one : (b : ℕ) → (b == a) ≡ true → NoneOf (without b v.held)
    without_one b key = subst (λ i. NoneOf (without i v.held)) (sym (eqb-true b a key)) (left_none v.held one)

    makes : (b : ℕ) (r : Request) (m : Bool) → lacks_place b r v.held ≡ false
        → OneOf (made b r v (step v.machine b (call_of r) m)).0.held
    makes b r m place = of_kind (is_acquire r) refl
      where
        of_kind : (t : Bool) → is_acquire r ≡ t → OneOf (made b r v (step v.machine b (call_of r) m)).0.held
        of_kind true takes = adds b (given_canvas (step v.machine b (call_of r) m).1.payload) v.held (free r b takes place) one
        of_kind false other = rw (gives_none v.machine b r m other) one

    goes : (b : ℕ) (o : Option Canvas) → OneOf (adding b o (without b v.held))
    goes b o = adds b o (without b v.held) (without_one b) (left_one b v.held one)

    keeps : (b : ℕ) (m : Bool) → Keeps (λ w. OneOf w.held) v b m
    keeps b m =
        record {
          here = one;
          makes = λ r none place. makes b r m place;
          posts = λ canvas is. goes b (given_canvas (step v.machine b (call.Post canvas) m).1.payload);
          discards = λ canvas is. goes b (given_canvas (step v.machine b (call.Discard canvas) m).1.payload);
          draws = λ paint canvas is. goes b (Some (record canvas { image = paint canvas.image }));
        }

    pub turn_one : (t : Turn) → OneOf (after_turn t v).held
    turn_one = turn_keeps (λ w. OneOf w.held) v keeps (λ c moves. one)

  pub always_one : (form : Form) (ports : Ports) (rs : List Turn) → OneOf (after_turns (opened form ports) rs).held
  always_one form ports rs = runs_keep (λ v. OneOf v.held) (λ t v one. turn_one v one t) rs (opened form ports) tt
