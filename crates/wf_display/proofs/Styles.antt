-- What is set keeps what holds of ports and of pipelines.
use Rattle.std.proofs.Common.{◌≡◌, ◌≤◌, ℕ, zero, suc, Bool, true, false, cond, not, ◌&&◌, List, length, Option, Some, None, Ok, refl}
use Rattle.std.proofs.Common.{subst, arith}
use Rattle.std.specs.Prelude.{ℤ, pos, negsuc, nat_le, option_map}
use Rattle.std.proofs.lemmas.Bool.{and_parts, leb-true}
use Rattle.std.proofs.lemmas.Bool.Decides.{nat_tests}
use Rattle.wf_words.specs.Refusals.{◌>>=◌}
use Rattle.wf_pixel.specs.Choice.{is_between}
use Rattle.wf_pixel.specs.declared.Size.{Size}
use Rattle.wf_pixel.specs.declared.Transparency.{Transparency}
use Rattle.wf_scene.specs.declared.style.Style.{Style}
use Rattle.wf_scene.specs.Values.{channel_of, component, filter_of, flag_of, kinds, rect_of, turn_of}
use Rattle.wf_calls.specs.declared.code.Code.{Code}
use Rattle.wf_calls.specs.declared.code.Code.TheVariants as code
use Rattle.wf_calls.specs.declared.display.PipeAttr.{PipeAttr}
use Rattle.wf_calls.specs.declared.display.PipeAttr.TheVariants as pipe_attr
use Rattle.wf_calls.specs.declared.display.PortAttr.{PortAttr}
use Rattle.wf_calls.specs.declared.display.PortAttr.TheVariants as port_attr
use Rattle.wf_model.specs.declared.display.Port.{Port}
use Rattle.wf_model.specs.declared.display.PortStyle.{PortStyle}
use Rattle.wf_model.specs.Outcome.{found, refuse}
use Rattle.wf_model.specs.Pipelines.{pipeline_styled, unmasked_of, with_transparency}
use Rattle.wf_model.specs.Ports.{mode_of, opaque_of, port_styled, with_mode, with_style}
use Rattle.wf_display.specs.Display.{IsPort, IsStyle}
use Rattle.wf_display.proofs.Rects.{rect_placed}

-- what holds of whatever a value that is there makes holds of what is made
from_found : {A S : Type 0} (P : S → Type 0) (c : Code) (o : Option A) (f : A → S) (t : S) → ((x : A) → o ≡ Some x → P (f x))
    → found c (option_map f o) ≡ Ok t → P t
from_found P c None f t holds is = absurd cc
from_found P c (Some x) f t holds is = let same : f x ≡ t = cc in subst P same (holds x refl)

-- ports

-- a mode of a port is one of its modes
mode_within : (z : ℤ) (modes : List Size) (m : ℕ) → mode_of z modes ≡ Some m → (1 ≤ m) × (m ≤ length modes)
mode_within (negsuc n) modes m is = absurd cc
mode_within (pos n) modes m is = of_test (nat_le 1 n && nat_le n (length modes)) refl is
  where
    of_test : (b : Bool) → (nat_le 1 n && nat_le n (length modes)) ≡ b → cond b (Some n) None ≡ Some m → (1 ≤ m) × (m ≤ length modes)
    of_test false within same = absurd cc
    of_test true within same =
        let here : n ≡ m = cc in
        let both = and_parts (nat_le 1 n) (nat_le n (length modes)) within in
        (subst (λ k. 1 ≤ k) here (leb-true 1 n both.0), subst (λ k. k ≤ length modes) here (leb-true n (length modes) both.1))

pub port_sound : (a : PortAttr) (v : List ℤ) (p : Port) (s : PortStyle) → IsPort p → port_styled a v p ≡ Ok s → IsPort (with_style s p)
port_sound port_attr.Mode v p s is styled =
    from_found (λ t. IsPort (with_style t p)) code.IllegalArgument (mode_of (component v 0) p.modes.items) (with_mode p.cached) s
    (λ m at. record { sides = is.sides; cached = mode_within (component v 0) p.modes.items m at; committed = is.committed }) styled
port_sound port_attr.Background v p s is styled =
    from_found (λ t. IsPort (with_style t p)) code.IllegalArgument (opaque_of v) (λ c. record p.cached { background = c }) s
    (λ c at. record { sides = is.sides; cached = is.cached; committed = is.committed }) styled
port_sound port_attr.Power v p s is styled =
    from_found (λ t. IsPort (with_style t p)) code.IllegalArgument (flag_of (component v 0)) (λ on. record p.cached { power = on }) s
    (λ on at. record { sides = is.sides; cached = is.cached; committed = is.committed }) styled
port_sound port_attr.Width v p s is styled = absurd cc
port_sound port_attr.Height v p s is styled = absurd cc
port_sound port_attr.Attached v p s is styled = absurd cc

-- pipelines

unmasked_is : (z : ℤ) (t : Transparency) → unmasked_of z ≡ Some t → t.mask ≡ false
unmasked_is (negsuc n) t is = absurd cc
unmasked_is (pos zero) t is = let same : kinds false false false ≡ t = cc in subst (λ x. x.mask ≡ false) same refl
unmasked_is (pos (suc zero)) t is = let same : kinds true false false ≡ t = cc in subst (λ x. x.mask ≡ false) same refl
unmasked_is (pos (suc (suc zero))) t is = let same : kinds false true false ≡ t = cc in subst (λ x. x.mask ≡ false) same refl
unmasked_is (pos (suc (suc (suc zero)))) t is = let same : kinds true true false ≡ t = cc in subst (λ x. x.mask ≡ false) same refl
unmasked_is (pos (suc (suc (suc (suc n))))) t is =
    let over : is_between (pos 0) (pos 3) (pos (suc (suc (suc (suc n))))) ≡ false = grind (arith, nat_tests) in
    absurd (let no : None ≡ Some t = rw over at is in cc)

pub style_sound : (a : PipeAttr) (v : List ℤ) (s t : Style) → IsStyle s → pipeline_styled a v s ≡ Ok t → IsStyle t
style_sound pipe_attr.Dest v s t is styled =
    from_found IsStyle code.IllegalArgument (rect_of v) (λ r. record s { dest = r }) t
    (λ r at. record { placed = rect_placed v r at; unmasked = is.unmasked }) styled
style_sound pipe_attr.SrcRect v s t is styled =
    from_found IsStyle code.IllegalArgument (rect_of v) (λ r. record s { src = r }) t
    (λ r at. record { placed = is.placed; unmasked = is.unmasked }) styled
style_sound pipe_attr.Flip v s t is styled =
    from_found IsStyle code.IllegalArgument (flag_of (component v 0)) (λ f. record s { flip = f }) t
    (λ f at. record { placed = is.placed; unmasked = is.unmasked }) styled
style_sound pipe_attr.Rotation v s t is styled =
    from_found IsStyle code.IllegalArgument (turn_of (component v 0)) (λ r. record s { turn = r }) t
    (λ r at. record { placed = is.placed; unmasked = is.unmasked }) styled
style_sound pipe_attr.Filter v s t is styled =
    from_found IsStyle code.IllegalArgument (filter_of (component v 0)) (λ f. record s { filter = f }) t
    (λ f at. record { placed = is.placed; unmasked = is.unmasked }) styled
style_sound pipe_attr.Alpha v s t is styled =
    from_found IsStyle code.IllegalArgument (channel_of (component v 0)) (λ n. record s { alpha = n }) t
    (λ n at. record { placed = is.placed; unmasked = is.unmasked }) styled
style_sound pipe_attr.Transparency v s t is styled = of_range (not (is_between (pos 0) (pos 7) (component v 0))) styled
  where
    of_range : (b : Bool) → (refuse code.IllegalArgument b
        >>= (λ _. found code.NotSupported (option_map (with_transparency s) (unmasked_of (component v 0))))) ≡ Ok t → IsStyle t
    of_range true refused = absurd cc
    of_range false set =
        from_found IsStyle code.NotSupported (unmasked_of (component v 0)) (with_transparency s) t
        (λ x at. record { placed = is.placed; unmasked = unmasked_is (component v 0) x at }) set
style_sound pipe_attr.Port v s t is styled = absurd cc
style_sound pipe_attr.Pending v s t is styled = absurd cc
style_sound pipe_attr.Showing v s t is styled = absurd cc
