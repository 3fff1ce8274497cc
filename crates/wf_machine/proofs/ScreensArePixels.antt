-- The screens of ports are streams of pixels.
use Rattle.wf_machine.proofs.Common.{◌≡◌, ℕ, zero, suc, ◌+◌, false, List, [], ◌∷◌, Option, Some, None, refl, subst, ap, arith, slice_get}
use Rattle.wf_machine.proofs.Common.{IfSome}
use Rattle.wf_machine.proofs.Common.{IsSomeAnd, nth, count_of, is_a8, Buffers, KeptStream, buffers_at, IsOfPixels, DisplayState, State}
use Rattle.wf_machine.proofs.Common.{Call}
use Rattle.wf_machine.proofs.Common.{screen_of, Inside, Holds, state_of}
use Rattle.std.proofs.Common.{ℤ}
use Rattle.wf_calls.specs.declared.call.Call.TheVariants as call
use Rattle.wf_model.specs.declared.display.Port.{Port}
use Rattle.wf_model.specs.DisplaySides.{screen_at}
use Rattle.wf_model.specs.Composing.{declared_screen}
use Rattle.wf_display.specs.Fits.{IsScreen, ScreensFit}

-- the stream of a port's number is its screen
pub screen_there : (ss : List KeptStream) (n : ℕ) (ports : List Port) (p : Port) → ScreensFit ss 1 ports → nth n ports ≡ Some p
    → IsSomeAnd (buffers_at n ss) (λ b. IsScreen b p)
screen_there ss zero ports p fit at = absurd cc
screen_there ss (suc n) ports p fit at =
    let next : 1 + n ≡ suc n = omega arith in
    subst (λ k. IsSomeAnd (buffers_at k ss) (λ b. IsScreen b p)) next (at_place 1 n ports fit at)
  where
    at_place : (k i : ℕ) (ps : List Port) → ScreensFit ss k ps → slice_get ps i ≡ Some p
        → IsSomeAnd (buffers_at (k + i) ss) (λ b. IsScreen b p)
    at_place k i [] fit at = absurd cc
    at_place k zero (q ∷ ps) fit at =
        let is : q ≡ p = cc in
        let here : k ≡ k + 0 = omega arith in
        subst (λ j. IsSomeAnd (buffers_at j ss) (λ b. IsScreen b p)) here
        (subst (λ r. IsSomeAnd (buffers_at k ss) (λ b. IsScreen b r)) is fit.0)
    at_place k (suc i) (q ∷ ps) fit at =
        let later : k + 1 + i ≡ k + suc i = omega arith in
        subst (λ j. IsSomeAnd (buffers_at j ss) (λ b. IsScreen b p)) later (at_place (k + 1) i ps fit.1 at)

declared_pixels : (ss : List KeptStream) (n : ℕ) (d : DisplayState) → ScreensFit ss 1 d.ports → IfSome (screen_at n d) (IsOfPixels ss)
declared_pixels ss n d fit = of_port (nth n d.ports) refl
  where
    pixels : (p : Port) (o : Option Buffers) → IsSomeAnd o (λ b. IsScreen b p) → IfSome o (λ b. is_a8 b.format ≡ false)
    pixels p None is = tt
    pixels p (Some b) is = ap is_a8 is.1

    of_port : (o : Option Port) → nth n d.ports ≡ o → IfSome (screen_at n d) (IsOfPixels ss)
    of_port None none = rw none tt
    of_port (Some p) some = rw some (pixels p (buffers_at n ss) (screen_there ss n d.ports p fit some))

pub screen_pixels : (m : Inside) (s : State) → state_of m ≡ s → Holds m → (port : ℤ)
    → IfSome (declared_screen port s) (IsOfPixels m.store.streams)
screen_pixels m s seen sound port = subst (λ t. IfSome (declared_screen port t) (IsOfPixels m.store.streams)) seen
    (declared_pixels m.store.streams (count_of port) m.display sound.shows.streams.screens)

-- the screen that a call asks for is one of pixels
pub asked_pixels : (m : Inside) (s : State) → state_of m ≡ s → Holds m → (c : Call) → IfSome (screen_of c s) (IsOfPixels m.store.streams)
asked_pixels m s seen sound (call.ScreenContext d port) = screen_pixels m s seen sound port
asked_pixels m s seen sound _ = tt
