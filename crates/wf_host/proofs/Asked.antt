-- Requests that take nothing.
use Rattle.std.proofs.Common.{◌≡◌, ℕ, Bool, true, false, ◌&&◌, ◌||◌, nat_le, length, refl, sym, ap₂, subst}
use Rattle.wf_calls.specs.declared.reply.Answer.{Answer}
use Rattle.wf_calls.specs.declared.request.Request.{Request}
use Rattle.wf_calls.specs.declared.request.Request.TheVariants as request
use Rattle.wf_calls.specs.Parts.{carries, is_begin, part_of}
use Rattle.wf_calls.specs.Replies.{bare}
use Rattle.wf_calls.specs.Requests.{call_of}
use Rattle.wf_machine.specs.Object.{MayAnswer, after}
use Rattle.wf_stream.specs.declared.TheConstants.{MOST_STREAMS}
use Rattle.wf_wire.specs.Asked.{is_acquire}
use Rattle.wf_host.specs.Made.{Asks, Hosted, IsMade, UnlessLacking, acquired, lacks_place, told_of}

-- what takes something begins a frame or is for a write buffer
pub takes_nothing : (x : Request) → carries (part_of (call_of x)) ≡ true → is_begin (call_of x) ≡ false → is_acquire x ≡ false → ⊥
takes_nothing (request.Acquire s) takes begins acquires = absurd cc
takes_nothing (request.BeginNext after) takes begins acquires = absurd cc
takes_nothing (request.BeginPort port) takes begins acquires = absurd cc
takes_nothing (request.BeginContext device context) takes begins acquires = absurd cc
takes_nothing _ takes begins acquires = absurd cc

module _ (client : ℕ) (r : Request) (old new : Hosted) (answer : Answer) (begins : is_begin (call_of r) ≡ false)
    (acquires : is_acquire r ≡ false) (machine : new.machine ≡ after old.machine client (call_of r) (bare answer))
    (may : MayAnswer old.machine client (call_of r) (bare answer)) (canvases : new.canvases ≡ old.canvases) where
  -- it is made, and nothing is held for it
  pub plain_made : Asks client r old new (told_of (bare answer))
  plain_made =
      let lacks : lacks_place r old.canvases ≡ false =
      ap₂ (λ a b. a || (b && nat_le MOST_STREAMS (length old.canvases))) begins acquires in
      subst (λ (b : Bool). UnlessLacking b old new (told_of (bare answer))
      (IsMade client (call_of r) (acquired r) old.canvases old new (told_of (bare answer)))) (sym lacks) (record {
        reply = bare answer;
        machine = machine;
        may = may;
        canvases = canvases;
        told = refl;
      })
