-- The images that a frame takes are of streams that stand once each.
use Rattle.wf_machine.proofs.Common.{◌≡◌, ◌∙◌, ℕ, Bool, true, false, ◌==◌, ◌||◌, List, [], ◌∷◌, map, Option, Some, None, refl, sym, ap}
use Rattle.wf_machine.proofs.Common.{subst, is_in, NoneTwice, once_none_twice, Bitmap, KeptStream, stream_at, Call, Code, Reply, Register}
use Rattle.wf_machine.proofs.Common.{no_register, of_device, of_display, register_of, Effect, effect, Beginning, content_shape, job_of}
use Rattle.wf_machine.proofs.Common.{next_images}
use Rattle.wf_machine.proofs.Common.{next_image_of, scene_streams, layer_names, offered, Running, State, act, step}
use Rattle.std.proofs.Common.{flat_map}
use Rattle.wf_machine.specs.Begun.{TakesOnce}
use Rattle.wf_model.specs.Effects.{acquires, begins, composes, displays, ends, makes, refuses, returns, tells, unnames}
use Rattle.wf_model.specs.Frames.{running_of}

-- the numbers of the images that streams of these numbers have
abbrev taken : List ℕ → List KeptStream → List ℕ
taken ns ss = map (λ c. c.stream) (map content_shape (next_images ns ss))

-- a number that is not among them has none
not_taken : (n : ℕ) (ns : List ℕ) (ss : List KeptStream) → is_in n ns ≡ false → is_in n (taken ns ss) ≡ false
not_taken n [] ss out = refl
not_taken n (m ∷ ns) ss out = of_image (not_taken n ns ss both.1) (next_image_of (stream_at m ss)) refl
  where
    apart : (b c : Bool) → (b || c) ≡ false → (b ≡ false) × (c ≡ false)
    apart false c is = (refl, is)
    apart true c is = absurd cc

    both : ((m == n) ≡ false) × (is_in n ns ≡ false)
    both = apart (m == n) (is_in n ns) out

    of_image : is_in n (taken ns ss) ≡ false → (o : Option Bitmap) → next_image_of (stream_at m ss) ≡ o
        → is_in n (taken (m ∷ ns) ss) ≡ false
    of_image rest None is = rw is rest
    of_image rest (Some image) is = rw (is, both.0) rest

taken_once : (ns : List ℕ) (ss : List KeptStream) → NoneTwice ns → NoneTwice (taken ns ss)
taken_once [] ss none = tt
taken_once (n ∷ ns) ss none = of_image (taken_once ns ss none.1) (next_image_of (stream_at n ss)) refl
  where
    of_image : NoneTwice (taken ns ss) → (o : Option Bitmap) → next_image_of (stream_at n ss) ≡ o → NoneTwice (taken (n ∷ ns) ss)
    of_image rest None is = rw is rest
    of_image rest (Some image) is = rw is (not_taken n ns ss none.0, rest)

-- a frame that begins
begun_once : (b : Beginning) (h : State) → TakesOnce (running_of (job_of b h))
begun_once b h = taken_once (scene_streams b.scene) h.streams (once_none_twice (flat_map layer_names b.scene.layers.items))

-- what a call leaves running that was not running before it
module _ (h : State) (c : Call) (x : State × Reply) (free : h.frame ≡ None) (f : Running) (runs : x.0.frame ≡ Some f) where
  offered_frame : (register : Register) (refused : Code) → (offered register refused h).frame ≡ h.frame
  offered_frame (of_device d) refused = refl
  offered_frame of_display refused = refl
  offered_frame no_register refused = refl

  not_so : x.0.frame ≡ h.frame → TakesOnce f
  not_so same = absurd (let no : None ≡ Some f = sym free ∙ sym same ∙ runs in cc)

  by_effect : Effect h c x → TakesOnce f
  by_effect (refuses honest left) = not_so (ap (λ s. s.frame) left ∙ offered_frame (register_of c) x.1.code)
  by_effect (composes m w value does is) = not_so (ap (λ y. y.0.frame) is)
  by_effect (displays m w value does is) = not_so (ap (λ y. y.0.frame) is)
  by_effect (makes new is) = not_so (ap (λ y. y.0.frame) is)
  by_effect (unnames handle is) = not_so (ap (λ y. y.0.frame) is)
  by_effect (acquires handle s at is) = not_so (ap (λ y. y.0.frame) is)
  by_effect (returns canvas g way out is) = not_so (ap (λ y. y.0.frame) is)
  by_effect (begins b free' begun is) =
      let same : Some (running_of (job_of b h)) ≡ Some f = sym (ap (λ y. y.0.frame) is) ∙ runs in
      let this : running_of (job_of b h) ≡ f = cc in
      subst TakesOnce this (begun_once b h)
  by_effect (ends job g call_is at own is) = absurd (let no : None ≡ Some g = sym free ∙ at in cc)
  by_effect (tells value is) = not_so (ap (λ y. y.0.frame) is)

pub takes_once : (h : State) (client : ℕ) (c : Call) (m : Bool) (f : Running) → h.frame ≡ None → (step h client c m).0.frame ≡ Some f
    → TakesOnce f
unfolding step
takes_once h client c m f free runs = by_effect h c (act h c m) free f runs (effect h c m)
