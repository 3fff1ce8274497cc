-- A stream that an app does not own stays as it was.
use Rattle.std.proofs.Common.{◌≡◌, ◌∙◌, ℕ, Bool, true, false, ◌==◌, Option, Some, None, refl, sym, ap, subst}
use Rattle.std.proofs.lemmas.Bool.{both_ways, ne_eqb}
use Rattle.wf_stream.specs.Streams.{KeptStream, has_number, stream_at, stream_of}
use Rattle.wf_calls.specs.Requests.{call_of}
use Rattle.wf_calls.specs.declared.request.Request.{Request}
use Rattle.wf_calls.specs.declared.request.Request.TheVariants as request
use Rattle.wf_calls.specs.declared.call.Call.TheVariants as call
use Rattle.wf_image.specs.declared.canvas.Canvas.{Canvas}
use Rattle.wf_host.specs.Held.{canvas_of}
use Rattle.wf_guard.specs.Apps.{is_found, names_stream}
use Rattle.wf_guard.specs.Policy.{owns, refusal_of}
use Rattle.wf_guard.specs.Requests.{is_for_apps}
use Rattle.wf_guard.specs.Serving.{Asked, Served, served}
use Rattle.wf_guard.proofs.ForApps.{acquires_own, destroys_own, kinds_let_through, let_through}
use Rattle.wf_guard.proofs.Numbered.{AreApart, found_handle}
use Rattle.wf_guard.proofs.OwnCanvases.{HoldsOwn, own_stream}
use Rattle.wf_guard.proofs.Rest.{leaves_rest}
use Rattle.wf_guard.proofs.Turns.{Keeps, asked_keeps}

module _ (v : Served) (a : ℕ) (app : (a == 0) ≡ false) (n : ℕ) (s : KeptStream) (found : stream_at n v.machine.streams ≡ Some s)
    (apart : AreApart v.machine.streams) (foreign : owns a s.handle v.owned ≡ false) where
  -- what an app may name is its own, so it is another stream
  own_is_other : (handle : ℕ) → owns a handle v.owned ≡ true → (s.handle == handle) ≡ false
  own_is_other handle own =
      ne_eqb s.handle handle (λ same. both_ways _ foreign (ap (λ k. owns a k v.owned) same ∙ own))

  own_is_elsewhere : (handle : ℕ) → owns a handle v.owned ≡ true → (o : Option KeptStream) → stream_of handle v.machine.streams ≡ o
      → is_found s o ≡ false
  own_is_elsewhere handle own None is = refl
  own_is_elsewhere handle own (Some t) is = ne_eqb s.number t.number of_one
    where
      of_one : s.number ≡ t.number → ⊥
      of_one same =
          let at : stream_at t.number v.machine.streams ≡ Some s =
          subst (λ k. stream_at k v.machine.streams ≡ Some s) (sym (has_number n v.machine.streams s found) ∙ same) found in
          let one : Some s ≡ Some t = sym at ∙ apart handle t is in
          let equal : s ≡ t = cc in
          let here : s.handle ≡ handle = ap (λ (x : KeptStream). x.handle) equal ∙ found_handle handle v.machine.streams t is in
          both_ways _ foreign (ap (λ k. owns a k v.owned) here ∙ own)

  -- a request that is let through names another stream
  names_another : (r : Request) → refusal_of a r v.owned ≡ None → is_for_apps r ≡ true → names_stream (call_of r) v.machine s ≡ false
  names_another (request.StreamNew width height format buffers) none may = refl
  names_another (request.StreamQueue width height format depth) none may = refl
  names_another (request.StreamDestroy stream) none may = own_is_other stream (destroys_own a app v.owned stream none)
  names_another (request.Acquire stream) none may =
      own_is_elsewhere stream (acquires_own a app v.owned stream none) (stream_of stream v.machine.streams) refl
  names_another _ none may = absurd cc

  module _ (live : (s.handle == 0) ≡ false) (own : HoldsOwn a v) (m : Bool) where
    abbrev Stays : Served → Type 0
    Stays w = stream_at n w.machine.streams ≡ Some s

    -- what the app holds is of another stream
    holds_another : (canvas : Canvas) → canvas_of a v.held ≡ Some canvas → (s.number == canvas.stream) ≡ false
    holds_another canvas holds = ne_eqb s.number canvas.stream of_one
      where
        of_one : s.number ≡ canvas.stream → ⊥
        of_one same =
            let at : stream_at canvas.stream v.machine.streams ≡ Some s =
            subst (λ k. stream_at k v.machine.streams ≡ Some s) (sym (has_number n v.machine.streams s found) ∙ same) found in
            both_ways _ foreign (own_stream a v own canvas s holds at live)

    keeps : Keeps Stays v a m
    keeps =
        record {
          here = found;
          makes = λ r none place.
              (leaves_rest v.machine a (call_of r) m (kinds_let_through a app v.owned r none)).streams n s found live
              (names_another r none (let_through a app v.owned r none));
          posts = λ canvas holds. (leaves_rest v.machine a (call.Post canvas) m refl).streams n s found live (holds_another canvas holds);
          discards = λ canvas holds.
              (leaves_rest v.machine a (call.Discard canvas) m refl).streams n s found live (holds_another canvas holds);
          draws = λ paint canvas holds. found;
        }

    pub stays_as_it_was : (x : Asked) → Stays (served a x m v).0
    stays_as_it_was = asked_keeps Stays v a m keeps
