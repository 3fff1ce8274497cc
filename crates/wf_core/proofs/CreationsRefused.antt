-- Creations that are refused: before anything is made, or for want of memory.
use Rattle.std.proofs.Common.{◌≡◌, ◌∙◌, ℕ, Bool, true, length, Result, Ok, Err, ap}
use Rattle.std.specs.Prelude.{nat_le}
use Rattle.wf_words.specs.Refusals.{◌>>=◌}
use Rattle.wf_stream.specs.Streams.{StoreView}
use Rattle.wf_scene.specs.declared.look.Seen.{Seen}
use Rattle.wf_calls.specs.Codes.{is_out_of_memory}
use Rattle.wf_calls.specs.declared.reply.Refusal.{Refusal}
use Rattle.wf_model.specs.Objects.{Context, CoreState}
use Rattle.wf_model.specs.Outcome.{Outcome}
use Rattle.wf_model.specs.Composition.{CoreSide}
use Rattle.wf_model.specs.Core.{contexts_full, device_new, room, sources_full}
use Rattle.wf_objects.specs.Does.{Does, context_made, element_made, link_made, refuses}
use Rattle.wf_objects.specs.Fits.{Fits}
use Rattle.wf_objects.specs.Sides.{core_side_of}
use Rattle.wf_core.specs.Steps.{Asks}
use Rattle.wf_scene.specs.declared.TheConstants.{MOST_ELEMENTS}
use Rattle.wf_model.specs.declared.TheConstants.{MOST_DEVICES}

-- what is refused is refused whatever was to follow
refused_first : {A B : Type 0} (o : Result A Refusal) (f : A → Result B Refusal) (r : Refusal) → o ≡ Err r → (o >>= f) ≡ Err r
refused_first o f r is = ap (λ x. x >>= f) is

module _ {A : Type 0} (plain : Bool → CoreSide → Outcome CoreSide) (made : A → Bool → CoreSide → Outcome CoreSide) (core : CoreState)
    (store : StoreView) (r : Refusal) (fits : Fits core store) where
  -- it is refused before anything is made
  pub refused_asking : Asks plain made (core_side_of core store) (Err r) → Does plain core core store store (Err r)
  refused_asking asks = refuses plain core store r fits (asks (is_out_of_memory r.code))

  pub denied_asking : Asks plain made (core_side_of core store) (Err r) → Does (λ _. plain true) core core store store (Err r)
  denied_asking asks = refuses (λ _. plain true) core store r fits (asks true)

  -- for want of memory
  pub denied_making : (x : A) → Asks plain made (core_side_of core store) (Ok x) → made x true (core_side_of core store) ≡ Err r
      → Does (λ _. plain true) core core store store (Err r)
  denied_making x asks is = refuses (λ _. plain true) core store r fits (asks true ∙ is)

-- what is made of what was found is refused for want of room

module _ (w : CoreSide) (r : Refusal) where
  pub no_device : room (nat_le MOST_DEVICES (length w.core.devices)) true w ≡ Err r → device_new true w ≡ Err r
  no_device is = refused_first _ _ r is

  pub no_context : (d port : ℕ) (target : Seen) → room (contexts_full w) true w ≡ Err r → context_made d port target true w ≡ Err r
  no_context d port target is = refused_first _ _ r is

  pub no_link : (mask : Bool) (context stream : ℕ) → room (sources_full w) true w ≡ Err r → link_made mask context stream true w ≡ Err r
  no_link mask context stream is = refused_first _ _ r is

  pub no_element : (handle : ℕ) (c : Context) → room (nat_le MOST_ELEMENTS (length c.cached.elements)) true w ≡ Err r
      → element_made handle true c w ≡ Err r
  no_element handle c is = refused_first _ _ r is
