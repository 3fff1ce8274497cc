-- The canvas that is taken out.
use Rattle.std.proofs.Common.{◌≡◌, ◌∙◌, ℕ, ◌<◌, ◌==◌, List, length, Option, Some, None, find, option_map, option_and_then}
use Rattle.std.proofs.Common.{refl, sym, ap, subst, slice_get, slice_index_or}
use Rattle.std.proofs.lemmas.Option.{slice_get_read}
use Rattle.std.specs.List.{position}
use Rattle.wf_words.specs.Found.{get_position}
use Rattle.wf_host.specs.declared.canvases.Held.{Held}
use Rattle.wf_host.specs.Held.{canvas_of}

module _ (key : ℕ) (held : List Held) where
  found_at : (o : Option ℕ) → o ≡ position (λ h. h.key == key) held
      → option_and_then (slice_get held) o ≡ find (λ h. h.key == key) held
  found_at o is =
      subst (λ (x : Option ℕ). option_and_then (slice_get held) x ≡ find (λ h. h.key == key) held) (sym is)
      (get_position (λ h. h.key == key) held)

  pub taken : (at : ℕ) (h : Held) → Some at ≡ position (λ x. x.key == key) held → at < length held
      → h ≡ slice_index_or held at h → Some h.canvas ≡ canvas_of key held
  taken at h is within here =
      ap (option_map (λ x. x.canvas)) (sym (slice_get_read held (length held) at h refl within here) ∙ found_at (Some at) is)

  pub none_taken : None ≡ position (λ x. x.key == key) held → None ≡ canvas_of key held
  none_taken is = ap (option_map (λ (x : Held). x.canvas)) (found_at None is)
