-- The running frame's image stays that of its port or of its target.
use Rattle.wf_machine.proofs.Common.{◌≡◌, ℕ, true, false, cond, ◌==◌, List, [], map, Option, Some, None, refl, sym, ap, ◌∙◌, IfSome}
use Rattle.wf_machine.proofs.Common.{option_map}
use Rattle.wf_machine.proofs.Common.{eqb-true, is_in, Size, Format, image_of, Buffers, acquired, KeptStream, buffers_at, change_stream}
use Rattle.wf_machine.proofs.Common.{stream_at, unnamed, has_number, JobKind, home_if, is_target, target_names, Images, Frame}
use Rattle.wf_machine.proofs.Common.{running_of, FrameFits, IsOfTarget, KindFits}
use Rattle.wf_calls.specs.declared.call.JobKind.TheVariants as kind
use Rattle.wf_machine.proofs.StreamsLatched.{KeepsShape}
use Rattle.wf_machine.proofs.StreamsMapped.{KeepsStream, buffers_mapped, changed_at, changed_keeps, home_among, home_keeps, unnamed_keeps}
use Rattle.wf_model.specs.Named.{in_first}

module _ (g : KeptStream → KeptStream) (keeps : KeepsStream g) where
  -- a write buffer that is out stays out, of the stream of a number
  abbrev pub StaysOut : ℕ → Type 0
  StaysOut n = (s : KeptStream) → s.number ≡ n → s.buffers.out ≡ true → (g s).buffers.out ≡ true

  target_kept : (n : ℕ) (ss : List KeptStream) (size : Size) (format : Format) → StaysOut n → IsOfTarget (buffers_at n ss) size format
      → IsOfTarget (buffers_at n (map g ss)) size format
  target_kept n ss size format out is = of_stream (stream_at n ss) refl
    where
      of_stream : (o : Option KeptStream) → stream_at n ss ≡ o → IsOfTarget (buffers_at n (map g ss)) size format
      of_stream None at = absurd (rw at at is)
      of_stream (Some s) at =
          let was : (s.buffers.out ≡ true) × (size ≡ s.buffers.size) × (format ≡ s.buffers.format) = rw at at is in
          rw (buffers_mapped g keeps n ss, at) (
            out s (has_number n ss s at) was.0,
            was.1 ∙ sym (keeps.size s),
            was.2
                ∙ sym (keeps.format s),
          )

  kind_kept : (modes : List (List Size)) (mode : ℕ) (ss : List KeptStream) (size : Size) (format : Format) (k : JobKind)
      → ((n : ℕ) → is_in n (target_names k) ≡ true → StaysOut n) → KindFits modes mode ss size format k
      → KindFits modes mode (map g ss) size format k
  kind_kept modes mode ss size format (kind.Context handle target) out fits =
      target_kept target ss size format (out target (in_first target [])) fits
  kind_kept modes mode ss size format (kind.Port port) out fits = fits

  pub frame_kept : (modes : List (List Size)) (ss : List KeptStream) (o : Option Frame)
      → ((n : ℕ) → is_target n (option_map running_of o) ≡ true → StaysOut n)
      → IfSome o (FrameFits modes ss) → IfSome o (FrameFits modes (map g ss))
  frame_kept modes ss None out fits = tt
  frame_kept modes ss (Some f) out fits = kind_kept modes f.mode ss f.size f.format f.kind out fits

-- one more write buffer is out
pub frame_acquired : (n : ℕ) (modes : List (List Size)) (ss : List KeptStream) (o : Option Frame) → KeepsShape acquired
    → IfSome o (FrameFits modes ss) → IfSome o (FrameFits modes (change_stream n acquired ss))
frame_acquired n modes ss o keeps fits =
    frame_kept (changed_at n acquired) (changed_keeps n acquired keeps) modes ss o
    (λ k is s at out. elim (s.number == n) as (λ b. (cond b (record s { buffers = acquired s.buffers }) s).buffers.out
    ≡ true) [ true ↦ refl | false ↦ out ]) fits

-- the buffers of another stream change
pub frame_apart : (n : ℕ) (f : Buffers → Buffers) (modes : List (List Size)) (ss : List KeptStream) (o : Option Frame) → KeepsShape f
    → is_target n (option_map running_of o) ≡ false → IfSome o (FrameFits modes ss) → IfSome o (FrameFits modes (change_stream n f ss))
frame_apart n f modes ss o keeps apart fits =
    frame_kept (changed_at n f) (changed_keeps n f keeps) modes ss o
    (λ k is s at out. elim (s.number == n) as (λ b. (s.number == n) ≡ b
    → (cond b (record s { buffers = f s.buffers }) s).buffers.out ≡ true) [
      | true ↦ λ here. absurd (let same : k ≡ n = sym at ∙ eqb-true s.number n here in
          let no : true ≡ false = sym is ∙ ap (λ j. is_target j (option_map running_of o)) same ∙ apart in cc)
      | false ↦ λ other. out
    ] refl) fits

-- images come home
pub frame_home : (xs : Images) (modes : List (List Size)) (ss : List KeptStream) (o : Option Frame) → IfSome o (FrameFits modes ss)
    → IfSome o (FrameFits modes (map (home_among xs) ss))
frame_home xs modes ss o fits =
    frame_kept (home_among xs) (home_keeps xs) modes ss o
    (λ k is s at out. elim (image_of s.number xs) as (λ i. (home_if i s).buffers.out
    ≡ true) [ None ↦ out | Some image ↦ out ]) fits

-- a handle is dead
pub frame_unnamed : (handle : ℕ) (modes : List (List Size)) (ss : List KeptStream) (o : Option Frame) → IfSome o (FrameFits modes ss)
    → IfSome o (FrameFits modes (map (unnamed handle) ss))
frame_unnamed handle modes ss o fits =
    frame_kept (unnamed handle) (unnamed_keeps handle) modes ss o
    (λ k is s at out. elim (s.handle == handle) as (λ b. (cond b (record s { handle = 0 }) s).buffers.out
    ≡ true) [ true ↦ out | false ↦ out ]) fits
