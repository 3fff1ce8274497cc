-- Values that pass the tests of equality are equal.
use Rattle.std.proofs.Common.{◌≡◌, true, refl, ap, ◌∙◌}
use Rattle.std.proofs.lemmas.Bool.{and_parts, eqb-true}
use Rattle.wf_pixel.specs.declared.Format.{Format}
use Rattle.wf_pixel.specs.declared.Format.TheVariants.{Rgba8, Rgba8Pre, Rgbx8, A8}
use Rattle.wf_pixel.specs.declared.Size.{Size}
use Rattle.wf_pixel.specs.Choice.{same_format, same_size}

pub size_is : (s t : Size) → same_size s t ≡ true → s ≡ t
size_is s t same =
    let parts = and_parts _ _ same in
    ap (λ w. record { w = w; h = s.h }) (eqb-true s.w t.w parts.0)
    ∙ ap (λ h. record { w = t.w; h = h }) (eqb-true s.h t.h parts.1)

pub format_is : (f g : Format) → same_format f g ≡ true → f ≡ g
format_is Rgba8 Rgba8 same = refl
format_is Rgba8Pre Rgba8Pre same = refl
format_is Rgbx8 Rgbx8 same = refl
format_is A8 A8 same = refl
format_is Rgba8 Rgba8Pre same = absurd cc
format_is Rgba8 Rgbx8 same = absurd cc
format_is Rgba8 A8 same = absurd cc
format_is Rgba8Pre Rgba8 same = absurd cc
format_is Rgba8Pre Rgbx8 same = absurd cc
format_is Rgba8Pre A8 same = absurd cc
format_is Rgbx8 Rgba8 same = absurd cc
format_is Rgbx8 Rgba8Pre same = absurd cc
format_is Rgbx8 A8 same = absurd cc
format_is A8 Rgba8 same = absurd cc
format_is A8 Rgba8Pre same = absurd cc
format_is A8 Rgbx8 same = absurd cc
