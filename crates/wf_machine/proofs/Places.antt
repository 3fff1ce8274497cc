-- A port whose image is taken, or comes back.
use Rattle.wf_machine.proofs.Common.{◌≡◌, ◌≢◌, ℕ, zero, suc, ◌+◌, ◌<◌, true, false, ◌==◌, List, [], ◌∷◌, length, map, get_or, Option, Some}
use Rattle.wf_machine.proofs.Common.{None, refl, sym, ap, subst, ◌∙◌, arith, slice_set, slice_get, IfSome, IsSomeAnd, eq-eqb, nat_tests}
use Rattle.wf_machine.proofs.Common.{Size}
use Rattle.wf_machine.proofs.Common.{Frame, PortFits, PortsFit, away_of, HoldsBut, sizes_of}
use Rattle.wf_calls.specs.declared.call.JobKind.TheVariants as kind
use Rattle.wf_machine.specs.declared.port.Port as declared

pub port_at : (frame : Option Frame) (k : ℕ) (ports : List declared.Port) (i : ℕ) (d : declared.Port) → i < length ports
    → PortsFit frame k ports → PortFits frame (k + i) (get_or ports i d)
port_at frame k [] i d within fit = absurd (omega (arith, within))
port_at frame k (p ∷ ports) zero d within fit = subst (λ n. PortFits frame n p) (omega arith) fit.0
port_at frame k (p ∷ ports) (suc i) d within fit =
    let same : k + 1 + i ≡ k + suc i = omega arith in
    subst (λ n. PortFits frame n (get_or ports i d)) same (port_at frame (k + 1) ports i d (omega (arith, within)) fit.1)

-- what holds of a port that was found at a place
pub fits_at : (frame : Option Frame) (ports : List declared.Port) (place : ℕ) (p : declared.Port) → place < length ports
    → p ≡ get_or ports place p → PortsFit frame 1 ports → PortFits frame (1 + place) p
fits_at frame ports place p within is fit = subst (λ q. PortFits frame (1 + place) q) (sym is)
    (port_at frame 1 ports place p within fit)

-- a port of which the same image is away in another frame
other_fits : (old new : Option Frame) (n : ℕ) (p : declared.Port) → away_of old n ≡ away_of new n → PortFits old n p → PortFits new n p
other_fits old new n p same fits =
    record {
      sides = fits.sides;
      images = subst (λ away. HoldsBut away p.modes.items p.images.items) same fits.images;
    }

all_others : (old new : Option Frame) (k : ℕ) (ports : List declared.Port) → ((n : ℕ) → k < n + 1 → away_of old n ≡ away_of new n)
    → PortsFit old k ports → PortsFit new k ports
all_others old new k [] same fit = tt
all_others old new k (p ∷ ports) same fit =
    (other_fits old new k p (same k (omega arith)) fit.0, all_others old new (k + 1) ports (λ n above. same n (omega (arith, above))) fit.1)

-- one port is changed, and of all others the same images are away
set_fit : (old new : Option Frame) (k : ℕ) (ports : List declared.Port) (i : ℕ) (p : declared.Port) → i < length ports
    → ((n : ℕ) → n ≢ k + i → away_of old n ≡ away_of new n) → PortsFit old k ports → PortFits new (k + i) p
    → PortsFit new k (slice_set ports i p)
set_fit old new k [] i p within same fit one = absurd (omega (arith, within))
set_fit old new k (q ∷ ports) zero p within same fit one = (
  subst (λ n. PortFits new n p) (omega arith) one,
  all_others old new (k + 1) ports (λ n above. same n (λ is. absurd (omega (arith, above, is)))) fit.1,
)
set_fit old new k (q ∷ ports) (suc i) p within same fit one =
    let behind : k + suc i ≡ k + 1 + i = omega arith in (
      other_fits old new k q (same k (λ is. absurd (omega (arith, is)))) fit.0,
      set_fit old new (k + 1) ports i p (omega (arith, within)) (λ n apart. same n (λ is. apart (is ∙ behind))) fit.1
          (subst (λ n. PortFits new n p) behind one),
    )

-- the modes stay
pub modes_stay : (ports : List declared.Port) (i : ℕ) (p d : declared.Port) → i < length ports → p.modes ≡ (get_or ports i d).modes
    → map sizes_of (slice_set ports i p) ≡ map sizes_of ports
modes_stay [] i p d within same = absurd (omega (arith, within))
modes_stay (q ∷ ports) zero p d within same = ap (λ m. m.items ∷ map sizes_of ports) same
modes_stay (q ∷ ports) (suc i) p d within same = ap (λ ps. sizes_of q ∷ ps)
    (modes_stay ports i p d (omega (arith, within)) same)

pub get_port : (ports : List declared.Port) (i : ℕ) (d : declared.Port) → i < length ports
    → slice_get (map sizes_of ports) i ≡ Some (sizes_of (get_or ports i d))
get_port [] i d within = absurd (omega (arith, within))
get_port (q ∷ ports) zero d within = refl
get_port (q ∷ ports) (suc i) d within = get_port ports i d (omega (arith, within))

-- of the ports those whose frame does not run have all images
away_apart : (frame : Frame) (place n : ℕ) → frame.kind ≡ kind.Port (place + 1) → n ≢ 1 + place → away_of (Some frame) n ≡ 0
away_apart frame place n is apart =
    ap (λ k. away_of (Some (record frame { kind = k })) n) is
    ∙ (let other : (place + 1 == n) ≡ false = grind (arith, nat_tests, apart) in rw other refl)

away_here : (frame : Frame) (place : ℕ) → frame.kind ≡ kind.Port (place + 1) → away_of (Some frame) (1 + place) ≡ frame.mode
away_here frame place is =
    ap (λ k. away_of (Some (record frame { kind = k })) (1 + place)) is
    ∙ (let same : (place + 1 == 1 + place) ≡ true = eq-eqb (place + 1) (1 + place) (omega arith) in rw same refl)

module _ (frame : Frame) (ports : List declared.Port) (place mode : ℕ) (within : place < length ports)
    (is : frame.kind ≡ kind.Port (place + 1)) (drawn : frame.mode ≡ mode) where
  pub when_taken : (p d : declared.Port) → PortsFit None 1 ports → p.modes ≡ (get_or ports place d).modes
      → HoldsBut mode p.modes.items p.images.items → PortsFit (Some frame) 1 (slice_set ports place p)
  when_taken p d fit modes images =
      let was = port_at None 1 ports place d within fit in
      let away : mode ≡ away_of (Some frame) (1 + place) = sym (away_here frame place is ∙ drawn) in
      set_fit None (Some frame) 1 ports place p within (λ n apart. sym (away_apart frame place n is apart)) fit (record {
        sides = rw modes was.sides;
        images = subst (λ m. HoldsBut m p.modes.items p.images.items) away images;
      })

  pub when_back : (p d : declared.Port) → PortsFit (Some frame) 1 ports → p.modes ≡ (get_or ports place d).modes
      → HoldsBut 0 p.modes.items p.images.items → PortsFit None 1 (slice_set ports place p)
  when_back p d fit modes images =
      let was = port_at (Some frame) 1 ports place d within fit in
      set_fit (Some frame) None 1 ports place p within (λ n apart. away_apart frame place n is apart) fit
      (record { sides = rw modes was.sides; images = images })

  pub away_at : (d : declared.Port) → PortsFit (Some frame) 1 ports
      → HoldsBut mode (get_or ports place d).modes.items (get_or ports place d).images.items
  away_at d fit =
      subst (λ m. HoldsBut m (get_or ports place d).modes.items (get_or ports place d).images.items) (away_here frame place is ∙ drawn)
      (port_at (Some frame) 1 ports place d within fit).images

-- what is told of the sizes of the port at a place is told of the port
module _ (P : List Size → Type 0) (ports : List declared.Port) (place : ℕ) (d : declared.Port) (within : place < length ports) where
  pub some_here : IsSomeAnd (slice_get (map sizes_of ports) place) P → P (get_or ports place d).modes.items
  some_here is = rw (get_port ports place d within) at is

  pub if_here : IfSome (slice_get (map sizes_of ports) place) P → P (get_or ports place d).modes.items
  if_here is = rw (get_port ports place d within) at is

  pub here : P (get_or ports place d).modes.items → IfSome (slice_get (map sizes_of ports) place) P
  here is = rw (get_port ports place d within) is
