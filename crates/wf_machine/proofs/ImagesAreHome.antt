-- Images that come home one after another.
use Rattle.wf_machine.proofs.Common.{◌≡◌, ℕ, Bool, true, false, cond, ◌==◌, List, [], ◌∷◌, ◌++◌, Option, Some, None, refl, sym, ap, subst}
use Rattle.wf_machine.proofs.Common.{◌∙◌, append_assoc, arith, find, option_map, IfSome, eq-eqb, nat_tests, Bitmap, image_of, Buffers}
use Rattle.wf_machine.proofs.Common.{HasShape, away, returned, KeptStream, buffers_at, change_stream, stream_at, brought_home, home_if}
use Rattle.wf_machine.proofs.Common.{Images, AreAwaited, Awaits, by_number}
use Rattle.wf_machine.proofs.StreamsLatched.{both_same}

pub number_home : (o : Option Bitmap) (s : KeptStream) → (home_if o s).number ≡ s.number
number_home None s = refl
number_home (Some image) s = refl

-- a stream of which no image comes home is as it was
buffers_home : (n : ℕ) (contents : Images) (streams : List KeptStream) → image_of n contents ≡ None
    → buffers_at n (brought_home contents streams) ≡ buffers_at n streams
buffers_home n contents [] none = refl
buffers_home n contents (s ∷ streams) none =
    let t = home_if (image_of s.number contents) s in
    let at : Bool → KeptStream → List KeptStream → Option Buffers =
    λ b u us. option_map (λ v. v.buffers) (cond b (Some u) (stream_at n us)) in
    ap (λ k. at (k == n) t (brought_home contents streams)) (number_home (image_of s.number contents) s)
    ∙ by_number (at (s.number == n) t (brought_home contents streams) ≡ at (s.number == n) s streams) s.number n
    (λ here same. (
    let nothing : image_of s.number contents ≡ None = ap (λ k. image_of k contents) same ∙ none in
    rw here (ap (λ o. Some (home_if o s).buffers) nothing)))
    (λ apart. rw apart (buffers_home n contents streams none))

pub still_awaits : (pair : ℕ × Bitmap) (contents : Images) (streams : List KeptStream) → image_of pair.0 contents ≡ None
    → Awaits streams pair → Awaits (brought_home contents streams) pair
still_awaits pair contents streams none awaits =
    subst (λ o. IfSome o (λ s. (s.read ≡ away) × HasShape s.size s.format pair.1))
    (sym (buffers_home pair.0 contents streams none)) awaits

-- one more image comes home
pub home_more : (n : ℕ) (image : Bitmap) (contents : Images) (streams : List KeptStream) → image_of n contents ≡ None
    → change_stream n (returned image) (brought_home contents streams) ≡ brought_home ((n, image) ∷ contents) streams
home_more n image contents [] none = refl
home_more n image contents (s ∷ streams) none =
    let o = image_of s.number contents in
    let home : KeptStream → KeptStream = λ u. record u { buffers = returned image u.buffers } in
    let changed : Bool → KeptStream → KeptStream = λ b u. cond b (home u) u in
    let found : Bool
    → Option Bitmap = λ b. option_map (λ p. p.1)
    (cond b (Some (n, image)) (find (λ p. p.0 == s.number) contents)) in
    ap (λ k. changed (k == n) (home_if o s) ∷ change_stream n (returned image) (brought_home contents streams)) (number_home o s)
    ∙ both_same _ _ _ _
    (by_number (changed (s.number == n) (home_if o s) ≡ home_if (found (n == s.number)) s) s.number n
    (λ here same. (
    let nothing : o ≡ None = ap (λ k. image_of k contents) same ∙ none in
    let back : (n == s.number) ≡ true = eq-eqb n s.number (sym same) in
    rw (here, back, nothing) refl))
    (λ apart. (let back : (n == s.number) ≡ false = grind (arith, nat_tests, apart) in rw (apart, back) refl)))
    (home_more n image contents streams none)

pub none_home : (streams : List KeptStream) → streams ≡ brought_home [] streams
none_home [] = refl
none_home (s ∷ streams) = ap (λ ss. s ∷ ss) (none_home streams)

-- the images behind some others are awaited too
pub awaited_behind : (streams : List KeptStream) (front contents : Images) → AreAwaited streams (front ++ contents)
    → AreAwaited streams contents
awaited_behind streams [] contents awaited = awaited
awaited_behind streams (pair ∷ front) contents awaited = awaited_behind streams front contents awaited.2

-- images of which the last that are left comes home next
pub next_home : (all rest new home : Images) (pair : ℕ × Bitmap) → all ≡ rest ++ home → rest ≡ new ++ pair ∷ [] → all ≡ new ++ pair ∷ home
next_home all rest new home pair is last = is ∙ ap (λ xs. xs ++ home) last ∙ append_assoc new (pair ∷ []) home

pub next_awaited : (streams : List KeptStream) (all new home : Images) (pair : ℕ × Bitmap) → all ≡ new ++ pair ∷ home
    → AreAwaited streams all → AreAwaited streams (pair ∷ home)
next_awaited streams all new home pair is awaited =
    awaited_behind streams new (pair ∷ home) (subst (λ xs. AreAwaited streams xs) is awaited)
