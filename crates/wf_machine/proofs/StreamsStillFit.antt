-- Streams fit still when one is added or its buffers change.
use Rattle.wf_machine.proofs.Common.{◌≡◌, ℕ, ◌+◌, ◌<◌, true, false, cond, ◌==◌, List, [], ◌∷◌, ◌++◌, map, Option}
use Rattle.wf_machine.proofs.Common.{Some, None, refl, sym, ◌∙◌, arith, nat_tests, has_sides, Buffers, acquired, discarded, posted}
use Rattle.wf_machine.proofs.Common.{KeptStream, IsNumbered, change_stream, unnamed, Bitmap, Content, AllFit, AreNumbered, IsRead}
use Rattle.wf_machine.proofs.Common.{StreamFits, content_at}
use Rattle.wf_stream.specs.Buffers.{never}
use Rattle.wf_machine.proofs.StreamsLatched.{KeepsShape}

-- a change of buffers that keeps the size, the format, the number of buffers and what is read
pub record KeepsRead (f : Buffers → Buffers) : Type 0 where
  pub size : (b : Buffers) → (f b).size ≡ b.size
  pub format : (b : Buffers) → (f b).format ≡ b.format
  pub buffers : (b : Buffers) → (f b).buffers ≡ b.buffers
  pub read : (b : Buffers) → (f b).read ≡ b.read

pub acquired_keeps : KeepsRead acquired
acquired_keeps = record { size = λ b. refl; format = λ b. refl; buffers = λ b. refl; read = λ b. refl }

pub discarded_keeps : KeepsRead discarded
discarded_keeps = record { size = λ b. refl; format = λ b. refl; buffers = λ b. refl; read = λ b. refl }

pub posted_keeps : (image : Bitmap) → KeepsRead (posted image)
posted_keeps image = record { size = λ b. refl; format = λ b. refl; buffers = λ b. refl; read = λ b. refl }

pub shape_kept : (f : Buffers → Buffers) → KeepsRead f → KeepsShape f
shape_kept f keeps = record { size = keeps.size; format = keeps.format; buffers = keeps.buffers }

-- what is said of the sizes, the formats and the read images of buffers holds of changed ones
read_kept : (f : Buffers → Buffers) (b : Buffers) (o : Option Content) → KeepsRead f → IsRead b o → IsRead (f b) o
read_kept f b None keeps read = λ h. read (sym (keeps.read b) ∙ h)
read_kept f b (Some c) keeps read = (keeps.read b ∙ read.0, keeps.size b ∙ read.1, keeps.format b ∙ read.2)

fits_kept : (f : Buffers → Buffers) (contents : List Content) (s : KeptStream) → KeepsRead f → StreamFits contents s
    → StreamFits contents (record s { buffers = f s.buffers })
fits_kept f contents s keeps fits =
    record {
      sides = rw (keeps.size s.buffers) fits.sides;
      read = read_kept f s.buffers (content_at s.number contents) keeps fits.read;
    }

pub all_kept : (f : Buffers → Buffers) (n : ℕ) (contents : List Content) (streams : List KeptStream) → KeepsRead f
    → AllFit contents streams → AllFit contents (change_stream n f streams)
all_kept f n contents [] keeps fit = tt
all_kept f n contents (s ∷ streams) keeps fit = (
  elim (s.number == n) as (λ b. StreamFits contents (cond b (record s { buffers = f s.buffers }) s)) [
    | true ↦ fits_kept f contents s keeps fit.0
    | false ↦ fit.0
  ],
  all_kept f n contents streams keeps fit.1,
)

-- no content is of a number above all
pub content_above : (n numbered : ℕ) (contents : List Content) → AreNumbered numbered contents → numbered < n → content_at n contents ≡ None
content_above n numbered [] known above = refl
content_above n numbered (c ∷ contents) known above =
    let apart : (c.stream == n) ≡ false = grind (arith, nat_tests, known.0) in
    rw apart (content_above n numbered contents known.1 above)

pub known_more : (numbered : ℕ) (contents : List Content) → AreNumbered numbered contents → AreNumbered (numbered + 1) contents
known_more numbered [] known = tt
known_more numbered (c ∷ contents) known = (omega (arith, known.0), known_more numbered contents known.1)

pub all_push : (contents : List Content) (streams : List KeptStream) (s : KeptStream) → AllFit contents streams → StreamFits contents s
    → AllFit contents (streams ++ s ∷ [])
all_push contents [] s fit new = (new, tt)
all_push contents (t ∷ streams) s fit new = (fit.0, all_push contents streams s fit.1 new)

-- a new stream
pub new_fits : (contents : List Content) (numbered : ℕ) (s : KeptStream) → AreNumbered numbered contents → s.number ≡ numbered + 1
    → has_sides s.buffers.size ≡ true → s.buffers.read ≡ never → StreamFits contents s
new_fits contents numbered s known number sides never-is =
    record {
      sides = sides;
      read = rw (content_above s.number numbered contents known (omega (arith, number))) (λ h. (let no = sym never-is ∙ h in cc));
    }

-- a stream whose handle is dead
pub all_unnamed : (handle : ℕ) (contents : List Content) (streams : List KeptStream) → AllFit contents streams
    → AllFit contents (map (unnamed handle) streams)
all_unnamed handle contents [] fit = tt
all_unnamed handle contents (s ∷ streams) fit = (
  elim (s.handle == handle) as (λ b. StreamFits contents (cond b (record s { handle = 0 }) s)) [
    | true ↦ record { sides = fit.0.sides; read = fit.0.read }
    | false ↦ fit.0
  ],
  all_unnamed handle contents streams fit.1,
)

pub numbered_push : (low high : ℕ) (streams : List KeptStream) (s : KeptStream) → IsNumbered low streams high → s.number ≡ high + 1
    → IsNumbered low (streams ++ s ∷ []) (high + 1)
numbered_push low high [] s rising is = (omega (arith, is, rising), omega (arith, is))
numbered_push low high (t ∷ streams) s rising is = (rising.0, numbered_push t.number high streams s rising.1 is)
