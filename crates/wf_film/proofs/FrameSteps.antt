-- Reading goes on from frame to frame.
use Rattle.std.proofs.Common.{◌≡◌, ◌≢◌, ℕ, zero, suc, ◌+◌, ◌<◌, ◌≤◌, ◌==◌, false, List, [], ◌∷◌, length}
use Rattle.std.proofs.Common.{Ok, Err, refl, ap, subst, arith}
use Rattle.std.specs.Str.{byte}
use Rattle.std.proofs.lemmas.Bool.{eqb-true, false_from_ne_true}
use Rattle.wf_words.specs.Refusals.{◌>>=◌}
use Rattle.wf_film.specs.declared.form.FilmForm.{FilmForm}
use Rattle.wf_film.specs.declared.rule.Breach.{Breach}
use Rattle.wf_film.specs.declared.rule.Rule.TheVariants as rule
use Rattle.wf_film.specs.Film.{Frame}
use Rattle.wf_film.specs.Reading.{Read, behind, byte_at, counted, frame_at, frames_at}
use Rattle.wf_film.specs.Rules.{breach}
use Rattle.wf_film.proofs.FieldLaws.{byte_takes}
use Rattle.wf_film.proofs.Steps.{AreBytes, Takes, takes_length}
use Rattle.wf_film.proofs.FrameLaws.{frame_body, frame_takes}

-- with so many frames before
abbrev pub more_frames : ℕ → Read (List Frame) → Read ℕ
more_frames n (Ok read) = Ok (n + length read.0, read.1)
more_frames n (Err broken) = Err broken

pub none_before : (read : Read (List Frame)) → more_frames 0 read ≡ counted read
none_before (Ok read) = ap (λ (n : ℕ). Ok (n, read.1)) (omega arith)
none_before (Err broken) = refl

-- the film ends before a tag
pub no_tag : (form : FilmForm) (most n : ℕ) (bytes : List ℕ) (e : Breach) → length bytes ≤ most → byte_at bytes ≡ Err e
    → more_frames n (frames_at form most bytes) ≡ Err e
unfolding frames_at
no_tag form zero n [] e few none = none
no_tag form zero n (b ∷ rest) e few none = absurd cc
no_tag form (suc most) n bytes e few none = rw none refl

-- the tag of the journal
pub at_journal : (form : FilmForm) (most n tag : ℕ) (bytes rest : List ℕ) → length bytes ≤ most → byte_at bytes ≡ Ok (tag, rest)
    → tag ≡ byte "J" → more_frames n (frames_at form most bytes) ≡ Ok (n, rest)
unfolding frames_at
at_journal form zero n tag [] rest few read is = absurd cc
at_journal form zero n tag (b ∷ bytes) rest few read is = absurd (omega arith)
at_journal form (suc most) n tag bytes rest few read is =
    rw (read, is) (ap (λ (k : ℕ). Ok (k, rest)) (omega arith))

-- a tag that may not stand there
pub no_frame : (form : FilmForm) (most n tag : ℕ) (bytes rest : List ℕ) → length bytes ≤ most → byte_at bytes ≡ Ok (tag, rest)
    → tag ≢ byte "J" → tag ≢ byte "F" → more_frames n (frames_at form most bytes) ≡ Err (breach rule.Tag bytes)
unfolding frames_at
no_frame form zero n tag [] rest few read other another = absurd cc
no_frame form zero n tag (b ∷ bytes) rest few read other another = absurd (omega arith)
no_frame form (suc most) n tag bytes rest few read other another =
    let first : (tag == byte "J") ≡ false = false_from_ne_true _ (λ is. other (eqb-true tag (byte "J") is)) in
    let second : (tag == byte "F") ≡ false = false_from_ne_true _ (λ is. another (eqb-true tag (byte "F") is)) in
    rw (read, first, second) refl

-- a frame that breaks a rule
pub broken_frame : (form : FilmForm) (most n : ℕ) (bytes rest : List ℕ) (e : Breach) → length bytes ≤ most
    → byte_at bytes ≡ Ok (byte "F", rest) → behind (frame_at form rest) ≡ Err e → more_frames n (frames_at form most bytes) ≡ Err e
unfolding frames_at
broken_frame form zero n [] rest e few read broken = absurd cc
broken_frame form zero n (b ∷ bytes) rest e few read broken = absurd (omega arith)
broken_frame form (suc most) n bytes rest e few read broken = rw read (of_frame (frame_at form rest) broken)
  where
    of_frame : (r : Read Frame) → behind r ≡ Err e
        → more_frames n (r >>= λ frame. frames_at form most frame.1 >>= λ others. Ok (frame.0 ∷ others.0, others.1)) ≡ Err e
    of_frame (Ok x) same = absurd cc
    of_frame (Err d) same = cc

-- one frame more
pub one_frame : (form : FilmForm) (most n : ℕ) (bytes rest after : List ℕ) → byte_at bytes ≡ Ok (byte "F", rest)
    → behind (frame_at form rest) ≡ Ok after
    → more_frames n (frames_at form (suc most) bytes) ≡ more_frames (n + 1) (frames_at form most after)
unfolding frames_at
one_frame form most n bytes rest after read frame = rw read (of_frame (frame_at form rest) frame)
  where
    of_others : (f : Frame) (r : Read (List Frame))
        → more_frames n (r >>= λ others. Ok (f ∷ others.0, others.1)) ≡ more_frames (n + 1) r
    of_others f (Ok x) = ap (λ (k : ℕ). Ok (k, x.1)) (omega arith)
    of_others f (Err d) = refl

    of_frame : (r : Read Frame) → behind r ≡ Ok after
        → more_frames n (r >>= λ frame. frames_at form most frame.1 >>= λ others. Ok (frame.0 ∷ others.0, others.1))
        ≡ more_frames (n + 1) (frames_at form most after)
    of_frame (Ok x) same =
        let is : x.1 ≡ after = cc in
        rw (← is) (of_others x.0 (frames_at form most x.1))
    of_frame (Err d) same = absurd cc

-- what is behind a frame is shorter, and has bytes still
pub behind_one_frame : (form : FilmForm) (bytes rest after : List ℕ) (tag : ℕ) → AreBytes bytes → byte_at bytes ≡ Ok (tag, rest)
    → behind (frame_at form rest) ≡ Ok after → (length after < length bytes) × AreBytes after
behind_one_frame form bytes rest after tag fits read h = of_frame (frame_at form rest) refl h
  where
    first : Takes bytes (tag ∷ []) rest
    first = byte_takes bytes (tag, rest) fits read

    of_frame : (r : Read Frame) → frame_at form rest ≡ r → behind r ≡ Ok after → (length after < length bytes) × AreBytes after
    of_frame (Ok x) read same =
        let is : x.1 ≡ after = cc in
        let takes = (frame_takes form rest x first.fits read).0 in
        subst (λ (t : List ℕ). (length t < length bytes) × AreBytes t) is
        (omega (arith, takes_length bytes (tag ∷ []) rest first, takes_length rest (frame_body form x.0) x.1 takes), takes.fits)
    of_frame (Err d) read same = absurd cc
