-- How many streams are gone that a call left without a name: as many as their list is shorter.
use Rattle.std.proofs.Common.{◌≡◌, ◌∙◌, ℕ, suc, ◌+◌, ◌-◌, Bool, true, false, not, cond, ◌&&◌, ◌||◌, ◌==◌, List, [], ◌∷◌, ◌++◌, map, filter}
use Rattle.std.proofs.Common.{length, flat_map, eq-eqb, length-append, refl, sym, ap, subst, Option, Some, None, arith}
use Rattle.std.specs.List.{list_all}
use Rattle.std.proofs.lemmas.Bool.{and_from, and_parts, eqb-true}
use Rattle.std.proofs.lemmas.Grind.{flat_map-append}
use Rattle.std.proofs.lemmas.List.{length-map, map-append}
use Rattle.std.proofs.lemmas.List.Elements.{filter-append}
use Rattle.std.proofs.lemmas.List.Folds.{list_any-append}
use Rattle.wf_words.specs.Filtered.{all_kept, all_other, filter_mapped, filter_twice}
use Rattle.wf_words.specs.Keyed.{is_in, map_change}
use Rattle.wf_image.specs.Bitmap.{Bitmap}
use Rattle.wf_image.specs.Contents.{image_of}
use Rattle.wf_stream.specs.Buffers.{Buffers, acquired, latched, posted}
use Rattle.wf_stream.specs.Streams.{KeptStream, change_stream, unnamed}
use Rattle.wf_calls.specs.declared.call.Call.{Call}
use Rattle.wf_calls.specs.declared.call.JobKind.{JobKind}
use Rattle.wf_calls.specs.declared.call.JobKind.TheVariants as kind
use Rattle.wf_calls.specs.declared.reply.Reply.{Reply}
use Rattle.wf_calls.specs.Codes.{is_ok_code}
use Rattle.wf_calls.specs.Parts.{Register, no_register, of_device, of_display}
use Rattle.wf_calls.specs.declared.code.Code.{Code}
use Rattle.wf_model.specs.Effects.{Effect, acquires, begins, composes, displays, effect, ends, makes, refuses, returns, tells, unnames}
use Rattle.wf_model.specs.Frames.{brought_home, delivered, drawing, home_if, latch, latched_among, scene_streams}
use Rattle.wf_model.specs.Names.{all_names, core_names, display_names, frame_names, kept, own_names, settle_if}
use Rattle.wf_model.specs.Registers.{offered}
use Rattle.wf_model.specs.State.{State}
use Rattle.wf_model.specs.Step.{act}
use Rattle.wf_model.specs.Streams.{stream_made}
use Rattle.wf_events.specs.Happenings.{gone}

abbrev numbers : List KeptStream → List ℕ
numbers streams = map (λ s. s.number) streams

and_false : (b : Bool) → (b && false) ≡ false
and_false true = refl
and_false false = refl

or_true : (b : Bool) → (b || true) ≡ true
or_true true = refl
or_true false = refl

-- what a test of numbers leaves

-- a number is among those that are left exactly where it passes and is among all
found_left : (p : ℕ → Bool) (n : ℕ) (zs : List KeptStream)
    → is_in n (numbers (filter (λ s. p s.number) zs)) ≡ (p n && is_in n (numbers zs))
found_left p n [] = sym (and_false (p n))
found_left p n (z ∷ zs) = by_tests (p z.number) (z.number == n) refl refl (found_left p n zs)
  where
    there : Bool
    there = is_in n (numbers zs)

    same : (z.number == n) ≡ true → (b : Bool) → p z.number ≡ b → p n ≡ b
    same is b at = sym (ap p (eqb-true z.number n is)) ∙ at

    by_tests : (a b : Bool) → p z.number ≡ a → (z.number == n) ≡ b
        → is_in n (numbers (filter (λ s. p s.number) zs)) ≡ (p n && there)
        → is_in n (numbers (cond a (z ∷ filter (λ s. p s.number) zs) (filter (λ s. p s.number) zs))) ≡ (p n && (b || there))
    by_tests true true pa is later = rw (is, same is true pa) refl
    by_tests true false pa is later = rw is later
    by_tests false true pa is later = let none : p n ≡ false = same is false pa in later ∙ rw none refl
    by_tests false false pa is later = later

-- each stream is among all
all_in : (zs : List KeptStream) → list_all (λ s. is_in s.number (numbers zs)) zs ≡ true
all_in [] = refl
all_in (z ∷ zs) =
    and_from ((z.number == z.number) || is_in z.number (numbers zs))
    (list_all (λ s. (z.number == s.number) || is_in s.number (numbers zs)) zs)
    (ap (λ (b : Bool). b || is_in z.number (numbers zs)) (eq-eqb z.number z.number refl))
    (all_other (λ s. is_in s.number (numbers zs)) (λ s. (z.number == s.number) || is_in s.number (numbers zs))
    (λ s here. ap (λ (b : Bool). (z.number == s.number) || b) here ∙ or_true (z.number == s.number)) zs (all_in zs))

counted : (p : ℕ → Bool) (zs xs : List KeptStream) → list_all (λ s. is_in s.number (numbers zs)) xs ≡ true
    → length (filter (λ s. not (is_in s.number (numbers (filter (λ t. p t.number) zs)))) xs) + length (filter (λ s. p s.number) xs)
    ≡ length xs
counted p zs [] all = refl
counted p zs (x ∷ xs) all =
    let parts = and_parts (is_in x.number (numbers zs)) (list_all (λ s. is_in s.number (numbers zs)) xs) all in
    by_test (p x.number) refl (found_left p x.number zs ∙ ap (λ (b : Bool). p x.number && b) parts.0) (counted p zs xs parts.1)
  where
    left : List KeptStream
    left = filter (λ t. p t.number) zs

    by_test : (a : Bool) → p x.number ≡ a → is_in x.number (numbers left) ≡ (p x.number && true)
        → length (filter (λ s. not (is_in s.number (numbers left))) xs) + length (filter (λ s. p s.number) xs) ≡ length xs
        → length (filter (λ s. not (is_in s.number (numbers left))) (x ∷ xs))
        + length (cond a (x ∷ filter (λ s. p s.number) xs) (filter (λ s. p s.number) xs))
        ≡ suc (length xs)
    by_test true pa here later = rw (here, pa) (omega (arith, later))
    by_test false pa here later = rw (here, pa) (omega (arith, later))

-- streams of which the numbers are those that a test leaves
gone_by : (p : ℕ → Bool) (zs ys : List KeptStream) → numbers ys ≡ numbers (filter (λ s. p s.number) zs)
    → gone zs ys ≡ length zs - length ys
gone_by p zs ys same =
    let left : List KeptStream = filter (λ s. p s.number) zs in
    let long : length ys ≡ length left = sym (length-map ys (λ s. s.number)) ∙ ap length same ∙ length-map left (λ s. s.number) in
    let all : gone zs left + length left ≡ length zs = counted p zs zs (all_in zs) in
    let is : gone zs ys ≡ gone zs left = ap (λ ns. length (filter (λ s. not (is_in s.number ns)) zs)) same in
    omega (arith, long, all, is)

-- a call that makes no stream keeps the numbers, of which those without a name are left out
left_out : (h y : State) (b : Bool) → numbers y.streams ≡ numbers h.streams
    → gone h.streams (settle_if b y).streams ≡ length h.streams - length (settle_if b y).streams
left_out h y true same =
    let named : ℕ → Bool = λ n. is_in n (all_names y) in
    gone_by named h.streams (kept y)
    (sym (filter_mapped named (λ s. s.number) y.streams) ∙ ap (filter named) same ∙ filter_mapped named (λ s. s.number) h.streams)
left_out h y false same =
    gone_by (λ n. true) h.streams y.streams (same ∙ ap numbers (sym (all_kept (λ s. true) (λ s. refl) h.streams)))

-- calls keep the numbers

mapped : (g : KeptStream → KeptStream) → ((s : KeptStream) → (g s).number ≡ s.number) → (ss : List KeptStream)
    → numbers (map g ss) ≡ numbers ss
mapped g keeps [] = refl
mapped g keeps (s ∷ ss) = λ i. keeps s i ∷ mapped g keeps ss i

changed : (n : ℕ) (f : Buffers → Buffers) (ss : List KeptStream) → numbers (change_stream n f ss) ≡ numbers ss
changed n f ss = map_change (λ s. s.number) n (λ s. record s { buffers = f s.buffers }) (λ s. s.number) (λ s. refl) ss

drawn : (k : JobKind) (ss : List KeptStream) → numbers (drawing k ss) ≡ numbers ss
drawn (kind.Context handle target) ss = changed target acquired ss
drawn (kind.Port port) ss = refl

brought : (k : JobKind) (image : Bitmap) (ss : List KeptStream) → numbers (delivered k image ss) ≡ numbers ss
brought (kind.Context handle target) image ss = changed target (posted image) ss
brought (kind.Port port) image ss = refl

latched_number : (ns : List ℕ) (s : KeptStream) → (latched_among ns s).number ≡ s.number
latched_number ns s =
    elim (is_in s.number ns) as (λ b. (cond b (record s { buffers = latched s.buffers }) s).number ≡ s.number) [
      | true ↦ refl
      | false ↦ refl
    ]

home_number : (o : Option Bitmap) (s : KeptStream) → (home_if o s).number ≡ s.number
home_number None s = refl
home_number (Some image) s = refl

unnamed_number : (handle : ℕ) (s : KeptStream) → (unnamed handle s).number ≡ s.number
unnamed_number handle s =
    elim (s.handle == handle) as (λ b. (cond b (record s { handle = 0 }) s).number ≡ s.number) [ true ↦ refl | false ↦ refl ]

offered_streams : (register : Register) (code : Code) (h : State) → (offered register code h).streams ≡ h.streams
offered_streams (of_device d) code h = refl
offered_streams of_display code h = refl
offered_streams no_register code h = refl

-- a call that makes a stream leaves none out

none_pass : (p : KeptStream → Bool) (xs : List KeptStream) → list_all p xs ≡ true → filter (λ x. not (p x)) xs ≡ []
none_pass p [] all = refl
none_pass p (x ∷ xs) all = let parts = and_parts (p x) (list_all p xs) all in rw parts.0 (none_pass p xs parts.1)

named_more : (new : Buffers) (h : State) (n : ℕ) → is_in n (all_names h) ≡ true → is_in n (all_names (stream_made new h).0) ≡ true
named_more new h n within =
    let own = flat_map own_names h.streams in
    let made : KeptStream = record { number = h.numbered + 1; handle = h.made + 1; buffers = new } in
    let more = flat_map own_names (made ∷ []) in
    let core = core_names h.core in
    let display = display_names h.display in
    let frame = frame_names h.frame in
    let split : (a : List ℕ) → is_in n (((a ++ core) ++ display) ++ frame)
    ≡ (((is_in n a || is_in n core) || is_in n display) || is_in n frame) = λ a.
    list_any-append (λ x. x == n) ((a ++ core) ++ display) frame
    ∙ ap (λ x. x || is_in n frame) (list_any-append (λ x. x == n) (a ++ core) display
    ∙ ap (λ x. x || is_in n display) (list_any-append (λ x. x == n) a core)) in
    let both : is_in n (flat_map own_names (h.streams ++ made ∷ [])) ≡ (is_in n own || is_in n more) =
    ap (is_in n) (flat_map-append own_names h.streams (made ∷ [])) ∙ list_any-append (λ x. x == n) own more in
    split (flat_map own_names (h.streams ++ made ∷ []))
    ∙ ap (λ x. ((x || is_in n core) || is_in n display) || is_in n frame) both
    ∙ wider (is_in n own) (is_in n more) (is_in n core) (is_in n display) (is_in n frame) (sym (split own) ∙ within)
  where
    wider : (a m b c d : Bool) → (((a || b) || c) || d) ≡ true → ((((a || m) || b) || c) || d) ≡ true
    wider true m b c d is = refl
    wider false true b c d is = refl
    wider false false b c d is = is

none_left_out : (new : Buffers) (h : State) → h.streams ≡ kept h
    → gone h.streams (kept (stream_made new h).0) ≡ length h.streams - length (kept (stream_made new h).0)
none_left_out new h settled =
    let now : State = (stream_made new h).0 in
    let made : KeptStream = record { number = h.numbered + 1; handle = h.made + 1; buffers = new } in
    let named : KeptStream → Bool = λ s. is_in s.number (all_names now) in
    let was : KeptStream → Bool = λ s. is_in s.number (all_names h) in
    let all : filter named h.streams ≡ h.streams =
    ap (filter named) settled
    ∙ filter_twice named was was (λ s. both (named s) (was s) (named_more new h s.number)) h.streams
    ∙ sym settled in
    let more : List KeptStream = filter named (made ∷ []) in
    let is : kept now ≡ h.streams ++ more = filter-append named h.streams (made ∷ []) ∙ ap (λ ss. ss ++ more) all in
    let none : gone h.streams (h.streams ++ more) ≡ 0 = ap length (all_out h.streams more) in
    let long : length (h.streams ++ more) ≡ length h.streams + length more = length-append h.streams more in
    ap (gone h.streams) is ∙ none ∙ omega (arith, long, ap length is)
  where
    both : (a b : Bool) → (b ≡ true → a ≡ true) → (a && b) ≡ b
    both a true wider = rw (wider refl) refl
    both a false wider = and_false a

    all_out : (ss more : List KeptStream) → filter (λ s. not (is_in s.number (numbers (ss ++ more)))) ss ≡ []
    all_out ss more = none_pass (λ s. is_in s.number (numbers (ss ++ more))) ss
        (all_other (λ s. is_in s.number (numbers ss)) (λ s. is_in s.number (numbers (ss ++ more))) (λ s. among s.number) ss (all_in ss))
      where
        among : (n : ℕ) → is_in n (numbers ss) ≡ true → is_in n (numbers (ss ++ more)) ≡ true
        among n here = ap (is_in n) (map-append (λ (s : KeptStream). s.number) ss more)
            ∙ list_any-append (λ x. x == n) (numbers ss) (numbers more)
            ∙ ap (λ b. b || is_in n (numbers more)) here

-- how many streams are gone behind a call
pub streams_gone : (h : State) (c : Call) (m : Bool) → h.streams ≡ kept h
    → gone h.streams (settle_if (is_ok_code (act h c m).1.code) (act h c m).0).streams
    ≡ length h.streams - length (settle_if (is_ok_code (act h c m).1.code) (act h c m).0).streams
streams_gone h c m settled = of_effect (act h c m) (effect h c m)
  where
    Is : State × Reply → Type 0
    Is x = gone h.streams (settle_if (is_ok_code x.1.code) x.0).streams
        ≡ length h.streams - length (settle_if (is_ok_code x.1.code) x.0).streams

    same : (x : State × Reply) → numbers x.0.streams ≡ numbers h.streams → Is x
    same x is = left_out h x.0 (is_ok_code x.1.code) is

    of_effect : (x : State × Reply) → Effect h c x → Is x
    of_effect x (refuses honest left) =
        same x (ap (λ (s : State). numbers s.streams) left ∙ ap numbers (offered_streams _ x.1.code h))
    of_effect x (composes m w value does is) = same x (ap (λ (y : State × Reply). numbers y.0.streams) is)
    of_effect x (displays m w value does is) = same x (ap (λ (y : State × Reply). numbers y.0.streams) is)
    of_effect x (makes new is) = subst Is (sym is) (none_left_out new h settled)
    of_effect x (unnames handle is) =
        same x (ap (λ (y : State × Reply). numbers y.0.streams) is ∙ mapped (unnamed handle) (unnamed_number handle) h.streams)
    of_effect x (acquires handle s at is) =
        same x (ap (λ (y : State × Reply). numbers y.0.streams) is ∙ changed s.number acquired h.streams)
    of_effect x (returns canvas f way out is) =
        same x (ap (λ (y : State × Reply). numbers y.0.streams) is ∙ changed canvas.stream f h.streams)
    of_effect x (begins b free begun is) =
        let ns = scene_streams b.scene in
        same x (ap (λ (y : State × Reply). numbers y.0.streams) is
        ∙ drawn b.kind (latch ns h.streams)
        ∙ mapped (latched_among ns) (latched_number ns) h.streams)
    of_effect x (ends job f call_is runs own is) =
        same x (ap (λ (y : State × Reply). numbers y.0.streams) is
        ∙ brought job.kind job.image (brought_home job.contents h.streams)
        ∙ mapped (λ s. home_if (image_of s.number job.contents) s) (λ s. home_number (image_of s.number job.contents) s) h.streams)
    of_effect x (tells value is) = same x (ap (λ (y : State × Reply). numbers y.0.streams) is)
