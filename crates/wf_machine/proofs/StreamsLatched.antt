-- Streams that are latched one after another.
use Rattle.wf_machine.proofs.Common.{◌≡◌, ◌≢◌, ℕ, ◌+◌, ◌<◌, ◌≤◌, Bool, true, false, not, cond, ◌==◌, ◌||◌, List, [], ◌∷◌, ◌++◌, length, map}
use Rattle.wf_machine.proofs.Common.{Option, Some, None, refl, sym, ap, subst, ◌∙◌, arith, length-append, append-nil, append_assoc, get_or}
use Rattle.wf_machine.proofs.Common.{take, flat_map, find, is_some, option_map, IfSome, IsSomeAnd, eq-eqb, nat_tests, list_any-append}
use Rattle.wf_machine.proofs.Common.{is_in, once, Bitmap, image_of, Buffers, HasShape, away, away_if, latched, next_image, KeptStream}
use Rattle.wf_machine.proofs.Common.{StoreView, IsNumbered, change_stream, stream_at, latch, latched_among, next_images, next_image_of}
use Rattle.wf_machine.proofs.Common.{layer_names, Images, Layer, take_more, AreAtHome, AreShapedAs, IsShapedAs, by_number, is_in-without}
use Rattle.std.specs.Prelude.{filter, filter_map, option_to_list}
use Rattle.std.proofs.lemmas.List.Elements.{filter_map-append, filter-append}
use Rattle.std.proofs.lemmas.Grind.{flat_map-append}
use Rattle.wf_machine.specs.Latching.{IsAtHome, with_next_image, without_next_image}
use Rattle.wf_machine.proofs.StreamChanges.{change_below, stream_below}

pub shaped_more : (n : ℕ) (image : Bitmap) (streams : List KeptStream) (contents : Images) → AreShapedAs streams contents
    → IsShapedAs n streams image → AreShapedAs streams (contents ++ (n, image) ∷ [])
shaped_more n image streams [] shaped one = (one, tt)
shaped_more n image streams (pair ∷ contents) shaped one = (shaped.0, shaped_more n image streams contents shaped.1 one)

-- a change of buffers that keeps their size, their format and how many there are
pub record KeepsShape (f : Buffers → Buffers) : Type 0 where
  pub size : (b : Buffers) → (f b).size ≡ b.size
  pub format : (b : Buffers) → (f b).format ≡ b.format
  pub buffers : (b : Buffers) → (f b).buffers ≡ b.buffers

pub latched_keeps : KeepsShape latched
latched_keeps =
    record {
      size = λ b. of_size b (next_image b);
      format = λ b. of_format b (next_image b);
      buffers = λ b. of_buffers b (next_image b);
    }
  where
    of_buffers : (b : Buffers) (o : Option Bitmap) → (away_if o b).buffers ≡ b.buffers
    of_buffers b None = refl
    of_buffers b (Some image) = refl

    of_size : (b : Buffers) (o : Option Bitmap) → (away_if o b).size ≡ b.size
    of_size b None = refl
    of_size b (Some image) = refl

    of_format : (b : Buffers) (o : Option Bitmap) → (away_if o b).format ≡ b.format
    of_format b None = refl
    of_format b (Some image) = refl

shaped_one : (f : Buffers → Buffers) (n m : ℕ) (image : Bitmap) (streams : List KeptStream) → KeepsShape f → IsShapedAs m streams image
    → IsShapedAs m (change_stream n f streams) image
shaped_one f n m image [] keeps shaped = absurd shaped
shaped_one f n m image (s ∷ streams) keeps shaped =
    let later = λ (found : IsShapedAs m streams image). shaped_one f n m image streams keeps found in
    let changed : KeptStream = record s { buffers = f s.buffers } in
    let shape : Buffers → Type 0 = λ c. HasShape c.size c.format image in
    let at : Bool → KeptStream → List KeptStream → Option Buffers =
    λ b t ts. option_map (λ u. u.buffers) (cond b (Some t) (stream_at m ts)) in
    elim (s.number == n) as (λ b. IsSomeAnd (at ((cond b changed s).number == m) (cond b changed s) (change_stream n f streams)) shape) [
      | true ↦ elim (s.number == m) as (λ b. IsSomeAnd (at b s streams) shape
          → IsSomeAnd (at b changed (change_stream n f streams)) shape) [
            | true ↦ λ here. record {
              size_is = here.size_is ∙ sym (keeps.size s.buffers);
              format_is = here.format_is ∙ sym (keeps.format s.buffers);
            }
            | false ↦ later
          ] shaped
      | false ↦ elim (s.number == m) as (λ b. IsSomeAnd (at b s streams) shape → IsSomeAnd (at b s (change_stream n f streams)) shape) [
        | true ↦ λ here. here
        | false ↦ later
      ] shaped
    ]

pub shaped_changed : (f : Buffers → Buffers) (n : ℕ) (streams : List KeptStream) (contents : Images) → KeepsShape f
    → AreShapedAs streams contents → AreShapedAs (change_stream n f streams) contents
shaped_changed f n streams [] keeps shaped = tt
shaped_changed f n streams (pair ∷ contents) keeps shaped =
    (shaped_one f n pair.0 pair.1 streams keeps shaped.0, shaped_changed f n streams contents keeps shaped.1)

-- a list of numbers with one more, where that is not in it
abbrev pub named : List ℕ → ℕ → List ℕ
named ns n = cond (is_in n ns) ns (ns ++ n ∷ [])

-- one more number in a list of which each stands once
pub once_more : (ns : List ℕ) (n : ℕ) → once (ns ++ n ∷ []) ≡ named (once ns) n
once_more [] n = refl
once_more (x ∷ ns) n =
    let keeps : ℕ → Bool = λ y. not (y == x) in
    ap (λ rest. x ∷ filter keeps rest) (once_more ns n)
    ∙ by_number (x ∷ filter keeps (named (once ns) n) ≡ named (x ∷ filter keeps (once ns)) n) x n
    (λ here same. rw here (elim (is_in n (once ns)) as (λ b. x ∷ filter keeps (cond b (once ns) (once ns ++ n ∷ [])) ≡ x
    ∷ filter keeps (once ns)) [
      | true ↦ refl
      | false ↦ ap (λ rest. x ∷ rest) (filter-append keeps (once ns) (n ∷ [])
          ∙ (let gone : (n == x) ≡ true = eq-eqb n x (sym same) in rw gone (append-nil (filter keeps (once ns)))))
    ]))
    (λ apart. rw (apart, is_in-without n x (once ns) apart)
    (elim (is_in n (once ns)) as (λ b. x ∷ filter keeps (cond b (once ns) (once ns ++ n ∷ []))
    ≡ cond b (x ∷ filter keeps (once ns)) (x ∷ filter keeps (once ns) ++ n ∷ [])) [
      | true ↦ refl
      | false ↦ ap (λ rest. x ∷ rest) (filter-append keeps (once ns) (n ∷ [])
          ∙ (let stays : (n == x) ≡ false = grind (arith, nat_tests, apart) in rw stays refl))
    ]))

same_twice : {A : Type 0} (b : Bool) (x : A) → cond b x x ≡ x
same_twice true x = refl
same_twice false x = refl

-- the image of a stream among the images that a frame takes of some
pub image_is_next : (ns : List ℕ) (n : ℕ) (streams : List KeptStream)
    → image_of n (next_images ns streams) ≡ cond (is_in n ns) (next_image_of (stream_at n streams)) None
image_is_next [] n streams = refl
image_is_next (m ∷ ns) n streams = of_next_image (image_is_next ns n streams) (next_image_of (stream_at m streams)) refl
  where
    next_image_at : ℕ → Option Bitmap
    next_image_at k = next_image_of (stream_at k streams)

    of_next_image : image_of n (next_images ns streams) ≡ cond (is_in n ns) (next_image_at n) None → (o : Option Bitmap)
        → next_image_at m ≡ o
        → image_of n (next_images (m ∷ ns) streams) ≡ cond ((m == n) || is_in n ns) (next_image_at n) None
    of_next_image later None is =
        rw is (later
        ∙ by_number (cond (is_in n ns) (next_image_at n) None ≡ cond ((m == n) || is_in n ns) (next_image_at n) None) m n
        (λ here same. (let none : next_image_at n ≡ None = rw (sym same) is in rw (here, none) (same_twice (is_in n ns) None)))
        (λ apart. rw apart refl))
    of_next_image later (Some image) is =
        rw is (by_number (option_map (λ p. p.1)
        (cond (m == n) (Some (m, image)) (find (λ p. p.0 == n) (next_images ns streams)))
        ≡ cond ((m == n) || is_in n ns) (next_image_at n) None) m n
        (λ here same. rw here (sym (ap next_image_at (sym same) ∙ is)))
        (λ apart. rw apart later))

pub number_latched : (ns : List ℕ) (s : KeptStream) → (latched_among ns s).number ≡ s.number
number_latched ns s =
    elim (is_in s.number ns) as (λ b. (cond b (record s { buffers = latched s.buffers }) s).number
    ≡ s.number) [ true ↦ refl | false ↦ refl ]

-- a stream without an image, or that is not among them, is as it was
latched_same : (ns : List ℕ) (s : KeptStream) → (is_in s.number ns ≡ true → next_image s.buffers ≡ None) → latched_among ns s ≡ s
latched_same ns s none =
    elim (is_in s.number ns) as (λ b. is_in s.number ns ≡ b → cond b (record s { buffers = latched s.buffers }) s ≡ s) [
      | true ↦ λ within. (let is : next_image s.buffers ≡ None = none within in rw is refl)
      | false ↦ λ without. refl
    ] refl

pub same_stream : (ns : List ℕ) (n : ℕ) (streams : List KeptStream) → (is_in n ns ≡ true → next_image_of (stream_at n streams) ≡ None)
    → stream_at n (latch ns streams) ≡ stream_at n streams
same_stream ns n [] none = refl
same_stream ns n (s ∷ streams) none =
    rw (number_latched ns s)
    (by_number (cond (s.number == n) (Some (latched_among ns s)) (stream_at n (latch ns streams))
    ≡ cond (s.number == n) (Some s) (stream_at n streams)) s.number n
    (λ here same. rw here (ap (λ t. Some t)
    (latched_same ns s
    (λ within. (let found : next_image_of (cond (s.number == n) (Some s) (stream_at n streams)) ≡ None = none (rw same at within) in
    rw here at found)))))
    (λ apart. rw apart (same_stream ns n streams (λ within. (let found = none within in rw apart at found)))))

pub home_at : (n : ℕ) (streams : List KeptStream) → AreAtHome streams → IsAtHome n streams
home_at n [] home = tt
home_at n (s ∷ streams) home = elim (s.number == n)
    as (λ b. IfSome (option_map (λ t. t.buffers) (cond b (Some s) (stream_at n streams))) (λ c. c.read ≢ away)) [
      | true ↦ home.0
      | false ↦ home_at n streams home.1
    ]

-- a stream of which no image was taken is at home still
pub still_home : (ns : List ℕ) (n : ℕ) (streams : List KeptStream) → AreAtHome streams → image_of n (next_images ns streams) ≡ None
    → IsAtHome n (latch ns streams)
still_home ns n streams home none =
    let same = same_stream ns n streams (λ within. (let is = sym (image_is_next ns n streams) ∙ none in rw within at is)) in
    subst (λ o. IfSome (option_map (λ t. t.buffers) o) (λ c. c.read ≢ away)) (sym same)
    (home_at n streams home)

pub numbered_latch : (ns : List ℕ) (low high : ℕ) (streams : List KeptStream) → IsNumbered low streams high
    → IsNumbered low (latch ns streams) high
numbered_latch ns low high [] rising = rising
numbered_latch ns low high (s ∷ streams) rising =
    let later = numbered_latch ns s.number high streams rising.1 in
    subst (λ k. (low < k) × IsNumbered k (latch ns streams) high) (sym (number_latched ns s)) (rising.0, later)

-- a stream that is latched if it has the number
abbrev latched_at : ℕ → KeptStream → KeptStream
latched_at n s = cond (s.number == n) (record s { buffers = latched s.buffers }) s

latched_other : (n : ℕ) (s : KeptStream) → (s.number == n) ≡ false → latched_at n s ≡ s
latched_other n s apart = rw apart refl

latched_without : (n : ℕ) (s : KeptStream) → next_image s.buffers ≡ None → latched_at n s ≡ s
latched_without n s none =
    elim (s.number == n) as (λ b. cond b (record s { buffers = latched s.buffers }) s ≡ s) [ true ↦ rw none refl | false ↦ refl ]

pub both_same : {A : Type 0} (x y : A) (xs ys : List A) → x ≡ y → xs ≡ ys → x ∷ xs ≡ y ∷ ys
both_same x y xs ys head tail = ap (λ z. z ∷ xs) head ∙ ap (λ zs. y ∷ zs) tail

-- a stream without an image that is latched again
change_again : (ns : List ℕ) (n low high : ℕ) (streams : List KeptStream) → IsNumbered low streams high
    → next_image_of (stream_at n streams) ≡ None → change_stream n latched (latch ns streams) ≡ latch ns streams
change_again ns n low high [] rising none = refl
change_again ns n low high (s ∷ streams) rising none =
    by_number (latched_at n (latched_among ns s) ∷ change_stream n latched (latch ns streams) ≡ latched_among ns s ∷ latch ns streams)
    s.number n
    (λ here same. (
    let found : next_image s.buffers ≡ None = rw here at none in
    let as_was = latched_same ns s (λ _. found) in
    let below = change_below s.number high n latched (latch ns streams) (numbered_latch ns s.number high streams rising.1)
    (omega (arith, same)) in
    both_same _ _ _ _ (ap (latched_at n) as_was ∙ latched_without n s found ∙ sym as_was) below))
    (λ apart. (
    let other : ((latched_among ns s).number == n) ≡ false = ap (λ k. k == n) (number_latched ns s) ∙ apart in
    both_same _ _ _ _ (latched_other n (latched_among ns s) other) (change_again ns n s.number high streams rising.1 (rw apart at none))))

-- one more stream that is latched
change_more : (ns : List ℕ) (n : ℕ) (streams : List KeptStream) → is_in n ns ≡ false
    → change_stream n latched (latch ns streams) ≡ latch (ns ++ n ∷ []) streams
change_more ns n [] new = refl
change_more ns n (s ∷ streams) new =
    let among : is_in s.number (ns ++ n ∷ []) ≡ (is_in s.number ns || ((n == s.number) || false)) =
    list_any-append (λ x. x == s.number) ns (n ∷ []) in
    let late : KeptStream = record s { buffers = latched s.buffers } in
    by_number (latched_at n (latched_among ns s) ∷ change_stream n latched (latch ns streams) ≡ latched_among (ns ++ n ∷ []) s
    ∷ latch (ns ++ n ∷ []) streams) s.number n
    (λ here same. (
    let absent : is_in s.number ns ≡ false = rw same new in
    let back : (n == s.number) ≡ true = eq-eqb n s.number (sym same) in
    let as_was : latched_among ns s ≡ s = ap (λ b. cond b late s) absent in
    let within : is_in s.number (ns ++ n ∷ []) ≡ true = among ∙ rw (absent, back) refl in
    let now : latched_among (ns ++ n ∷ []) s ≡ late = ap (λ b. cond b late s) within in
    both_same _ _ _ _ (ap (latched_at n) as_was ∙ ap (λ b. cond b late s) here ∙ sym now) (change_more ns n streams new)))
    (λ apart. (
    let back : (n == s.number) ≡ false = grind (arith, nat_tests, apart) in
    let other : ((latched_among ns s).number == n) ≡ false = ap (λ k. k == n) (number_latched ns s) ∙ apart in
    let still : is_in s.number (ns ++ n ∷ []) ≡ is_in s.number ns = among ∙ rw back (or_none (is_in s.number ns)) in
    both_same _ _ _ _ (latched_other n (latched_among ns s) other ∙ sym (ap (λ b. cond b late s) still))
    (change_more ns n streams new)))
  where
    or_none : (b : Bool) → (b || (false || false)) ≡ b
    or_none true = refl
    or_none false = refl

-- what is taken of one more stream
pub latched_more : (ns : List ℕ) (n high : ℕ) (streams : List KeptStream) → IsNumbered 0 streams high
    → (with_next_image n (latch ns streams) (next_images ns streams) ≡ next_images (named ns n) streams)
    × (without_next_image n (next_images ns streams) (latch ns streams) ≡ latch (named ns n) streams)
latched_more ns n high streams rising =
    elim (is_in n ns) as (λ b. is_in n ns ≡ b → Goal b) [
      | true ↦ λ within. of_next_image within (next_image_of (stream_at n streams)) refl
      | false ↦ λ without. (
          let none : image_of n (next_images ns streams) ≡ None = image_is_next ns n streams ∙ rw without refl in
          let same = same_stream ns n streams (λ within. absurd (cc (without, within))) in (
            rw (none, same)
                (sym (filter_map-append (λ m. option_map (λ image. (m, image)) (next_image_of (stream_at m streams))) ns (n
                ∷ []) ∙ ap (λ more. next_images ns streams ++ more) (of_one (next_image_of (stream_at n streams))))),
            rw none (change_more ns n streams without),
          ))
    ] refl
  where
    Goal : Bool → Type 0
    Goal b = (with_next_image n (latch ns streams) (next_images ns streams) ≡ next_images (cond b ns (ns ++ n ∷ [])) streams)
        × (without_next_image n (next_images ns streams) (latch ns streams) ≡ latch (cond b ns (ns ++ n ∷ [])) streams)

    of_next_image : is_in n ns ≡ true → (o : Option Bitmap) → next_image_of (stream_at n streams) ≡ o → Goal true
    of_next_image within None is =
        let none : image_of n (next_images ns streams) ≡ None = image_is_next ns n streams ∙ rw (within, is) refl in
        let same = same_stream ns n streams (λ _. is) in
        (rw (none, same, is) (append-nil (next_images ns streams)), rw none (change_again ns n 0 high streams rising is))
    of_next_image within (Some image) is =
        let some : image_of n (next_images ns streams) ≡ Some image = image_is_next ns n streams ∙ rw (within, is) refl in
        (rw some refl, rw some refl)

    with_number : Bitmap → ℕ × Bitmap
    with_number image = (n, image)

    of_one : (o : Option Bitmap) → filter_map (λ x. option_map with_number x) (o ∷ [])
        ≡ map with_number (option_to_list o)
    of_one None = refl
    of_one (Some image) = refl

latch_none : (streams : List KeptStream) → latch [] streams ≡ streams
latch_none [] = refl
latch_none (s ∷ streams) = ap (λ ss. s ∷ ss) (latch_none streams)

-- the streams of these numbers were latched, and their images taken
pub record IsTaken (before : StoreView) (ns : List ℕ) (images : Images) (store : StoreView) : Type 0 where
  pub taken : images ≡ next_images ns before.streams
  pub left : store ≡ record before { streams = latch ns before.streams }
  pub shaped : AreShapedAs store.streams images

pub nothing_taken : (before : StoreView) (images : Images) → images ≡ [] → IsTaken before [] images before
nothing_taken before images none =
    record {
      taken = none;
      left = ap (λ streams. record before { streams = streams }) (sym (latch_none before.streams));
      shaped = subst (λ is. AreShapedAs before.streams is) (sym none) tt;
    }

pub take_home : (before store : StoreView) (ns : List ℕ) (n : ℕ) (images : Images) → AreAtHome before.streams
    → IsTaken before ns images store → image_of n images ≡ None → IsAtHome n store.streams
take_home before store ns n images home done none =
    subst (λ v. IsAtHome n v.streams) (sym done.left)
    (still_home ns n before.streams home (ap (image_of n) (sym done.taken) ∙ none))

pub take_step : (before store left : StoreView) (ns : List ℕ) (n high : ℕ) (images more : Images) → IsNumbered 0 before.streams high
    → IsTaken before ns images store
    → more ≡ with_next_image n store.streams images → left ≡ record store { streams = without_next_image n images store.streams }
    → (AreShapedAs store.streams images → AreShapedAs left.streams more)
    → IsTaken before (named ns n) more left
take_step before store left ns n high images more rising done is leaves shapes =
    let step = latched_more ns n high before.streams rising in
    let streams-are : store.streams ≡ latch ns before.streams = ap (λ v. v.streams) done.left in
    record {
      taken = is ∙ ap (λ streams. with_next_image n streams images) streams-are
          ∙ ap (λ is. with_next_image n (latch ns before.streams) is) done.taken ∙ step.0;
      left = leaves ∙ ap (λ (v : StoreView). record v { streams = without_next_image n images v.streams }) done.left
          ∙ ap (λ is. record before { streams = without_next_image n is (latch ns before.streams) }) done.taken
          ∙ ap (λ streams. record before { streams = streams }) step.1;
      shaped = shapes done.shaped;
    }

-- of the number 0, which no stream has, there is none to take
pub take_nothing : (before store : StoreView) (ns : List ℕ) (n high : ℕ) (images : Images) → IsNumbered 0 before.streams high → n ≡ 0
    → IsTaken before ns images store → IsTaken before (named ns n) images store
take_nothing before store ns n high images rising zero done =
    let numbered : IsNumbered 0 store.streams high =
    subst (λ v. IsNumbered 0 v.streams high) (sym done.left) (numbered_latch ns 0 high before.streams rising) in
    let none : stream_at n store.streams ≡ None = stream_below 0 high n store.streams numbered (omega (arith, zero)) in
    let same : change_stream n latched store.streams ≡ store.streams =
    change_below 0 high n latched store.streams numbered (omega (arith, zero)) in
    take_step before store store ns n high images images rising done
    (elim (is_some (image_of n images)) as (λ b. images
    ≡ cond b images (images ++ map with_number (option_to_list (next_image_of (stream_at n store.streams))))) [
      | true ↦ refl
      | false ↦ rw none (sym (append-nil images))
    ])
    (elim (is_some (image_of n images)) as (λ b. store
    ≡ record store { streams = cond b store.streams (change_stream n latched store.streams) }) [
      | true ↦ refl
      | false ↦ rw same refl
    ])
    (λ shaped. shaped)
  where
    with_number : Bitmap → ℕ × Bitmap
    with_number image = (n, image)

-- one image more at most
few_more : (n : ℕ) (streams : List KeptStream) (images : Images) → length (with_next_image n streams images) ≤ length images + 1
few_more n streams images =
    elim (is_some (image_of n images)) as (λ b. length
    (cond b images (images ++ map with_number (option_to_list (next_image_of (stream_at n streams))))) ≤ length images + 1) [
      | true ↦ omega arith
      | false ↦ of_next_image (next_image_of (stream_at n streams))
    ]
  where
    with_number : Bitmap → ℕ × Bitmap
    with_number image = (n, image)

    of_next_image : (o : Option Bitmap) → length (images ++ map with_number (option_to_list o)) ≤ length images + 1
    of_next_image None = omega (arith, length-append images [])
    of_next_image (Some image) = omega (arith, length-append images ((n, image) ∷ []))

pub few_step : (n : ℕ) (streams : List KeptStream) (images more : Images) → more ≡ with_next_image n streams images
    → length more ≤ length images + 1
few_step n streams images more is = omega (arith, ap length is, few_more n streams images)

-- the names of one more layer
pub names_more : (i : ℕ) (layers : List Layer) (d : Layer) → i < length layers
    → once (flat_map layer_names (take (i + 1) layers))
    ≡ named (named (once (flat_map layer_names (take i layers))) (get_or layers i d).stream) (get_or layers i d).mask
names_more i layers d within =
    let l = get_or layers i d in
    let before = flat_map layer_names (take i layers) in
    ap (λ ls. once (flat_map layer_names ls)) (take_more layers i d within)
    ∙ ap once (flat_map-append layer_names (take i layers) (l ∷ []) ∙ sym (append_assoc before (l.stream ∷ []) (l.mask ∷ [])))
    ∙ once_more (before ++ l.stream ∷ []) l.mask
    ∙ ap (λ ns. named ns l.mask) (once_more before l.stream)
