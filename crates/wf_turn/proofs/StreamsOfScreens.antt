-- What each call keeps of the streams of the ports' screens: they have no handle, their write buffers are out only while
-- a frame draws into them, at most one image waits in each, and the image that a frame takes of each was composed.
use Rattle.wf_turn.proofs.Common.{◌≡◌, ℕ, Bool, true, false, not, cond, ◌&&◌, ◌||◌, ◌==◌, List, [], ◌∷◌, map, Option, Some, None, refl, sym}
use Rattle.wf_turn.proofs.Common.{subst, arith, nat_le, IfSome, and_parts, eq-eqb, eqb-true, nat_tests, is_in, Bitmap, image_of, Buffers}
use Rattle.std.specs.Prelude.{drop}
use Rattle.wf_turn.proofs.Common.{acquired, KeptStream, stream_at, stream_of, Job, JobKind, home_if, is_target, next_images, next_image_of}
use Rattle.wf_turn.proofs.Common.{running_of, same_kind, scene_streams, Images, Running, State, AllByRecursion, each_mapped}
use Rattle.wf_stream.specs.Buffers.{ReadBuffer, latched, next_image, posted, taken_of}
use Rattle.wf_stream.specs.Buffers.ReadBuffer.{away, home, never}
use Rattle.wf_stream.specs.Streams.{change_stream, unnamed, has_number}
use Rattle.wf_calls.specs.declared.call.JobKind.TheVariants as kind
use Rattle.wf_model.specs.Frames.{delivered, drawing, latched_among}
use Rattle.wf_model.specs.Frames.{with_job}
use Rattle.wf_model.specs.Names.{target_names}
use Rattle.wf_model.specs.Composing.{composed}
use Rattle.wf_words.specs.Each.{each_found, each_other}
use Rattle.wf_words.specs.Found.{passes}

-- the streams up to a number are screens; of images, which were composed for which stream
module _ (n : ℕ) (Composed : ℕ → Bitmap → Type 0) where
  -- while a frame runs, or none
  pub record IsScreen (frame : Option Running) (s : KeptStream) : Type 0 where
    pub bare : s.handle ≡ 0
    pub drawn : s.buffers.out ≡ true → is_target s.number frame ≡ true
    pub plain : s.buffers.depth ≡ 0
    pub single : drop 1 s.buffers.waiting ≡ []
    pub image : IfSome (next_image s.buffers) (Composed s.number)

  abbrev pub Fine : Option Running → KeptStream → Type 0
  Fine frame s = nat_le s.number n ≡ true → IsScreen frame s

  abbrev pub AreFine : Option Running → List KeptStream → Type 0
  AreFine frame ss = AllByRecursion (Fine frame) ss

  -- the stream of a number
  pub at_number : (f : Option Running) (k : ℕ) (ss : List KeptStream) (s : KeptStream) → AreFine f ss → stream_at k ss ≡ Some s
      → Fine f s × (s.number ≡ k)
  at_number f k ss s are at = (each_found (Fine f) (λ t. t.number == k) ss s are at, has_number k ss s at)

  -- the stream of a handle is no screen
  pub of_handle : (f : Option Running) (handle : ℕ) (ss : List KeptStream) (s : KeptStream) → AreFine f ss
      → stream_of handle ss ≡ Some s → nat_le s.number n ≡ false
  of_handle f handle ss s are at = of_range (nat_le s.number n) refl
    where
      fine : Fine f s
      fine = each_found (Fine f) (λ t. (t.handle == handle) && not (handle == 0)) ss s are at

      own : ((s.handle == handle) && not (handle == 0)) ≡ true
      own = passes (λ t. (t.handle == handle) && not (handle == 0)) ss s at

      of_range : (b : Bool) → nat_le s.number n ≡ b → nat_le s.number n ≡ false
      of_range false is = is
      of_range true is = absurd (grind (arith, nat_tests, own, (fine is).bare))

  other : (k : ℕ) (g : Buffers → Buffers) → nat_le k n ≡ false → (f : Option Running) (s : KeptStream) → Fine f s
      → Fine f (cond (s.number == k) (record s { buffers = g s.buffers }) s)
  other k g out f s fine =
      elim (s.number == k) as (λ b. (s.number == k) ≡ b → Fine f (cond b (record s { buffers = g s.buffers }) s)) [
        | true ↦ λ here screen. absurd (let no : nat_le k n
            ≡ true = subst (λ x. nat_le x n ≡ true) (eqb-true s.number k here) screen in cc)
        | false ↦ λ apart. fine
      ] refl

  pub others_change : (k : ℕ) (g : Buffers → Buffers) → nat_le k n ≡ false → (f : Option Running) (ss : List KeptStream) → AreFine f ss
      → AreFine f (change_stream k g ss)
  others_change k g out f ss are = each_mapped (Fine f) (Fine f) (λ s. cond (s.number == k) (record s { buffers = g s.buffers }) s)
      (other k g out f) ss are

  pub unnamed_fine : (handle : ℕ) (f : Option Running) (ss : List KeptStream) → AreFine f ss → AreFine f (map (unnamed handle) ss)
  unnamed_fine handle f ss are = each_mapped (Fine f) (Fine f) (unnamed handle) one ss are
    where
      one : (s : KeptStream) → Fine f s → Fine f (unnamed handle s)
      one s fine =
          elim (s.handle == handle) as (λ b. Fine f (cond b (record s { handle = 0 }) s)) [
            | true ↦ λ screen. (let is = fine screen in
                record { bare = refl; drawn = is.drawn; plain = is.plain; single = is.single; image = is.image })
            | false ↦ fine
          ]

  -- a frame begins

  latched_screen : (f : Option Running) (s : KeptStream) → IsScreen f s → IsScreen f (record s { buffers = latched s.buffers })
  latched_screen f s is = of_waiting s.buffers.waiting refl is.single
    where
      After : Type 0
      After = IsScreen f (record s { buffers = latched s.buffers })

      of_read : s.buffers.waiting ≡ [] → (r : ReadBuffer) → s.buffers.read ≡ r → After
      of_read none never at = rw (none, at) (record { bare = is.bare; drawn = is.drawn; plain = is.plain; single = refl; image = tt })
      of_read none away at = rw (none, at) (record { bare = is.bare; drawn = is.drawn; plain = is.plain; single = refl; image = tt })
      of_read none (home image) at =
          rw (none, at) (record { bare = is.bare; drawn = is.drawn; plain = is.plain; single = refl; image = tt })

      of_waiting : (xs : List Bitmap) → s.buffers.waiting ≡ xs → drop 1 s.buffers.waiting ≡ [] → After
      of_waiting [] none one = of_read none s.buffers.read refl
      of_waiting (image ∷ []) at one =
          rw at (record { bare = is.bare; drawn = is.drawn; plain = is.plain; single = refl; image = tt })
      of_waiting (image ∷ other ∷ rest) at one = absurd (let no : other ∷ rest ≡ [] = rw at at one in cc)

  latched_fine : (f : Option Running) (ns : List ℕ) (s : KeptStream) → Fine f s → Fine f (latched_among ns s)
  latched_fine f ns s fine = elim (is_in s.number ns)
      as (λ b. Fine f (cond b (record s { buffers = latched s.buffers }) s)) [
        | true ↦ λ screen. latched_screen f s
            (fine screen)
        | false ↦ fine
      ]

  -- no screen's write buffer is out while no frame runs
  switched : (g : Option Running) (s : KeptStream) → Fine None s → Fine g s
  switched g s fine screen = (let is = fine screen in
      record {
        bare = is.bare;
        drawn = λ out. absurd (let no : false ≡ true = is.drawn out in cc);
        plain = is.plain;
        single = is.single;
        image = is.image;
      })

  -- the target of the frame that begins
  drawn_fine : (handle target : ℕ) (r : Running) → r.kind ≡ kind.Context handle target → (s : KeptStream) → Fine None s
      → Fine (Some r) (cond (s.number == target) (record s { buffers = acquired s.buffers }) s)
  drawn_fine handle target r runs s fine =
      elim (s.number == target) as (λ b. (s.number == target) ≡ b → Fine (Some r) (cond b (record s { buffers = acquired s.buffers }) s)) [
        | true ↦ λ here screen. (
            let is = fine screen in
            record {
              bare = is.bare;
              drawn = λ out. rw (runs, eq-eqb target s.number (sym (eqb-true s.number target here))) refl;
              plain = is.plain;
              single = is.single;
              image = is.image;
            })
        | false ↦ λ apart. switched (Some r) s fine
      ] refl

  drawing_fine : (k : JobKind) (r : Running) → r.kind ≡ k → (ss : List KeptStream) → AreFine None ss → AreFine (Some r) (drawing k ss)
  drawing_fine (kind.Context handle target) r runs ss are =
      each_mapped (Fine None) (Fine (Some r)) (λ s. cond (s.number == target) (record s { buffers = acquired s.buffers }) s)
      (drawn_fine handle target r runs) ss are
  drawing_fine (kind.Port p) r runs ss are = each_other (Fine None) (Fine (Some r)) (switched (Some r)) ss are

  pub begun_fine : (job : Job) (h : State) → h.frame ≡ None → AreFine h.frame h.streams
      → AreFine (with_job job h).frame (with_job job h).streams
  begun_fine job h free are =
      let now : AreFine None h.streams = rw free at are in
      drawing_fine job.kind (running_of job) refl (map (latched_among (scene_streams job.scene)) h.streams)
      (each_mapped (Fine None) (Fine None) (latched_among (scene_streams job.scene)) (latched_fine None (scene_streams job.scene))
      h.streams now)

  -- images that are away

  -- each image of a screen was composed
  abbrev pub AreHome : Images → Type 0
  AreHome xs = AllByRecursion (λ x. nat_le x.0 n ≡ true → Composed x.0 x.1) xs

  -- so the image that a frame takes of each screen was
  pub screen_composed : (f : Option Running) (k : ℕ) (ss : List KeptStream) (image : Bitmap) → AreFine f ss → nat_le k n ≡ true
      → next_image_of (stream_at k ss) ≡ Some image → Composed k image
  screen_composed f k ss image are screen has = of_stream (stream_at k ss) refl
    where
      of_stream : (o : Option KeptStream) → stream_at k ss ≡ o → Composed k image
      of_stream None at = absurd (let no : None ≡ Some image = rw at at has in cc)
      of_stream (Some s) at =
          let own = at_number f k ss s are at in
          let next_image_is : next_image s.buffers ≡ Some image = rw at at has in
          let is = own.0 (subst (λ x. nat_le x n ≡ true) (sym own.1) screen) in
          subst (λ x. Composed x image) own.1 (subst (λ o. IfSome o (Composed s.number)) next_image_is is.image)

  pub next_image_home : (f : Option Running) (ns : List ℕ) (ss : List KeptStream) → AreFine f ss → AreHome (next_images ns ss)
  next_image_home f [] ss are = tt
  next_image_home f (k ∷ ns) ss are = of_next_image (next_image_home f ns ss are) (next_image_of (stream_at k ss)) refl
    where
      of_next_image : AreHome (next_images ns ss) → (o : Option Bitmap) → next_image_of (stream_at k ss) ≡ o
          → AreHome (next_images (k ∷ ns) ss)
      of_next_image rest None is = rw is rest
      of_next_image rest (Some image) is = rw is (λ screen. screen_composed f k ss image are screen is, rest)

  home_composed : (xs : Images) (k : ℕ) (image : Bitmap) → AreHome xs → nat_le k n ≡ true → image_of k xs ≡ Some image → Composed k image
  home_composed [] k image are screen has = absurd cc
  home_composed (x ∷ xs) k image are screen has =
      elim (x.0 == k) as (λ b. (x.0 == k) ≡ b → Composed k image) [
        | true ↦ λ here. (
            let same : x.1 ≡ image = (let is : Some x.1 ≡ Some image = rw here at has in cc) in
            let number : x.0 ≡ k = eqb-true x.0 k here in
            subst (λ i. Composed k i) same (subst (λ m. Composed m x.1) number
            (are.0 (subst (λ m. nat_le m n ≡ true) (sym number) screen))))
        | false ↦ λ apart. home_composed xs k image are.1 screen (rw apart at has)
      ] refl

  -- a frame ends

  pub home_fine : (f : Option Running) (contents : Images) → AreHome contents → (s : KeptStream) → Fine f s
      → Fine f (home_if (image_of s.number contents) s)
  home_fine f contents are s fine = of_image (image_of s.number contents) refl
    where
      of_image : (o : Option Bitmap) → image_of s.number contents ≡ o → Fine f (home_if o s)
      of_image None has = fine
      of_image (Some image) has = λ screen. (let is = fine screen in
          record {
            bare = is.bare;
            drawn = is.drawn;
            plain = is.plain;
            single = is.single;
            image = of_waiting screen s.buffers.waiting refl is.image;
          })
        where
          of_waiting : nat_le s.number n ≡ true → (xs : List Bitmap) → s.buffers.waiting ≡ xs
              → IfSome (next_image s.buffers) (Composed s.number) → IfSome (taken_of s.buffers.waiting (home image)) (Composed s.number)
          of_waiting screen [] none was = rw none (home_composed contents s.number image are screen has)
          of_waiting screen (own ∷ rest) at was = rw at (rw at at was)

-- from what was composed before to what is composed after: of all streams, or of all but the one that a frame drew into
module _ (n : ℕ) (Before After : ℕ → Bitmap → Type 0) where
  pub screen_stays : (f : Option Running) (s : KeptStream) → ((image : Bitmap) → Before s.number image → After s.number image)
      → IsScreen n Before f s → IsScreen n After f s
  screen_stays f s stay is =
      record {
        bare = is.bare;
        drawn = is.drawn;
        plain = is.plain;
        single = is.single;
        image = of_next_image (next_image s.buffers) is.image;
      }
    where
      of_next_image : (o : Option Bitmap) → IfSome o (Before s.number) → IfSome o (After s.number)
      of_next_image None was = tt
      of_next_image (Some image) was = stay image was

  pub screens_stay : (f : Option Running) (ss : List KeptStream) → ((k : ℕ) (image : Bitmap) → Before k image → After k image)
      → AreFine n Before f ss → AreFine n After f ss
  screens_stay f ss stay are =
      each_other (Fine n Before f) (Fine n After f) (λ s fine screen. screen_stays f s (stay s.number) (fine screen)) ss are

  pub home_stays : (xs : Images) → ((k : ℕ) (image : Bitmap) → Before k image → After k image) → AreHome n Before xs → AreHome n After xs
  home_stays xs stay are = each_other (λ x. nat_le x.0 n ≡ true → Before x.0 x.1) (λ x. nat_le x.0 n ≡ true → After x.0 x.1)
      (λ x was screen. stay x.0 x.1 (was screen)) xs are

  -- what a frame draws into is composed after it
  abbrev pub IsDelivered : JobKind → Bitmap → Type 0
  IsDelivered (kind.Context handle target) image = nat_le target n ≡ true → After target image
  IsDelivered (kind.Port p) image = Unit {0}

  -- and all else stays composed
  abbrev pub Others : JobKind → Type 0
  Others k = (m : ℕ) (image : Bitmap) → is_in m (target_names k) ≡ false → Before m image → After m image

  -- no write buffer of a screen is out when the frame that drew into it has ended
  target_fine : (handle target : ℕ) (image : Bitmap) (r : Running) → same_kind (kind.Context handle target) r.kind ≡ true
      → IsDelivered (kind.Context handle target) image → Others (kind.Context handle target) → (s : KeptStream) → Fine n Before (Some r) s
      → Fine n After None (cond (s.number == target) (record s { buffers = posted image s.buffers }) s)
  target_fine handle target image r same composed others s fine =
      elim (s.number == target)
      as (λ b. (s.number == target) ≡ b → Fine n After None (cond b (record s { buffers = posted image s.buffers }) s)) [
        | true ↦ λ here screen. (
            let is = fine screen in
            let number : s.number ≡ target = eqb-true s.number target here in
            record {
              bare = is.bare;
              drawn = λ out. absurd (let no : false ≡ true = out in cc);
              plain = is.plain;
              single = rw is.plain refl;
              image = rw is.plain (subst (λ m. After m image) (sym number) (composed (subst (λ m. nat_le m n ≡ true) number screen)));
            })
        | false ↦ λ apart screen. (
            let is = fine screen in
            let other : is_in s.number (target ∷ []) ≡ false = grind (arith, nat_tests, apart) in
            let stays = screen_stays (Some r) s (λ i. others s.number i other) is in
            record {
              bare = is.bare;
              drawn = λ out. absurd (of_kind r.kind refl apart (is.drawn out));
              plain = is.plain;
              single = is.single;
              image = stays.image;
            })
      ] refl
    where
      of_kind : (k : JobKind) → r.kind ≡ k → (s.number == target) ≡ false → is_target s.number (Some r) ≡ true → ⊥
      of_kind (kind.Port p) runs apart draws = (let no : false ≡ true = rw runs at draws in cc)
      of_kind (kind.Context other into) runs apart draws =
          let both : ((handle == other) && (target == into)) ≡ true = rw runs at same in
          let number : target ≡ into = eqb-true target into (and_parts (handle == other) (target == into) both).1 in
          let here : ((into == s.number) || false) ≡ true = rw runs at draws in
          (let no : into ≡ s.number = grind (arith, nat_tests, here) in grind (arith, nat_tests, apart, no, number))

  pub ended_fine : (k : JobKind) (image : Bitmap) (r : Running) → same_kind k r.kind ≡ true → IsDelivered k image → Others k
      → (ss : List KeptStream) → AreFine n Before (Some r) ss → AreFine n After None (delivered k image ss)
  ended_fine (kind.Context handle target) image r same composed others ss are =
      each_mapped (Fine n Before (Some r)) (Fine n After None)
      (λ s. cond (s.number == target) (record s { buffers = posted image s.buffers }) s)
      (target_fine handle target image r same composed others) ss are
  ended_fine (kind.Port p) image r same composed others ss are =
      each_other (Fine n Before (Some r)) (Fine n After None) (λ s fine screen. (
      let is = fine screen in
      let stays = screen_stays (Some r) s (λ i. others s.number i refl) is in
      record {
        bare = is.bare;
        drawn = λ out. absurd (of_kind s r.kind refl (is.drawn out));
        plain = is.plain;
        single = is.single;
        image = stays.image;
      })) ss are
    where
      of_kind : (s : KeptStream) (k : JobKind) → r.kind ≡ k → is_target s.number (Some r) ≡ true → ⊥
      of_kind s (kind.Port q) runs draws = (let no : false ≡ true = rw runs at draws in cc)
      of_kind s (kind.Context other into) runs draws = (let no : false ≡ true = rw runs at same in cc)
