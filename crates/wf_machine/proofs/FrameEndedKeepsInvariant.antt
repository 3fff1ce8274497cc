-- The machine once its frame has ended.
use Rattle.wf_machine.proofs.Common.{◌≡◌, ℕ, ◌+◌, ◌-◌, true, cond, ◌==◌, List, [], ◌∷◌, length, map, Option, Some, None, refl}
use Rattle.wf_machine.proofs.Common.{sym, ap, subst, ◌∙◌, arith, slice_get, list_all, option_map, IfSome, IsSomeAnd, and_parts}
use Rattle.wf_machine.proofs.Common.{eqb-true, length-map, nth, Size, Rgba8Pre, same_format, same_size, Bitmap, image_of, Buffers}
use Rattle.wf_machine.proofs.Common.{HasShape, away}
use Rattle.wf_machine.proofs.Common.{posted, KeptStream, StoreView, IsNumbered, buffers_at, held, stream_at, Job, JobKind, Reply}
use Rattle.wf_machine.proofs.Common.{Content, DisplayState, Running, State, brought_home, delivered, end, has_shape, home_if}
use Rattle.wf_machine.proofs.Common.{is_of_frame, CoreState, bare, done, Images, Frame, Inside, AllFit, AreOnce, FrameFits, IsDue, IsOfMode}
use Rattle.wf_machine.proofs.Common.{IsOfTarget, IsRead, KindFits, PortsFit, StreamFits, away_of, content_at, contents_of}
use Rattle.wf_machine.proofs.Common.{is_of_running, Holds, state_of, AreAwaited, Awaits, HoldsBut, running_of, sizes_of}
use Rattle.wf_machine.proofs.Common.{by_number, false, modes_of}
use Rattle.wf_calls.specs.Replies.{gives_back_job}
use Rattle.wf_calls.specs.declared.call.JobKind.TheVariants as kind
use Rattle.wf_model.specs.Frames.{end_frame, same_kind}
use Rattle.wf_machine.specs.declared.port.Port as declared
use Rattle.wf_machine.proofs.BufferCalls.{format_is, size_is}
use Rattle.wf_machine.proofs.FrameBegunKeepsInvariant.{seen_twice}
use Rattle.wf_machine.proofs.ImageOfRunningFrame.{frame_home}
use Rattle.wf_machine.proofs.StreamsLatched.{KeepsShape}
use Rattle.wf_machine.proofs.StreamsMapped.{bytes_mapped, changed_at, changed_keeps, home_among, home_keeps, numbered_mapped}
use Rattle.wf_machine.proofs.StreamsMapped.{seen_mapped}
use Rattle.wf_machine.proofs.Shapes.{AreOf, Apart, IsOfShape, all_of, none_there}
use Rattle.wf_machine.proofs.StreamsStillFit.{all_kept, posted_keeps, shape_kept}
use Rattle.wf_machine.proofs.PortFrames.{at_place}
use Rattle.wf_model.specs.Named.{SeenSame}
use Rattle.wf_objects.specs.Named.{still_fits}
use Rattle.wf_display.specs.Named.{still_shown, zero_unseen}

-- what a Job shares with the running frame that it is of
pub record IsEnd (job : Job) (f : Running) : Type 0 where
  pub kind_is : same_kind job.kind f.kind ≡ true
  pub size : same_size job.image.size f.size ≡ true
  pub format : same_format job.image.format f.format ≡ true
  pub many : length job.contents ≡ length f.contents
  pub there : list_all (λ c. has_shape (image_of c.stream job.contents) c) f.contents ≡ true

pub end_parts : (job : Job) (f : Running) → is_of_frame job f ≡ true → IsEnd job f
end_parts job f is =
    let sixth = and_parts _ _ is in
    let fifth = and_parts _ _ sixth.0 in
    let fourth = and_parts _ _ fifth.0 in
    let third = and_parts _ _ fourth.0 in
    let second = and_parts _ _ third.0 in
    record { kind_is = second.1; size = third.1; format = fourth.1; many = eqb-true _ _ fifth.1; there = sixth.1 }

-- the image of a stream's content comes home
awaits_one : (cs : List Content) (streams : List KeptStream) (p : ℕ × Bitmap) → AllFit cs streams
    → IsSomeAnd (content_at p.0 cs) (λ c. IsOfShape c p.1) → Awaits streams p
awaits_one cs [] p fit of = tt
awaits_one cs (s ∷ streams) p fit of =
    by_number (IfSome (option_map (λ t. t.buffers) (cond (s.number == p.0) (Some s) (stream_at p.0 streams)))
    (λ b. (b.read ≡ away) × HasShape b.size b.format p.1)) s.number p.0
    (λ here same. rw here (of_content (content_at p.0 cs) (subst (λ k. IsRead s.buffers (content_at k cs)) same fit.0.read) of))
    (λ apart. rw apart (awaits_one cs streams p fit.1 of))
  where
    of_content : (o : Option Content) → IsRead s.buffers o → IsSomeAnd o (λ c. IsOfShape c p.1) → (s.buffers.read ≡ away)
        × HasShape s.buffers.size s.buffers.format p.1
    of_content None read of = absurd of
    of_content (Some c) read of =
        let parts = and_parts (same_size p.1.size c.size) (same_format p.1.format c.format) of in (
          read.0,
          record {
            size_is = size_is p.1.size c.size parts.0 ∙ sym read.1;
            format_is = format_is p.1.format c.format parts.1 ∙ sym read.2;
          },
        )

all_await : (cs : List Content) (streams : List KeptStream) (xs : Images) → AllFit cs streams → AreOf cs xs → Apart xs
    → AreAwaited streams xs
all_await cs streams [] fit are apart = tt
all_await cs streams (p ∷ xs) fit are apart = (awaits_one cs streams p fit are.0, apart.0, all_await cs streams xs fit are.1 apart.1)

-- all streams fit once the images are home and no frame runs
all_back : (cs : List Content) (streams : List KeptStream) (xs : Images)
    → list_all (λ c. has_shape (image_of c.stream xs) c) cs ≡ true → AllFit cs streams → AllFit [] (brought_home xs streams)
all_back cs [] xs there fit = tt
all_back cs (s ∷ streams) xs there fit = (of_image (image_of s.number xs) refl, all_back cs streams xs there fit.1)
  where
    of_image : (o : Option Bitmap) → image_of s.number xs ≡ o → StreamFits [] (home_if (image_of s.number xs) s)
    of_image None is =
        let none = none_there s.number cs xs there is in
        rw is (record {
          sides = fit.0.sides;
          read = subst (λ o. IsRead s.buffers o) none fit.0.read;
        })
    of_image (Some image) is =
        rw is (record {
          sides = fit.0.sides;
          read = λ h. absurd cc;
        })

-- the streams that got what a frame drew

delivered_keeps : (image : Bitmap) → KeepsShape (posted image)
delivered_keeps image = shape_kept (posted image) (posted_keeps image)

delivered_numbered : (k : JobKind) (image : Bitmap) (high : ℕ) (ss : List KeptStream) → IsNumbered 0 ss high
    → IsNumbered 0 (delivered k image ss) high
delivered_numbered (kind.Context handle target) image high ss rising =
    numbered_mapped (changed_at target (posted image)) (changed_keeps target (posted image) (delivered_keeps image)) 0 high ss rising
delivered_numbered (kind.Port port) image high ss rising = rising

delivered_bytes : (k : JobKind) (image : Bitmap) (ss : List KeptStream) → (held (delivered k image ss)).bytes ≡ (held ss).bytes
delivered_bytes (kind.Context handle target) image ss =
    bytes_mapped (changed_at target (posted image)) (changed_keeps target (posted image) (delivered_keeps image)) ss
delivered_bytes (kind.Port port) image ss = refl

delivered_fit : (k : JobKind) (image : Bitmap) (cs : List Content) (ss : List KeptStream) → AllFit cs ss
    → AllFit cs (delivered k image ss)
delivered_fit (kind.Context handle target) image cs ss fit = all_kept (posted image) target cs ss (posted_keeps image) fit
delivered_fit (kind.Port port) image cs ss fit = fit

delivered_seen : (k : JobKind) (image : Bitmap) (n : ℕ) (ss : List KeptStream)
    → SeenSame (buffers_at n ss) (buffers_at n (delivered k image ss))
delivered_seen (kind.Context handle target) image n ss =
    seen_mapped (changed_at target (posted image)) (changed_keeps target (posted image) (delivered_keeps image)) n ss
delivered_seen (kind.Port port) image n ss = λ b found. (b, found, refl, refl)

ended_seen : (k : JobKind) (image : Bitmap) (xs : Images) (n : ℕ) (ss : List KeptStream)
    → SeenSame (buffers_at n ss) (buffers_at n (delivered k image (brought_home xs ss)))
ended_seen k image xs n ss =
    seen_twice (buffers_at n ss) (buffers_at n (brought_home xs ss)) (buffers_at n (delivered k image (brought_home xs ss)))
    (seen_mapped (home_among xs) (home_keeps xs) n ss) (delivered_seen k image n (brought_home xs ss))

-- the frame that ends is the one that runs
pub running_frame : (m : Inside) (job : Job) → is_of_running job (option_map running_of m.frame) ≡ true → (f : Frame) × (m.frame ≡ Some f)
    × (is_of_frame job (running_of f) ≡ true)
running_frame m job is = of_frame m.frame refl is
  where
    of_frame : (o : Option Frame) → m.frame ≡ o → is_of_running job (option_map running_of o) ≡ true → (f : Frame) × (m.frame ≡ Some f)
        × (is_of_frame job (running_of f) ≡ true)
    of_frame None free of = absurd cc
    of_frame (Some f) runs of = (f, runs, of)

pub was_running : (m : Inside) (job : Job) (s : State) → state_of m ≡ s → is_of_running job s.frame ≡ true
    → is_of_running job (option_map running_of m.frame) ≡ true
was_running m job s seen is = ap (λ t. is_of_running job t.frame) seen ∙ is

-- any other Job comes back
pub stays_running : (job : Job) (h : State) (r : Reply) → is_of_running job h.frame ≡ false → r ≡ gives_back_job job
    → end job h ≡ (h, r)
stays_running job h r other is = of_frame h.frame refl other ∙ ap (λ x. (h, x)) (sym is)
  where
    of_frame : (o : Option Running) → h.frame ≡ o → is_of_running job o ≡ false → end job h ≡ (h, gives_back_job job)
    of_frame None free not_of = rw free refl
    of_frame (Some f) runs not_of = rw (runs, not_of) refl

-- no frame runs that a Job is of
pub none_of : (m : Inside) (job : Job) → m.frame ≡ None → is_of_running job (option_map running_of m.frame) ≡ true → ⊥
none_of m job free is =
    absurd (let no : false ≡ true = sym (ap (λ o. is_of_running job (option_map running_of o)) free) ∙ is in cc)

-- the kinds of a Job and of its frame are one
same_kind_is : (j k : JobKind) → same_kind j k ≡ true → k ≡ j
same_kind_is (kind.Context handle target) (kind.Context other into) is =
    let both = and_parts (handle == other) (target == into) is in
    ap (λ n. kind.Context n into) (sym (eqb-true handle other both.0))
    ∙ ap (λ n. kind.Context handle n) (sym (eqb-true target into both.1))
same_kind_is (kind.Port p) (kind.Port q) is = ap (λ n. kind.Port n) (sym (eqb-true p q is))
same_kind_is (kind.Context handle target) (kind.Port q) is = absurd cc
same_kind_is (kind.Port p) (kind.Context other into) is = absurd cc

-- a context's frame has no image of a port away
none_away : (f : Frame) (handle target : ℕ) → f.kind ≡ kind.Context handle target → (k : ℕ) (ps : List declared.Port)
    → PortsFit (Some f) k ps → PortsFit None k ps
none_away f handle target is k [] fit = tt
none_away f handle target is k (p ∷ ps) fit =
    let none : away_of (Some f) k ≡ 0 = rw is refl in (
      record {
        sides = fit.0.sides;
        images = subst (λ n. HoldsBut n p.modes.items p.images.items) none fit.0.images;
      },
      none_away f handle target is (k + 1) ps fit.1,
    )

module _ (m : Inside) (job : Job) (is : is_of_running job (option_map running_of m.frame) ≡ true) (sound : Holds m) where
  abbrev f : Frame
  f = (running_frame m job is).0

  runs : m.frame ≡ Some f
  runs = (running_frame m job is).1

  parts : IsEnd job (running_of f)
  parts = end_parts job (running_of f) (running_frame m job is).2

  abbrev modes : List (List Size)
  modes = map sizes_of m.ports.items

  contents_are : contents_of (option_map running_of m.frame) ≡ f.contents.items
  contents_are = ap (λ o. contents_of (option_map running_of o)) runs

  fit : AllFit f.contents.items m.store.streams
  fit = subst (λ cs. AllFit cs m.store.streams) contents_are sound.streams

  of-frame : AreOf f.contents.items job.contents × Apart job.contents
  of-frame = all_of f.contents.items job.contents (subst AreOnce contents_are sound.once) parts.many parts.there

  pub ending_awaited : AreAwaited m.store.streams job.contents
  ending_awaited = all_await f.contents.items m.store.streams job.contents fit of-frame.0 of-frame.1

  kind_is : f.kind ≡ job.kind
  kind_is = same_kind_is job.kind f.kind parts.kind_is

  abbrev home : List KeptStream
  home = brought_home job.contents m.store.streams

  -- the frame draws into the image that comes, as it did when it ran
  fits_home : KindFits modes f.mode home f.size f.format job.kind
  fits_home =
      let runs_so : IfSome (Some f) (FrameFits modes m.store.streams) =
      subst (λ o. IfSome o (FrameFits modes m.store.streams)) runs sound.frame in
      subst (λ k. KindFits modes f.mode home f.size f.format k) kind_is
      (frame_home job.contents modes m.store.streams (Some f) runs_so)

  -- the frame that ran
  same_frame : (g : Frame) → m.frame ≡ Some g → f ≡ g
  same_frame g ran = (let same : Some f ≡ Some g = sym runs ∙ ran in cc)

  pub ran_kind : (g : Frame) → m.frame ≡ Some g → g.kind ≡ job.kind
  ran_kind g ran = subst (λ x. x.kind ≡ job.kind) (same_frame g ran) kind_is

  pub ran_fits : (g : Frame) → m.frame ≡ Some g
      → KindFits modes g.mode (brought_home job.contents m.store.streams) g.size g.format job.kind
  ran_fits g ran =
      subst (λ x. KindFits modes x.mode (brought_home job.contents m.store.streams) x.size x.format job.kind) (same_frame g ran) fits_home

  ports_fit : PortsFit (Some f) 1 m.ports.items
  ports_fit = subst (λ o. PortsFit o 1 m.ports.items) runs sound.ports

  image_size : job.image.size ≡ f.size
  image_size = size_is job.image.size f.size parts.size

  image_format : job.image.format ≡ f.format
  image_format = format_is job.image.format f.format parts.format

  -- the write buffer of a context's target
  due_target : (handle target : ℕ) → f.kind ≡ kind.Context handle target → IsOfTarget (buffers_at target home) f.size f.format
      → IsDue home m.ports.items f.mode (kind.Context handle target) job.image
  due_target handle target is fits = (
    of_buffers (buffers_at target home) fits,
    none_away f handle target is 1 m.ports.items ports_fit,
  )
    where
      of_buffers : (o : Option Buffers) → IsOfTarget o f.size f.format → IfSome o (λ b. (b.out ≡ true) × HasShape b.size b.format job.image)
      of_buffers None fits = tt
      of_buffers (Some b) fits = (fits.0, record { size_is = image_size ∙ fits.1; format_is = image_format ∙ fits.2 })

  -- the image of a port
  due_port : (port : ℕ) → f.kind ≡ kind.Port port → IsSomeAnd (nth port modes) (IsOfMode f.mode f.size) × (f.format ≡ Rgba8Pre)
      → IsDue home m.ports.items f.mode (kind.Port port) job.image
  due_port port is fits =
      let found = at_place port modes (IsOfMode f.mode f.size) fits.0 in
      let back : port ≡ port - 1 + 1 = omega (arith, found.0) in (
        found.0,
        omega (arith, found.1, length-map m.ports.items sizes_of),
        (f, is ∙ ap (λ n. kind.Port n) back, refl, ports_fit),
        of_place (slice_get modes (port - 1)) found.2,
      )
    where
      of_place : (o : Option (List Size)) → IsSomeAnd o (IsOfMode f.mode f.size)
          → IfSome o (λ sizes. IsOfMode f.mode job.image.size sizes × (job.image.format ≡ Rgba8Pre))
      of_place None shape = tt
      of_place (Some sizes) shape =
          (record { some = shape.some; within = shape.within; size_is = image_size ∙ shape.size_is }, image_format ∙ fits.1)

  pub ending_due : (g : Frame) → m.frame ≡ Some g → IsDue home m.ports.items g.mode job.kind job.image
  ending_due g ran = subst (λ x. IsDue home m.ports.items x.mode job.kind job.image) (same_frame g ran) (of_kind job.kind kind_is fits_home)
    where
      of_kind : (k : JobKind) → f.kind ≡ k → KindFits modes f.mode home f.size f.format k → IsDue home m.ports.items f.mode k job.image
      of_kind (kind.Context handle target) is fits = due_target handle target is fits
      of_kind (kind.Port port) is fits = due_port port is fits

  -- the machine that is left
  module _ (left : StoreView) (lent : List declared.Port) (reply : Reply) where
    pub record HasEnded : Type 0 where
      pub store : left ≡ record m.store { streams = delivered job.kind job.image home }
      pub modes : map sizes_of lent ≡ modes
      pub fit : PortsFit None 1 lent
      pub reply_is : reply ≡ bare (done 0)

    module _ (now : Inside) (store-is : now.store ≡ left) (ports-are : now.ports.items ≡ lent) (core-is : now.core ≡ m.core)
        (display-is : now.display ≡ m.display) (begun-is : now.begun ≡ m.begun) (free : now.frame ≡ None) (ended : HasEnded) where
      abbrev after : List KeptStream
      after = delivered job.kind job.image home

      now_store : now.store ≡ record m.store { streams = after }
      now_store = store-is ∙ ended.store

      now_streams : now.store.streams ≡ after
      now_streams = ap (λ v. v.streams) now_store

      now_numbered : now.store.numbered ≡ m.store.numbered
      now_numbered = ap (λ v. v.numbered) now_store

      now_others : now.store.others ≡ m.store.others
      now_others = ap (λ v. v.others) now_store

      now_modes : map sizes_of now.ports.items ≡ modes
      now_modes = ap (λ ps. map sizes_of ps) ports-are ∙ ended.modes

      as_many : length now.ports.items ≡ length m.ports.items
      as_many = omega (arith, length-map now.ports.items sizes_of, length-map m.ports.items sizes_of, ap length now_modes)

      no_contents : contents_of (option_map running_of now.frame) ≡ []
      no_contents = ap (λ o. contents_of (option_map running_of o)) free

      home_numbered : IsNumbered 0 home m.store.numbered
      home_numbered = numbered_mapped (home_among job.contents) (home_keeps job.contents) 0 m.store.numbered m.store.streams sound.numbered

      pub sound_ended : Holds now
      sound_ended =
          record {
            fits = rw core-is (still_fits m.core m.store now.store now_others (omega (arith, ap (λ v. v.made) now_store))
                (λ n within. rw now_streams (ended_seen job.kind job.image job.contents n m.store.streams)) sound.fits);
            shows = rw display-is (still_shown m.display m.store now.store now_others (omega (arith, ap (λ v. v.made) now_store))
                (zero_unseen 0 m.store.numbered m.store.streams now.store.streams sound.numbered)
                (λ n within. rw now_streams (ended_seen job.kind job.image job.contents n m.store.streams)) sound.shows);
            numbered = rw (now_streams, now_numbered) (delivered_numbered job.kind job.image m.store.numbered home home_numbered);
            few = omega (arith, as_many, sound.few);
            modes = now_modes ∙ sound.modes ∙ ap modes_of (sym display-is);
            ports = rw (free, ports-are) ended.fit;
            small = rw now_streams (omega (
              arith,
              sound.small,
              delivered_bytes job.kind job.image home,
              bytes_mapped (home_among job.contents) (home_keeps job.contents) m.store.streams,
            ));
            streams = rw (no_contents, now_streams)
                (delivered_fit job.kind job.image [] home (all_back f.contents.items m.store.streams job.contents parts.there fit));
            frame = rw free tt;
            once = rw no_contents tt;
            known = rw no_contents tt;
          }

      state_is : state_of now ≡ record (state_of m) { streams = after; frame = None }
      state_is =
          let state : ℕ → StoreView → CoreState → DisplayState → Option Frame → State = λ n v core display o.
          record {
            made = v.made;
            numbered = v.numbered;
            begun = n;
            streams = v.streams;
            core = core;
            display = display;
            frame = option_map running_of o;
          } in
          let store : StoreView = record m.store { streams = after } in
          ap (λ n. state n now.store now.core now.display now.frame) begun-is
          ∙ ap (λ v. state m.begun v now.core now.display now.frame) now_store
          ∙ ap (λ core. state m.begun store core now.display now.frame) core-is
          ∙ ap (λ d. state m.begun store m.core d now.frame) display-is
          ∙ ap (λ o. state m.begun store m.core m.display o) free

      pub left_ended : (s : State) → state_of m ≡ s → end job s ≡ (state_of now, reply)
      left_ended s seen =
          let running : (state_of m).frame ≡ Some (running_of f) = ap (λ o. option_map running_of o) runs in
          let ends : end job (state_of m) ≡ (end_frame job (state_of m), bare (done 0)) = rw (running, (running_frame m job is).2) refl in
          subst (λ t. end job t ≡ (state_of now, reply)) seen
          (ends ∙ ap (λ t. (t, bare (done 0))) (sym state_is) ∙ ap (λ r. (state_of now, r)) (sym ended.reply_is))
