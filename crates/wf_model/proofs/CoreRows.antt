-- Worked calls of composition: what the plain machine answers.
use Rattle.std.proofs.Common.{◌≡◌, ℕ, ◌+◌, true, false, ℤ, pos, negsuc, List, [], ◌∷◌, ◌++◌, map, Some, refl}
use Rattle.wf_pixel.specs.declared.Format.{Format}
use Rattle.wf_pixel.specs.declared.Format.TheVariants.{Rgba8, Rgbx8, A8}
use Rattle.wf_stream.specs.Buffers.{fresh}
use Rattle.wf_scene.specs.declared.attributes.ElementAttr.TheVariants as element
use Rattle.wf_scene.specs.declared.attributes.ContextAttr.TheVariants as attr
use Rattle.wf_calls.specs.Codes.{code_number}
use Rattle.wf_calls.specs.declared.reply.Answer.{Answer}
use Rattle.wf_model.specs.Outcome.{Outcome}
use Rattle.wf_model.specs.Objects.{CoreState, no_objects}
use Rattle.wf_model.specs.Composition.{CoreSide, core_answer}
use Rattle.wf_model.specs.Names.{core_names}
use Rattle.wf_model.specs.Core as core

-- a machine with one port of 4 by 2, whose screen is stream 1
abbrev opened : CoreSide
opened =
    record {
      made = 0;
      streams = record { number = 1; handle = 0; buffers = fresh (record { w = 4; h = 2 }) Rgbx8 3 } ∷ [];
      core = no_objects;
      display_sources = 0;
    }

-- a client makes a stream of this number, which gets the next handle
abbrev with_stream : ℕ → ℕ → ℕ → Format → CoreSide → CoreSide
with_stream number w h format side =
    record side {
      made = side.made + 1;
      streams = side.streams ++ record { number = number; handle = side.made + 1; buffers = fresh (record { w = w; h = h }) format 2 } ∷ [];
    }

-- a call of a device
abbrev Asked : Type 0
Asked = ℕ × (CoreSide → Outcome CoreSide)

-- what calls leave, one after another
after : CoreSide → List Asked → CoreSide
after w [] = w
after w (a ∷ rest) = after (core_answer a.0 w (a.1 w)).0 rest

-- their codes and values
answers : CoreSide → List Asked → List (ℕ × ℕ)
answers w [] = []
answers w (a ∷ rest) =
    let done : CoreSide × Answer = core_answer a.0 w (a.1 w) in
    (code_number done.1.code, done.1.value) ∷ answers done.0 rest

abbrev one : ℤ → List ℤ
one a = a ∷ pos 0 ∷ pos 0 ∷ pos 0 ∷ []

-- a device 1 and its context 2 of the port
abbrev begun : List Asked
begun = (0, core.device_new false) ∷ (1, core.screen_context 1 (pos 1) (Some 1) false) ∷ []

-- a stream 3 of one pixel, and element 5 that shows it whole through source 4
abbrev showing : List Asked
showing =
    (1, core.source_new 1 2 3 false) ∷ (1, core.element_new 1 2 false)
    ∷ (1, core.element_set 1 5 element.Source (one (pos 4)))
    ∷ (1, core.element_set 1 5 element.SrcRect (pos 0 ∷ pos 0 ∷ pos 1 ∷ pos 1 ∷ []))
    ∷ (1, core.element_set 1 5 element.Dest (pos 0 ∷ pos 0 ∷ pos 4 ∷ pos 2 ∷ []))
    ∷ (1, core.element_insert 1 5 0) ∷ (1, core.commit 1 2) ∷ []

abbrev shown : CoreSide
shown = with_stream 2 1 1 Rgba8 (after opened begun)

first_commit : answers shown showing ≡ (0, 4) ∷ (0, 5) ∷ (0, 0) ∷ (0, 0) ∷ (0, 0) ∷ (0, 0) ∷ (0, 0) ∷ []
unfolding answers after
first_commit = refl

-- a mask 7 of stream 6, which is larger than the destination, applies: the commit breaks rule 4 at place 1
abbrev masked : List Asked
masked =
    (1, core.mask_new 1 2 6 false) ∷ (1, core.element_set 1 5 element.Mask (one (pos 7)))
    ∷ (1, core.element_set 1 5 element.Transparency (one (pos 4))) ∷ (1, core.element_set 1 5 element.Alpha (one (pos 9)))
    ∷ (1, core.commit 1 2) ∷ (1, core.get_error 1) ∷ (1, core.get_error 1) ∷ []

bad_commit : answers (with_stream 3 5 2 A8 (after shown showing)) masked ≡ (0, 7) ∷ (0, 0) ∷ (0, 0) ∷ (0, 0) ∷ (11, 20) ∷ (0, 11) ∷ (0, 0)
    ∷ []
unfolding answers after
bad_commit = refl

-- and it leaves the committed scene, which names the stream of its layer: the source, the target and the layer
old_scene_stays : core_names (after (with_stream 3 5 2 A8 (after shown showing)) masked).core ≡ 2 ∷ 3 ∷ 1 ∷ 2 ∷ 0 ∷ []
unfolding after
old_scene_stays = refl

-- refusals in their order; the register keeps the first
refused : answers (with_stream 2 2 2 A8 (after opened begun))
    ((1, core.screen_context 1 (pos 1) (Some 1) false) ∷ (1, core.screen_context 1 (pos 1) (Some 1) true)
    ∷ (1, core.source_new 1 2 3 false) ∷ (1, core.source_new 1 2 9 false) ∷ (9, core.source_new 9 9 9 false)
    ∷ (1, core.context_set 1 2 attr.Width (one (pos 5))) ∷ (1, core.context_set 1 2 attr.Rotation (one (pos 45)))
    ∷ (1, core.element_new 1 2 true) ∷ (1, core.element_new 1 2 false) ∷ (1, core.element_above 1 4)
    ∷ (1, core.element_insert 1 4 4) ∷ (1, core.element_insert 1 4 5) ∷ (1, core.element_set 1 4 element.Source (one (negsuc 0)))
    ∷ (1, core.element_set 1 4 element.Source (one (pos 0))) ∷ (1, core.element_get 1 4 element.Alpha (pos 0))
    ∷ (1, core.element_get 1 4 element.Alpha (pos 1)) ∷ (1, core.context_get 1 2 attr.Height (pos 0))
    ∷ (1, core.get_error 1) ∷ [])
    ≡ (6, 0) ∷ (6, 0) ∷ (3, 0) ∷ (10, 0) ∷ (9, 0) ∷ (5, 0) ∷ (2, 0) ∷ (1, 0) ∷ (0, 4) ∷ (2, 0) ∷ (2, 0) ∷ (10, 0) ∷ (10, 0)
    ∷ (0, 0) ∷ (0, 255) ∷ (2, 0) ∷ (0, 2) ∷ (0, 6) ∷ []
unfolding answers after
refused = refl

-- a machine with two ports
abbrev two_ports : CoreSide
two_ports =
    record opened {
      streams = opened.streams ++ record { number = 2; handle = 0; buffers = fresh (record { w = 1; h = 1 }) Rgbx8 3 } ∷ [];
    }

-- context 2 with element 4, and context 3
abbrev two_contexts : List Asked
two_contexts = begun ++ (1, core.screen_context 1 (pos 2) (Some 2) false) ∷ (1, core.element_new 1 2 false) ∷ []

-- source 6 is of context 3: no bad handle for element 4, but an illegal argument; it is no mask
of_other_context : answers (with_stream 3 1 1 Rgba8 (after two_ports two_contexts))
    ((1, core.source_new 1 3 5 false) ∷ (1, core.element_set 1 4 element.Source (one (pos 6)))
    ∷ (1, core.element_set 1 4 element.Mask (one (pos 6))) ∷ [])
    ≡ (0, 6) ∷ (2, 0) ∷ (10, 0) ∷ []
unfolding answers after
of_other_context = refl

-- device 3 with context 4 of the second port, a stream 5 for sources and a stream 6 for masks
abbrev two_devices : CoreSide
two_devices =
    with_stream 4 1 1 A8
    (with_stream 3 1 1 Rgba8 (after two_ports (begun ++ (0, core.device_new false) ∷ (3, core.screen_context 3 (pos 2) (Some 2) false)
    ∷ [])))

-- sources 7 and 8 and masks 9 and 10, one of each device
abbrev of_both : List Asked
of_both =
    (1, core.source_new 1 2 5 false) ∷ (3, core.source_new 3 4 5 false)
    ∷ (1, core.mask_new 1 2 6 false) ∷ (3, core.mask_new 3 4 6 false) ∷ []

both_have : answers two_devices of_both ≡ (0, 7) ∷ (0, 8) ∷ (0, 9) ∷ (0, 10) ∷ []
unfolding answers after
both_have = refl

abbrev handles : CoreState → List ℕ
handles core =
    map (λ d. d.handle) core.devices ++ map (λ c. c.handle) core.contexts ++ map (λ s. s.handle) core.sources
    ++ map (λ m. m.handle) core.masks

-- what is left of all objects when calls were made
abbrev left : List Asked → List ℕ
left calls = handles (after (after two_devices of_both) calls).core

-- a device takes its contexts and all that is theirs with it, and nothing of the other device
a_device_takes_its_own : left ((1, core.device_destroy 1) ∷ []) ≡ 3 ∷ 4 ∷ 8 ∷ 10 ∷ []
unfolding after
a_device_takes_its_own = refl

-- and a context its sources and masks
a_context_takes_its_own : left ((3, core.context_destroy 3 4) ∷ []) ≡ 1 ∷ 3 ∷ 2 ∷ 7 ∷ 9 ∷ []
unfolding after
a_context_takes_its_own = refl
