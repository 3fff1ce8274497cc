-- What a call does to the state, by the kinds of what calls do. A law on calls is a function of these few kinds.
use Rattle.std.proofs.Common.{◌≡◌, ℕ, Bool, true, false, not, ◌||◌, ◌==◌, ◌⊎◌, inl, inr, List, map, Option, Some, None, refl, sym, ap}
use Rattle.std.proofs.Common.{subst, ◌∙◌}
use Rattle.std.specs.Prelude.{ℤ, Result, Ok, Err}
use Rattle.wf_words.specs.Refusals.{◌>>=◌}
use Rattle.wf_life.specs.Handles.{is_full}
use Rattle.wf_image.specs.declared.canvas.Canvas.{Canvas}
use Rattle.wf_pixel.specs.declared.Format.{Format}
use Rattle.wf_scene.specs.declared.Scene.{Scene}
use Rattle.wf_stream.specs.Buffers.{Buffers, acquired, discarded, posted}
use Rattle.wf_stream.specs.Streams.{KeptStream, buffers_at, has_no_room, held, stream_of, unnamed}
use Rattle.wf_calls.specs.Codes.{is_ok_code}
use Rattle.wf_calls.specs.Parts.{Register, of_device, of_display, no_register, part_of, recorded_by, register_of}
use Rattle.wf_calls.specs.Replies.{bare, done, gives_back_job, gives_canvas, refusal, refused}
use Rattle.wf_calls.specs.declared.call.Call.{Call}
use Rattle.wf_calls.specs.declared.call.Call.TheVariants as call
use Rattle.wf_calls.specs.declared.call.Job.{Job}
use Rattle.wf_calls.specs.declared.code.Code.{Code}
use Rattle.wf_calls.specs.declared.code.Code.TheVariants as code
use Rattle.wf_calls.specs.declared.part.Part.TheVariants as part
use Rattle.wf_calls.specs.declared.reply.Refusal.{Refusal}
use Rattle.wf_calls.specs.declared.reply.Reply.{Reply}
use Rattle.wf_model.specs.Beginnings.{composed_is, next_free, port_is}
use Rattle.wf_model.specs.Composing.{composed, core_side, display_side, displayed, screen_of}
use Rattle.wf_model.specs.Composition.{CoreSide, live_stream}
use Rattle.wf_model.specs.Calls.{begin_call, buffer_call, core_call, display_call, end_call, stream_call}
use Rattle.wf_model.specs.DisplaySides.{DisplaySide}
use Rattle.wf_model.specs.Pipelines.{may_bind, pipeline_styled}
use Rattle.wf_model.specs.Ports.{port_styled}
use Rattle.wf_calls.specs.declared.display.PipeAttr.{PipeAttr}
use Rattle.wf_calls.specs.declared.display.PipeAttr.TheVariants as pipe_attr
use Rattle.wf_calls.specs.declared.display.PortAttr.{PortAttr}
use Rattle.wf_calls.specs.declared.display.PortAttr.TheVariants as port_attr
use Rattle.wf_scene.specs.declared.style.Style.{Style}
use Rattle.wf_scene.specs.declared.attributes.ElementAttr.{ElementAttr}
use Rattle.wf_scene.specs.declared.attributes.ElementAttr.TheVariants as element
use Rattle.wf_scene.specs.declared.attributes.Refused.{Refused}
use Rattle.wf_scene.specs.declared.attributes.Refused.TheVariants as scene
use Rattle.wf_scene.specs.declared.look.Fault.{Fault}
use Rattle.wf_scene.specs.Values.{is_count}
use Rattle.wf_model.specs.Core.{by_scene, checked_source, fault_as_refusal, linked}
use Rattle.wf_model.specs.Frames.{Beginning, begin_context, begin_lit, begin_shown, end, end_frame, is_of_frame, is_running}
use Rattle.wf_model.specs.Frames.{start}
use Rattle.wf_model.specs.Frames.{started}
use Rattle.wf_model.specs.Objects.{Context, CoreState, Source}
use Rattle.wf_model.specs.Outcome.{Leaves, Outcome, behind, found, refuse_with}
use Rattle.wf_model.specs.Registers.{offered}
use Rattle.wf_model.specs.State.{DisplayState, Port, Running, State}
use Rattle.wf_model.specs.Step.{act, act_of}
use Rattle.wf_model.specs.Streams as streams
use Rattle.wf_calls.specs.declared.part.Part.{Part}

-- a refusal tells no success
abbrev pub IsHonest : {A : Type 0} → Result A Refusal → Type 0
IsHonest (Ok x) = Unit {0}
IsHonest (Err r) = is_ok_code r.code ≡ false

after_honest : {A B : Type 0} (r : Result A Refusal) (f : A → Result B Refusal) → IsHonest r → ((x : A) → IsHonest (f x))
    → IsHonest (r >>= f)
after_honest (Ok x) f one other = other x
after_honest (Err r) f one other = one

honest_refuse : (c : Code) (value : ℕ) (b : Bool) → is_ok_code c ≡ false → IsHonest (refuse_with c value b)
honest_refuse c value true is = is
honest_refuse c value false is = tt

honest_found : {A : Type 0} (c : Code) (o : Option A) → is_ok_code c ≡ false → IsHonest (found c o)
honest_found c None is = is
honest_found c (Some x) is = tt

honest_scene : {A : Type 0} (r : Result A Refused) → IsHonest (by_scene r)
honest_scene (Ok x) = tt
honest_scene (Err scene.BadAttribute) = refl
honest_scene (Err scene.IllegalArgument) = refl
honest_scene (Err scene.Limit) = refl

honest_fault : {A : Type 0} (r : Result A Fault) → IsHonest (fault_as_refusal r)
honest_fault (Ok x) = tt
honest_fault (Err f) = refl

honest_named : (d owner : ℕ) (z : ℤ) (sources : List Source) (w : CoreSide) → IsHonest (checked_source d owner z sources w)
honest_named d owner z sources w = of_test (is_count 0 z) refl
  where
    of_test : (b : Bool) → is_count 0 z ≡ b → IsHonest (checked_source d owner z sources w)
    of_test true is = rw is tt
    of_test false is = rw is (search (after_honest, honest_refuse, honest_found))

honest_link : (attr : ElementAttr) (d owner : ℕ) (z : ℤ) (w : CoreSide) → IsHonest (linked attr d owner z w)
honest_link element.Source d owner z w = honest_named d owner z w.core.sources w
honest_link element.Mask d owner z w = honest_named d owner z w.core.masks w
honest_link _ d owner z w = tt

pub core_is_honest : (screen : Option ℕ) (m : Bool) (c : Call) (w : CoreSide) → IsHonest (core_call screen m c w)
core_is_honest screen m call.DeviceNew w = search (after_honest, honest_refuse, honest_found, honest_scene, honest_fault, honest_link)
    depth 12
core_is_honest screen m (call.SourceNew d o s) w = search
    (after_honest, honest_refuse, honest_found, honest_scene, honest_fault, honest_link) depth 12
core_is_honest screen m _ w = search (after_honest, honest_refuse, honest_found, honest_scene, honest_fault, honest_link) depth 12

-- no call of composition changes a stream
pub core_leaves_streams : (screen : Option ℕ) (m : Bool) (c : Call) (w : CoreSide)
    → Leaves (λ (x : CoreSide). x.streams) w.streams (core_call screen m c w)
core_leaves_streams screen m (call.SourceNew d o s) w = search (behind)
core_leaves_streams screen m _ w = search (behind)

honest_port_style : (a : PortAttr) (v : List ℤ) (p : Port) → IsHonest (port_styled a v p)
honest_port_style port_attr.Mode v p = search (honest_found)
honest_port_style port_attr.Background v p = search (honest_found)
honest_port_style port_attr.Power v p = search (honest_found)
honest_port_style port_attr.Width v p = refl
honest_port_style port_attr.Height v p = refl
honest_port_style port_attr.Attached v p = refl

honest_style : (a : PipeAttr) (v : List ℤ) (s : Style) → IsHonest (pipeline_styled a v s)
honest_style pipe_attr.Transparency v s = search (after_honest, honest_refuse, honest_found)
honest_style pipe_attr.Port v s = refl
honest_style pipe_attr.Pending v s = refl
honest_style pipe_attr.Showing v s = refl
honest_style _ v s = search (honest_found)

honest_binding : (l : ℤ) (handle : ℕ) (d : DisplayState) → IsHonest (may_bind l handle d)
honest_binding l handle d = of_test (handle == 0) refl
  where
    of_test : (b : Bool) → (handle == 0) ≡ b → IsHonest (may_bind l handle d)
    of_test true is = rw is tt
    of_test false is = rw is (search (after_honest, honest_refuse, honest_found))

pub display_is_honest : (m : Bool) (c : Call) (w : DisplaySide) → IsHonest (display_call m c w)
display_is_honest m call.DisplayError w = tt
display_is_honest m _ w = search
    (after_honest, honest_refuse, honest_found, honest_fault, honest_port_style, honest_style, honest_binding) depth 12

-- no call of the display changes a stream
pub display_leaves_streams : (m : Bool) (c : Call) (w : DisplaySide)
    → Leaves (λ (x : DisplaySide). x.streams) w.streams (display_call m c w)
display_leaves_streams m call.DisplayError w = refl
display_leaves_streams m _ w = search (behind)

-- how a write buffer comes back from a client: posted, or unseen
abbrev pub IsReturn : Canvas → (Buffers → Buffers) → Type 0
IsReturn canvas f = (f ≡ posted canvas.image) ⊎ (f ≡ discarded)

-- what a call left and answered is of one of these kinds
pub data Effect (h : State) (c : Call) (x : State × Reply) : Type 0 where
  -- it was refused: its register is offered the code, and nothing else changes; what it carried comes back
  refuses : is_ok_code x.1.code ≡ false → x.0 ≡ offered (register_of c) x.1.code h → Effect h c x
  -- it was carried out on the objects of composition: no stream changes
  composes : (m : Bool) (w : CoreSide) (value : ℕ) → core_call (screen_of c h) m c (core_side h) ≡ Ok (w, value)
      → x ≡ (record h { made = w.made; core = w.core }, bare (done value)) → Effect h c x
  -- it was carried out on the objects of the display: no stream changes
  displays : (m : Bool) (w : DisplaySide) (value : ℕ) → display_call m c (display_side h) ≡ Ok (w, value)
      → x ≡ (record h { made = w.made; display = w.display }, bare (done value)) → Effect h c x
  -- it made a stream
  makes : (new : Buffers) → x ≡ ((streams.stream_made new h).0, bare (done (streams.stream_made new h).1)) → Effect h c x
  -- it ended the life of a stream's handle
  unnames : (handle : ℕ) → x ≡ (record h { streams = map (unnamed handle) h.streams }, bare (done 0)) → Effect h c x
  -- it gave out the write buffer of a stream of a live handle
  acquires : (handle : ℕ) (s : KeptStream) → streams.acquirable handle h ≡ Ok s
      → x ≡ (streams.with_stream s.number acquired h, gives_canvas (streams.canvas_of s)) → Effect h c x
  -- it brought a write buffer back that was out at a client
  returns : (canvas : Canvas) (f : Buffers → Buffers) → IsReturn canvas f → streams.is_out_at_client canvas h ≡ true
      → x ≡ (streams.with_stream canvas.stream f h, bare (done 0)) → Effect h c x
  -- it began a frame
  begins : (b : Beginning) → is_running h ≡ false → begin_call c h ≡ Ok (Some b) → x ≡ start b h → Effect h c x
  -- it ended the running frame
  ends : (job : Job) (f : Running) → c ≡ call.End job → h.frame ≡ Some f → is_of_frame job f ≡ true → x ≡ (end_frame job h, bare (done 0))
      → Effect h c x
  -- it told something
  tells : (value : ℕ) → x ≡ (h, bare (done value)) → Effect h c x

-- a call that is refused, and brings nothing
module _ (h : State) (c : Call) (x : State × Reply) where
  refuses_so : (register : Register) (r : Refusal) → register_of c ≡ register → is_ok_code r.code ≡ false
      → x ≡ (offered register r.code h, bare (refused r)) → Effect h c x
  refuses_so own r is honest left =
      let code : x.1.code ≡ r.code = ap (λ (y : State × Reply). y.1.code) left in
      refuses (rw code honest) (ap (λ (y : State × Reply). y.0) left ∙ (rw (code, is) refl))

-- a call of composition
composed_effect : (h : State) (c : Call) (d : ℕ) (m : Bool) → part_of c ≡ part.Composition d
    → Effect h c (composed d (core_call (screen_of c h) m c) h)
composed_effect h c d m is =
    of_outcome (does (core_side h)) refl (core_leaves_streams (screen_of c h) m c (core_side h))
    (core_is_honest (screen_of c h) m c (core_side h))
  where
    does : CoreSide → Outcome CoreSide
    does = core_call (screen_of c h) m c

    of_outcome : (o : Outcome CoreSide) → does (core_side h) ≡ o → Leaves (λ (x : CoreSide). x.streams) h.streams o → IsHonest o
        → Effect h c (composed d does h)
    of_outcome (Ok x) at leaves honest =
        composes m x.0 x.1 at
        (ap (λ (o : Outcome CoreSide). composed d (λ _. o) h) at
        ∙ ap (λ (ss : List KeptStream). (record h { made = x.0.made; streams = ss; core = x.0.core }, bare (done x.1))) leaves)
    of_outcome (Err r) at leaves honest =
        let left : composed d does h ≡ (offered (of_device d) r.code h, bare (refused r)) =
        ap (λ (o : Outcome CoreSide). composed d (λ _. o) h) at in
        refuses_so h c (composed d does h) (of_device d) r (ap recorded_by is) honest left

-- a call of the display
displayed_effect : (h : State) (c : Call) (m : Bool) → part_of c ≡ part.Display → Effect h c (displayed (display_call m c) h)
displayed_effect h c m is =
    of_outcome (does (display_side h)) refl (display_leaves_streams m c (display_side h)) (display_is_honest m c (display_side h))
  where
    does : DisplaySide → Outcome DisplaySide
    does = display_call m c

    of_outcome : (o : Outcome DisplaySide) → does (display_side h) ≡ o → Leaves (λ (x : DisplaySide). x.streams) h.streams o → IsHonest o
        → Effect h c (displayed does h)
    of_outcome (Ok x) at leaves honest =
        displays m x.0 x.1 at
        (ap (λ (o : Outcome DisplaySide). displayed (λ _. o) h) at
        ∙ ap (λ (ss : List KeptStream). (record h { made = x.0.made; streams = ss; display = x.0.display }, bare (done x.1))) leaves)
    of_outcome (Err r) at leaves honest =
        let left : displayed does h ≡ (offered of_display r.code h, bare (refused r)) =
        ap (λ (o : Outcome DisplaySide). displayed (λ _. o) h) at in
        refuses_so h c (displayed does h) of_display r (ap recorded_by is) honest left

-- a call on streams

-- it has no register
module _ (h : State) (c : Call) (unregistered : register_of c ≡ no_register) where
  refuses_bare : (r : Refusal) → is_ok_code r.code ≡ false → Effect h c (h, bare (refused r))
  refuses_bare r honest = refuses_so h c (h, bare (refused r)) no_register r unregistered honest refl

  stream_effect : (o : Outcome State) → IsHonest o
      → ((x : State × ℕ) → o ≡ Ok x → Effect h c (x.0, bare (done x.1))) → Effect h c (streams.stream_step h o)
  stream_effect (Ok x) honest carried = carried x refl
  stream_effect (Err r) honest carried = refuses_bare r honest

  new_effect : (queue : Bool) (width height count : ℤ) (f : Format) (m : Bool)
      → Effect h c (streams.stream_step h (streams.stream_new queue width height f count m h))
  new_effect queue width height count f m = of_range (not (streams.may_make queue width height count)) refl
    where
      new : Buffers
      new = streams.new_buffers queue width height f count

      made : Outcome State
      made = streams.stream_new queue width height f count m h

      of_memory : (not (streams.may_make queue width height count)) ≡ false → (has_no_room new h.streams || is_full h.made) ≡ false
          → (b : Bool) → m ≡ b → Effect h c (streams.stream_step h made)
      of_memory range room true is = rw (range, room, is) (refuses_bare (refusal code.OutOfMemory) refl)
      of_memory range room false is = rw (range, room, is) (makes new refl)

      of_room : (not (streams.may_make queue width height count)) ≡ false → (b : Bool) → (has_no_room new h.streams || is_full h.made) ≡ b
          → Effect h c (streams.stream_step h made)
      of_room range true is = rw (range, is) (refuses_bare (refusal code.Limit) refl)
      of_room range false is = of_memory range is m refl

      of_range : (b : Bool) → (not (streams.may_make queue width height count)) ≡ b → Effect h c (streams.stream_step h made)
      of_range true is = rw is (refuses_bare (refusal code.IllegalArgument) refl)
      of_range false is = of_room is (has_no_room new h.streams || is_full h.made) refl

  destroy_effect : (stream : ℕ) → Effect h c (streams.stream_step h (streams.stream_destroy stream h))
  destroy_effect stream = of_stream (live_stream stream h.streams) refl (honest_found code.BadHandle (stream_of stream h.streams) refl)
    where
      of_stream : (r : Result KeptStream Refusal) → live_stream stream h.streams ≡ r → IsHonest r
          → Effect h c (streams.stream_step h (streams.stream_destroy stream h))
      of_stream (Ok s) is honest = rw is (unnames stream refl)
      of_stream (Err r) is honest = rw is (refuses_bare r honest)

  acquire_effect : (stream : ℕ) → Effect h c (streams.acquire_step h (streams.acquirable stream h))
  acquire_effect stream = of_stream (streams.acquirable stream h) refl (search (after_honest, honest_found, honest_refuse) depth 8)
    where
      of_stream : (r : Result KeptStream Refusal) → streams.acquirable stream h ≡ r → IsHonest r → Effect h c (streams.acquire_step h r)
      of_stream (Ok s) is honest = acquires stream s is refl
      of_stream (Err r) is honest = refuses_bare r honest

  return_effect : (canvas : Canvas) (f : Buffers → Buffers) → IsReturn canvas f → Effect h c (streams.canvas_back canvas f h)
  return_effect canvas f way = of_test (streams.is_out_at_client canvas h) refl
    where
      of_test : (b : Bool) → streams.is_out_at_client canvas h ≡ b → Effect h c (streams.canvas_back canvas f h)
      of_test true is = rw is (returns canvas f way is refl)
      of_test false is = rw is (refuses refl (rw unregistered refl))

  -- the call that ends the running frame

  end_effect : (job : Job) → c ≡ call.End job → Effect h c (end job h)
  end_effect job call_is = of_frame h.frame refl
    where
      of_own : (f : Running) → h.frame ≡ Some f → (b : Bool) → is_of_frame job f ≡ b → Effect h c (end job h)
      of_own f runs true is = ends job f call_is runs is (rw (runs, is) refl)
      of_own f runs false is = subst (Effect h c) (sym (back runs is)) (refuses refl (rw unregistered refl))
        where
          back : h.frame ≡ Some f → is_of_frame job f ≡ false → end job h ≡ (h, gives_back_job job)
          back runs is = rw (runs, is) refl

      of_frame : (o : Option Running) → h.frame ≡ o → Effect h c (end job h)
      of_frame None free = subst (Effect h c) (sym (back free)) (refuses refl (rw unregistered refl))
        where
          back : h.frame ≡ None → end job h ≡ (h, gives_back_job job)
          back free = rw free refl
      of_frame (Some f) runs = of_own f runs (is_of_frame job f) refl

-- a refusal of a Begin

context_honest : (value handle target : ℕ) (scene : Scene) (h : State) → IsHonest (begin_context value handle target scene h)
context_honest value handle target scene h = of_target (buffers_at target h.streams) refl
  where
    of_target : (o : Option Buffers) → buffers_at target h.streams ≡ o → IsHonest (begin_context value handle target scene h)
    of_target None is = rw is tt
    of_target (Some b) is = rw is (search (after_honest, honest_refuse) depth 12)

shown_honest : (o : Option Context) (h : State) → IsHonest (begin_shown o h)
shown_honest None h = tt
shown_honest (Some c) h = context_honest c.handle c.handle c.target c.committed h

lit_honest : (p : ℤ) (d : DisplayState) (o : Option Scene) (h : State) → IsHonest (begin_lit p d o h)
lit_honest p d None h = tt
lit_honest p d (Some s) h = search (after_honest, honest_refuse)

pub begin_is_honest : (c : Call) (h : State) → IsHonest (begin_call c h)
begin_is_honest (call.BeginNext after) h = search (after_honest, honest_refuse, shown_honest) depth 8
begin_is_honest (call.BeginPort port) h = search (after_honest, honest_refuse, honest_found, lit_honest) depth 12
begin_is_honest (call.BeginContext d c) h = search (after_honest, honest_refuse, honest_found, context_honest) depth 12
begin_is_honest _ h = tt

-- a call that begins a frame
begin_effect : (h : State) (c : Call) (register : Register) → register_of c ≡ register
    → ((b : Beginning) → begin_call c h ≡ Ok (Some b) → is_running h ≡ false) → Effect h c (started register h (begin_call c h))
begin_effect h c register own free = of_beginning (begin_call c h) refl (begin_is_honest c h)
  where
    of_beginning : (r : Result (Option Beginning) Refusal) → begin_call c h ≡ r → IsHonest r → Effect h c (started register h r)
    of_beginning (Ok None) is honest = tells 0 refl
    of_beginning (Ok (Some b)) is honest = begins b (free b is) is refl
    of_beginning (Err r) is honest = refuses_so h c (offered register r.code h, bare (refused r)) register r own honest refl

-- what each part does is of one of these kinds

of_streams : (h : State) (c : Call) (m : Bool) → register_of c ≡ no_register → Effect h c (stream_call m c h)
of_streams h (call.StreamNew width height f buffers) m none =
    new_effect h (call.StreamNew width height f buffers) none false width height buffers f m
of_streams h (call.StreamQueue width height f depth) m none =
    new_effect h (call.StreamQueue width height f depth) none true width height depth f m
of_streams h (call.StreamDestroy stream) m none = destroy_effect h (call.StreamDestroy stream) none stream
of_streams h (call.Stat what) m none = tells (streams.stat what (held h.streams)) refl
of_streams h _ m none = tells 0 refl

of_buffers : (h : State) (c : Call) → register_of c ≡ no_register → Effect h c (buffer_call c h)
of_buffers h (call.Acquire stream) none = acquire_effect h (call.Acquire stream) none stream
of_buffers h (call.Post canvas) none = return_effect h (call.Post canvas) none canvas (posted canvas.image) (inl refl)
of_buffers h (call.Discard canvas) none = return_effect h (call.Discard canvas) none canvas discarded (inr refl)
of_buffers h _ none = tells 0 refl

of_begin : (h : State) (c : Call) (recorder : Register) → register_of c ≡ recorder → Effect h c (started recorder h (begin_call c h))
of_begin h (call.BeginNext after) recorder own = begin_effect h (call.BeginNext after) recorder own (next_free after h)
of_begin h (call.BeginPort port) recorder own = begin_effect h (call.BeginPort port) recorder own (λ b is. (port_is port h b is).free)
of_begin h (call.BeginContext d c) recorder own =
    begin_effect h (call.BeginContext d c) recorder own (λ b is. (composed_is d c h b is).free)
of_begin h _ recorder own = tells 0 refl

of_end : (h : State) (c : Call) → register_of c ≡ no_register → Effect h c (end_call c h)
of_end h (call.End job) none = end_effect h (call.End job) none job refl
of_end h _ none = tells 0 refl

-- each call is of one of these kinds
pub effect : (h : State) (c : Call) (m : Bool) → Effect h c (act h c m)
unfolding act
effect h c m = of_part (part_of c) refl
  where
    of_part : (p : Part) → part_of c ≡ p → Effect h c (act_of p h c m)
    of_part part.Streams is = of_streams h c m (ap recorded_by is)
    of_part part.Buffers is = of_buffers h c (ap recorded_by is)
    of_part (part.Composition d) is = composed_effect h c d m is
    of_part part.Display is = displayed_effect h c m is
    of_part (part.Begin d) is = of_begin h c (recorded_by (part.Begin d)) (ap recorded_by is)
    of_part part.End is = of_end h c (ap recorded_by is)

-- laws of all calls

-- a call is carried out, or it changes its register alone
pub carried_or_refused : (h : State) (c : Call) (x : State × Reply) → Effect h c x
    → (is_ok_code x.1.code ≡ true) ⊎ (x.0 ≡ offered (register_of c) x.1.code h)
carried_or_refused h c x (refuses honest left) = inr left
carried_or_refused h c x (composes m w value does is) = inl (ap (λ (y : State × Reply). is_ok_code y.1.code) is)
carried_or_refused h c x (displays m w value does is) = inl (ap (λ (y : State × Reply). is_ok_code y.1.code) is)
carried_or_refused h c x (makes new is) = inl (ap (λ (y : State × Reply). is_ok_code y.1.code) is)
carried_or_refused h c x (unnames handle is) = inl (ap (λ (y : State × Reply). is_ok_code y.1.code) is)
carried_or_refused h c x (acquires handle s at is) = inl (ap (λ (y : State × Reply). is_ok_code y.1.code) is)
carried_or_refused h c x (returns canvas f way out is) = inl (ap (λ (y : State × Reply). is_ok_code y.1.code) is)
carried_or_refused h c x (begins b free begun is) = inl (ap (λ (y : State × Reply). is_ok_code y.1.code) is)
carried_or_refused h c x (ends job f call_is runs own is) = inl (ap (λ (y : State × Reply). is_ok_code y.1.code) is)
carried_or_refused h c x (tells value is) = inl (ap (λ (y : State × Reply). is_ok_code y.1.code) is)

-- a refused call changes its register alone
pub refused_leaves : (h : State) (c : Call) (m : Bool) → is_ok_code (act h c m).1.code ≡ false
    → (act h c m).0 ≡ offered (register_of c) (act h c m).1.code h
refused_leaves h c m refused = of_either (carried_or_refused h c (act h c m) (effect h c m))
  where
    of_either : (is_ok_code (act h c m).1.code ≡ true) ⊎ ((act h c m).0 ≡ offered (register_of c) (act h c m).1.code h)
        → (act h c m).0 ≡ offered (register_of c) (act h c m).1.code h
    of_either (inl ok) = absurd (let no : true ≡ false = sym ok ∙ refused in cc)
    of_either (inr left) = left

-- a call that begins or ends frames
abbrev pub moves_frame : Call → Bool
moves_frame c = moves (part_of c)
  where
    moves : Part → Bool
    moves (part.Begin d) = true
    moves part.End = true
    moves _ = false

pub offered_frame : (register : Register) (refused : Code) (h : State) → (offered register refused h).frame ≡ h.frame
offered_frame (of_device d) refused h = refl
offered_frame of_display refused h = refl
offered_frame no_register refused h = refl

begins_none : (h : State) (c : Call) → moves_frame c ≡ false → begin_call c h ≡ Ok None
begins_none h (call.BeginNext after) still = absurd cc
begins_none h (call.BeginPort port) still = absurd cc
begins_none h (call.BeginContext d c) still = absurd cc
begins_none h _ still = refl

-- any other call leaves the running frame as it is
pub frame_stays : (h : State) (c : Call) (x : State × Reply) → Effect h c x → moves_frame c ≡ false → x.0.frame ≡ h.frame
frame_stays h c x (refuses honest left) still = ap (λ (s : State). s.frame) left ∙ offered_frame (register_of c) x.1.code h
frame_stays h c x (composes m w value does is) still = ap (λ (y : State × Reply). y.0.frame) is
frame_stays h c x (displays m w value does is) still = ap (λ (y : State × Reply). y.0.frame) is
frame_stays h c x (makes new is) still = ap (λ (y : State × Reply). y.0.frame) is
frame_stays h c x (unnames handle is) still = ap (λ (y : State × Reply). y.0.frame) is
frame_stays h c x (acquires handle s at is) still = ap (λ (y : State × Reply). y.0.frame) is
frame_stays h c x (returns canvas f way out is) still = ap (λ (y : State × Reply). y.0.frame) is
frame_stays h c x (begins b free begun is) still =
    absurd (let no : Ok None ≡ Ok (Some b) = sym (begins_none h c still) ∙ begun in cc)
frame_stays h c x (ends job f call_is runs own is) still = absurd (let no : true ≡ false = rw call_is at still in cc)
frame_stays h c x (tells value is) still = ap (λ (y : State × Reply). y.0.frame) is
