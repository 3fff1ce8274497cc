-- The names that most proofs of this crate cite, passed on from one place.
pub use Rattle.std.proofs.Common.{Bool, Err, IsTrue, List, None, Ok, Option, Result, Some, [], ap, append-nil, append_assoc, arith, cond}
pub use Rattle.std.proofs.Common.{false, filter, get_or, length, length-append, map, not, refl, rules, slice_set, subst, suc, sym, take}
pub use Rattle.std.proofs.Common.{true, vec_capacity, zero, ℕ, ◌&&◌, ◌*◌, ◌++◌, ◌+◌, ◌-◌, ◌<◌, ◌==◌, ◌^◌, ◌||◌, ◌∙◌, ◌∷◌, ◌≡◌, ◌≢◌, ◌≤◌}
pub use Rattle.std.proofs.Math.Facts.{to_z-of_z}
pub use Rattle.std.proofs.lemmas.Bool.{and_parts, eq-eqb, eqb-true, leb-true, lt-ltb}
pub use Rattle.std.proofs.lemmas.Bool.Decides.{nat_tests}
pub use Rattle.std.proofs.lemmas.Int.{ints}
pub use Rattle.std.proofs.lemmas.List.{length-map, map-append, take_all, take_more}
pub use Rattle.std.proofs.lemmas.List.Elements.{All-cons, All-nil}
pub use Rattle.std.proofs.lemmas.List.Folds.{list_any-append}
pub use Rattle.std.proofs.lemmas.List.Sums.{sum_by-cons}
pub use Rattle.std.specs.List.{AllByRecursion, list_all, list_any, range_with_len}
pub use Rattle.std.specs.Option.{IfSome, IsSomeAnd, option_map}
pub use Rattle.std.specs.Prelude.{find, flat_map, is_some, nat_le, nat_lt, negsuc, pos, slice_get, sum_by, ℤ}
pub use Rattle.wf_calls.specs.Codes.{is_ok_code, is_out_of_memory}
pub use Rattle.wf_calls.specs.Parts.{Register, no_register, of_device, of_display, register_of}
pub use Rattle.wf_calls.specs.Replies.{bare, done, gives_job, refusal, refused}
pub use Rattle.wf_calls.specs.declared.call.Call.{Call}
pub use Rattle.wf_calls.specs.declared.call.Job.{Job}
pub use Rattle.wf_calls.specs.declared.call.JobKind.{JobKind}
pub use Rattle.wf_calls.specs.declared.code.Code.{Code}
pub use Rattle.wf_calls.specs.declared.ports.Modes.{Modes}
pub use Rattle.wf_calls.specs.declared.ports.Ports.{Ports}
pub use Rattle.wf_calls.specs.declared.reply.Reply.{Reply}
pub use Rattle.wf_image.specs.Bitmap.{Bitmap, blank}
pub use Rattle.wf_image.specs.Contents.{image_of}
pub use Rattle.wf_image.specs.declared.canvas.Canvas.{Canvas}
pub use Rattle.wf_life.specs.Handles.{Live}
pub use Rattle.wf_machine.specs.Fitting.{AllFit, AreNumbered, AreOnce, FrameFits, IsComposable, IsDue, IsOfMode, IsOfTarget, IsRead}
pub use Rattle.wf_machine.specs.Fitting.{KindFits, PortFits, PortsFit, StreamFits, away_of, content_at, contents_of, is_of_running}
pub use Rattle.wf_machine.specs.Inside.{Holds, IsSound, state_of}
pub use Rattle.wf_machine.specs.Latching.{AreAtHome, AreAwaited, AreShapedAs, Awaits, IsShapedAs}
pub use Rattle.wf_machine.specs.Object.{IsAct, IsAnswer, IsOfSomePort, IsSettled, IsStep, SameImage, settled_so}
pub use Rattle.wf_machine.specs.Ports.{HoldsBut, IsFrameImage, running_of, sizes_of}
pub use Rattle.wf_machine.specs.Starting.{IsReady, MayStart, beginning_of}
pub use Rattle.wf_machine.specs.declared.frame.Frame.{Frame}
pub use Rattle.wf_machine.specs.declared.parts.Parts.TheInside.{Inside}
pub use Rattle.wf_model.specs.Composing.{screen_of}
pub use Rattle.wf_model.specs.Display.{begun_display, port_scene}
pub use Rattle.wf_model.specs.Effects.{Effect, effect}
pub use Rattle.wf_model.specs.Frames.{Beginning, begin_port, brought_home, content_shape, delivered, drawing, end, has_shape, home_if}
pub use Rattle.wf_model.specs.Frames.{is_of_frame, is_running, is_target, job_of, latch, latched_among, next_images, next_image_of}
pub use Rattle.wf_model.specs.Frames.{scene_streams, start, target_ready}
pub use Rattle.wf_model.specs.Kept.{modes_of}
pub use Rattle.wf_model.specs.Names.{all_names, core_names, display_names, frame_names, kept, layer_names, own_names, settle, settle_if}
pub use Rattle.wf_model.specs.Names.{target_names}
pub use Rattle.wf_model.specs.Objects.{Context, CoreState}
pub use Rattle.wf_model.specs.Picture.{Images}
pub use Rattle.wf_model.specs.Registers.{offered}
pub use Rattle.wf_model.specs.State.{DisplayState, Running, State, mode_size, opening, screen}
unfoldable pub use Rattle.wf_model.specs.Step.{act, step}
pub use Rattle.wf_model.specs.Streams.{acquirable, acquire_step, canvas_back, canvas_of, is_out_at_client, new_buffers, size_from}
pub use Rattle.wf_model.specs.Streams.{stream_new, stream_step, with_stream}
pub use Rattle.wf_model.specs.declared.Content.{Content}
pub use Rattle.wf_objects.specs.Fits.{ContextFits, Fits}
pub use Rattle.wf_model.specs.Fitting.{IsOfPixels, LayerFits}
pub use Rattle.wf_objects.specs.Shows.{next_shown}
pub use Rattle.wf_pixel.specs.Choice.{has_sides, is_a8, is_side, same_format, same_size}
pub use Rattle.wf_pixel.specs.Place.{IsDrawn}
pub use Rattle.wf_pixel.specs.declared.Format.{Format}
pub use Rattle.wf_pixel.specs.declared.Format.TheVariants.{A8, Rgba8, Rgba8Pre, Rgbx8}
pub use Rattle.wf_pixel.specs.declared.Size.{Size}
pub use Rattle.wf_scene.specs.Layers.{holds_rect}
pub use Rattle.wf_scene.specs.declared.Layer.{Layer}
pub use Rattle.wf_scene.specs.declared.Scene.{Scene}
pub use Rattle.wf_stream.specs.Buffers.{Buffers, HasShape, acquired, away, away_if, buffer_bytes, discarded, fresh, is_blocked, latched}
pub use Rattle.wf_stream.specs.Buffers.{latched_if, next_image, posted, returned}
pub use Rattle.wf_stream.specs.Streams.{IsNumbered, KeptStream, StoreView, buffers_at, change_stream, has_number, held, stream_at}
pub use Rattle.wf_stream.specs.Streams.{stream_of, unnamed, with_live_stream}
pub use Rattle.wf_words.specs.Keyed.{is_in, nth, once}
pub use Rattle.wf_words.specs.Once.{NoneTwice, by_number, is_in-without, once_none_twice}
pub use Rattle.wf_words.specs.Options.{not_some}
pub use Rattle.wf_words.specs.Whole.{count_of}
