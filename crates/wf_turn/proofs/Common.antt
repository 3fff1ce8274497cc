-- The names that most proofs of this crate cite, passed on from one place.
pub use Rattle.std.proofs.Common.{Bool, Bor, IsTrue, List, None, Ok, Option, Some, [], ap, append-nil, append_assoc, arith, cond, drop}
pub use Rattle.std.proofs.Common.{false, get_or, inl, inr, length, map, not, refl, set, subst, suc, sym, take, true, vec_capacity, zero, ℕ}
pub use Rattle.std.proofs.Common.{◌&&◌, ◌*◌, ◌++◌, ◌+◌, ◌-◌, ◌<◌, ◌==◌, ◌||◌, ◌∙◌, ◌∷◌, ◌≡◌, ◌≤◌, ◌⊎◌}
pub use Rattle.std.proofs.lemmas.Bool.{and_parts, eq-eqb, eqb-true, ltb-true}
pub use Rattle.std.proofs.lemmas.Bool.Decides.{nat_tests}
pub use Rattle.std.proofs.lemmas.Grind.{common_steps}
pub use Rattle.std.proofs.lemmas.List.{drop_more, length-append, length-map, take-append-drop}
pub use Rattle.std.proofs.lemmas.List.Elements.{All-cons, All-nil, filter_map-append}
pub use Rattle.std.proofs.lemmas.List.Sums.{sum_by-cons}
pub use Rattle.std.specs.List.{AllByRecursion, enumerate_from, list_all, range_with_len}
pub use Rattle.std.specs.Option.{IfSome, IsSome, IsSomeAnd, is_some, option_copied, option_map, unwrap_or}
pub use Rattle.std.specs.Prelude.{All, filter, find, flat_map, nat_le, nat_lt, option_to_list, pos, slice_get, sum_by, zip}
pub use Rattle.std.specs.Str.{bytes_eq}
pub use Rattle.wf_calls.specs.Codes.{entry, is_ok_code, is_out_of_memory}
pub use Rattle.wf_calls.specs.Parts.{is_begin}
pub use Rattle.wf_calls.specs.PortRules.{may_declare}
pub use Rattle.wf_calls.specs.Replies.{bare}
pub use Rattle.wf_calls.specs.declared.call.Call.{Call}
pub use Rattle.wf_calls.specs.declared.call.Job.{Job}
pub use Rattle.wf_calls.specs.declared.call.JobKind.{JobKind}
pub use Rattle.wf_calls.specs.declared.code.Code.{Code}
pub use Rattle.wf_calls.specs.declared.order.Turn.{Turn}
pub use Rattle.wf_calls.specs.declared.reply.Payload.{Payload}
pub use Rattle.wf_calls.specs.declared.reply.Reply.{Reply}
pub use Rattle.wf_film.specs.declared.form.FilmForm.{FilmForm}
pub use Rattle.wf_film.specs.Film.{Frame, frame_bytes, frame_of, tail_bytes}
pub use Rattle.wf_image.specs.Bitmap.{Bitmap}
unfoldable pub use Rattle.wf_image.specs.Bitmap.{drawn}
pub use Rattle.wf_image.specs.Contents.{image_of}
pub use Rattle.wf_image.specs.declared.canvas.Canvas.{Canvas}
pub use Rattle.wf_image.specs.declared.paint.Paint.{Paint}
pub use Rattle.wf_io.specs.Bytes.{Puts, PutsPart}
pub use Rattle.wf_io.specs.Parts.{puts_both, stops_late}
pub use Rattle.wf_machine.specs.Object.{IsPaintable, IsStep, SamePayload}
pub use Rattle.wf_model.specs.Beginnings.{by_begin, next_is, port_is}
pub use Rattle.wf_model.specs.Effects.{effect, moves_frame}
pub use Rattle.wf_model.specs.Frames.{Beginning, home_if, is_of_frame, is_running, is_target, job_of, next_images, next_image_of}
pub use Rattle.wf_model.specs.Calls.{begin_call}
pub use Rattle.wf_model.specs.Frames.{running_of, same_kind, scene_streams, start}
pub use Rattle.wf_model.specs.Picture.{Images}
pub use Rattle.wf_model.specs.State.{Running, State}
unfoldable pub use Rattle.wf_model.specs.Step.{act, step}
pub use Rattle.wf_pixel.specs.Choice.{same_format, same_size}
pub use Rattle.wf_pixel.specs.declared.Format.{Format}
pub use Rattle.wf_pixel.specs.declared.Size.{Size}
pub use Rattle.wf_scene.specs.declared.Scene.{Scene}
pub use Rattle.wf_script.specs.Script.{PlainScript}
pub use Rattle.wf_script.specs.declared.line.Line.{Line}
pub use Rattle.wf_script.specs.declared.line.Verb.{Verb}
pub use Rattle.wf_script.specs.declared.name.Name.{Name}
pub use Rattle.wf_stream.specs.Buffers.{Buffers, acquired}
pub use Rattle.wf_stream.specs.Streams.{KeptStream, stream_at, stream_of}
pub use Rattle.wf_turn.specs.Calls.{context_call, element_call, plain_call}
pub use Rattle.wf_turn.specs.Puts.{IsPut}
pub use Rattle.wf_turn.specs.Films.{PlaysFilm}
pub use Rattle.wf_turn.specs.Index.{names_of, next_place, place_in}
pub use Rattle.wf_turn.specs.Inside.{IsProgram, program_of}
pub use Rattle.wf_turn.specs.Moments.{Begins, IsOfMoment}
pub use Rattle.wf_turn.specs.Names.{Table, bound_by, bound_name, bound_names, known, value_of}
pub use Rattle.wf_turn.specs.Passing.{IsPlace, is_event_of}
pub use Rattle.wf_turn.specs.Play.{earlier, first_client, frames_after, is_marked, replay, replay_turn, same_turn}
unfoldable pub use Rattle.wf_turn.specs.Play.{replay_from, serial_from}
pub use Rattle.wf_turn.specs.Play.{serial_order}
pub use Rattle.wf_turn.specs.Played.{Plays, PlaysTurn, Shows, StopsTurns, TurnedFirst}
pub use Rattle.wf_turn.specs.Playing.{Answers, Ends, EndsNext, HasNoTurn, IsCast, StandsOwn, Takes, TakesNext, Turned, frames_if}
pub use Rattle.wf_turn.specs.Playing.{may_turn, show_of, shown_by, wanted_now, with_frames}
pub use Rattle.wf_turn.specs.Program.{Program, asked_for, asked_next, at_port, before, bound, first_call, first_line, first_of}
pub use Rattle.wf_turn.specs.Program.{go_on, issued, handle, in_setup, is_event, is_work, kept_first, line_done, lines_from}
pub use Rattle.wf_calls.specs.Replies.{given_canvas}
pub use Rattle.wf_turn.specs.Program.{next, place_of, plain, port_count, program, setup_lines, silent, skipped, taught}
pub use Rattle.wf_model.specs.Picture.{painted_job}
pub use Rattle.wf_turn.specs.Program.{ticking, took, took_at, took_canvas, took_first, took_frame, took_job, took_phase, waiting, wanted_at}
pub use Rattle.wf_turn.specs.Program.{unheld, worked}
pub use Rattle.wf_calls.specs.Replies.{replied, with_canvas, with_job}
pub use Rattle.wf_turn.specs.Quota.{all_left, left, line_quota, lines_left, most_turns, quota, quota_of, quota_of_all}
pub use Rattle.wf_turn.specs.Ready.{AreOf, IsAsking, IsAt, IsFit, IsWork}
pub use Rattle.wf_turn.specs.Serial.{IsNextTurn, IsRun}
pub use Rattle.wf_turn.specs.Turns.{Show, all_taught, answered, frames_of, inherited, is_setting_up, opening_show, program_at, shown}
unfoldable pub use Rattle.wf_turn.specs.Turns.{turn}
pub use Rattle.wf_turn.specs.declared.program.Program.TheInside.{Inside}
pub use Rattle.wf_turn.specs.declared.stage.Phase.{Phase}
pub use Rattle.wf_turn.specs.declared.stage.Stage.{Stage}
pub use Rattle.wf_turn.specs.declared.stage.Wanted.{Wanted}
pub use Rattle.wf_words.specs.Each.{each_at, each_mapped}
pub use Rattle.wf_words.specs.Keyed.{is_in}
pub use Rattle.wf_words.specs.Places.{get_map, get_set}
