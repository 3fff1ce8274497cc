-- Runs of inserts and removes on a cached scene.
use Rattle.std.specs.Prelude.{ℕ, List, ◌==◌, fold, count_by, Result, Ok, Err}
use Rattle.wf_scene.specs.declared.attributes.Refused.{Refused}
use Rattle.wf_scene.specs.Cached.{CachedScene, insert, remove}

-- an element is put above another, or to the bottom by 0, or is taken out
pub data Move : Type 0 where
  put : ℕ → ℕ → Move
  take : ℕ → Move

-- what a call leaves, which changes nothing where it is refused
abbrev pub left_after : CachedScene → Result CachedScene Refused → CachedScene
left_after before (Ok after) = after
left_after before (Err refusal) = before

abbrev pub moved : CachedScene → Move → CachedScene
moved c (put handle base) = left_after c (insert handle base c)
moved c (take handle) = left_after c (remove handle c)

-- a scene after moves, the first one first
abbrev pub scene_after : CachedScene → List Move → CachedScene
scene_after c moves = fold moved c moves

-- how often a handle stands in an order
abbrev pub times : ℕ → List ℕ → ℕ
times handle order = count_by (λ h. h == handle) order
