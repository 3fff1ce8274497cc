-- How a cached scene is kept.
use Rattle.wf_scene.specs.declared.cached.Cached.TheInside.{Inside}
use Rattle.wf_scene.specs.Cached.{CachedScene, IsOrderly}
use Rattle.wf_scene.specs.Slots.{IsKept, elements_in, order_in}

-- what the fields stand for
abbrev pub scene_inside : Inside → CachedScene
scene_inside c =
    record {
      size = c.size;
      on_screen = c.on_screen;
      turn = c.turn;
      background = c.background;
      elements = elements_in c.slots;
      order = order_in c.slots;
    }

-- what holds of the fields of every cached scene
pub record IsSound (c : Inside) : Type 0 where
  pub orderly : IsOrderly (scene_inside c)
  pub kept : IsKept c.slots
