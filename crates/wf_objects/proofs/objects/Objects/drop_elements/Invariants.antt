use Rattle.std.proofs.Common.{◌≡◌, slice_get}
use Rattle.wf_stream.specs.Names.{Recounts}
use Rattle.wf_model.specs.Names.{core_names}
use Rattle.wf_objects.specs.Fits.{Fits}
use Rattle.wf_objects.specs.Losses.{Loses, but_context}
use Rattle.wf_objects.proofs.ObjectsLoseTheirs.{Stands, element_count}
use Rattle.wf_objects.proofs.objects.Objects.drop_elements.Given as goal

-- objects and store fit, only handles and names went, and all but the context is as it was
abbrev pub invariant-loop-element : goal.invariant-loop-element
invariant-loop-element l =
    record {
      fits : Fits l.self l.store;
      loses : Loses l.fn.store l.store;
      names : Recounts (core_names l.fn.self) (core_names l.self) l.fn.store l.store;
      rest : but_context l.context l.self ≡ but_context l.context l.fn.self;
      here : Stands l.context l.place l.self.contexts;
    }

-- one goes each time
abbrev pub decreases-loop-element : goal.decreases-loop-element
decreases-loop-element l = element_count (slice_get l.self.contexts l.place)
