use Rattle.std.proofs.Common.{◌≡◌, length}
use Rattle.wf_stream.specs.Names.{Recounts}
use Rattle.wf_model.specs.Names.{core_names}
use Rattle.wf_objects.specs.Fits.{Fits}
use Rattle.wf_objects.specs.Losses.{Loses, but_contexts_of}
use Rattle.wf_objects.proofs.objects.Objects.drop_contexts.Given as goal

-- objects and store fit, only handles and names went, and what went was of the device
abbrev pub invariant-loop-context : goal.invariant-loop-context
invariant-loop-context l =
    record {
      fits : Fits l.self l.store;
      loses : Loses l.fn.store l.store;
      names : Recounts (core_names l.fn.self) (core_names l.self) l.fn.store l.store;
      rest : but_contexts_of l.device l.self ≡ but_contexts_of l.device l.fn.self;
    }

-- one goes each time
abbrev pub decreases-loop-context : goal.decreases-loop-context
decreases-loop-context l = length l.self.contexts
