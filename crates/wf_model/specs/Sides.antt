-- What a body of one side of the machine, composition or the display, leaves of its objects and of the store, and what it answers, by the
-- plain call of that side.
use Rattle.std.specs.Prelude.{◌≡◌, ℕ, Bool, not, List, filter, OnErr, Result}
use Rattle.wf_life.specs.declared.Kind.{Kind}
use Rattle.wf_life.specs.Handles.{Live}
use Rattle.wf_stream.specs.Names.{Recounts}
use Rattle.wf_stream.specs.Streams.{KeptStream, StoreView}
use Rattle.wf_calls.specs.Codes.{is_out_of_memory}
use Rattle.wf_calls.specs.Replies.{bare, told}
use Rattle.wf_calls.specs.declared.reply.Answer.{Answer}
use Rattle.wf_calls.specs.declared.reply.Refusal.{Refusal}
use Rattle.wf_calls.specs.declared.reply.Reply.{Reply}
use Rattle.wf_model.specs.Outcome.{Outcome, done_by, lacks_memory}

-- the live handles that are not of a side's own kinds
abbrev pub beside : (Kind → Bool) → List Live → List Live
beside is_own others = filter (λ l. not (is_own l.kind)) others

-- the store with these streams, as it was before streams were dropped
abbrev pub with_streams : List KeptStream → StoreView → StoreView
with_streams streams v = record v { streams = streams }

-- nothing of the store changed
abbrev pub KeepsAll : StoreView → StoreView → Type 0
KeepsAll old new = new ≡ old

-- beside names of streams a call of a side made or took handles of its own kinds at most: how many streams were numbered and the handles
-- of other kinds are as they were
pub record KeepsRest (is_own : Kind → Bool) (old new : StoreView) : Type 0 where
  pub numbered : new.numbered ≡ old.numbered
  pub others : beside is_own new.others ≡ beside is_own old.others

-- a side's calls see its objects beside the store, its objects name streams, and objects fit a store
module _ {Objects Seen : Type 0} (see : Objects → StoreView → Seen) (names_of : Objects → List ℕ) (Fits : Objects → StoreView → Type 0)
    (plain : Bool → Seen → Outcome Seen) where
  -- it leaves and answers what the plain call does before streams are dropped, where want of memory is told by the answer; a refused
  -- one changes nothing; of the store it makes or takes handles of its own at most; the names that it ended and began are counted; and
  -- objects and store fit again
  pub record Does (is_own : Kind → Bool) (old left : Objects) (store now : StoreView) (result : Result ℕ Refusal) : Type 0 where
    pub case : plain (lacks_memory result) (see old store) ≡ done_by result (see left (with_streams store.streams now))
    pub refused : OnErr result (left ≡ old)
    pub untouched : OnErr result (now ≡ store)
    pub kept : KeepsRest is_own store now
    pub names : Recounts (names_of old) (names_of left) store now
    pub fits : Fits left now

  -- a call with its reply, where the side takes a refusal into its register: it leaves and answers what the plain call does before streams
  -- are dropped; so much of the store is kept; the names that it ended and began are counted; objects and store fit again; and nothing
  -- comes with the reply
  pub record Steps (answer : Seen → Outcome Seen → Seen × Answer) (Keeps : StoreView → StoreView → Type 0) (old left : Objects)
      (store now : StoreView) (reply : Reply) : Type 0 where
    pub step : answer (see old store) (plain (is_out_of_memory reply.code) (see old store))
        ≡ (see left (with_streams store.streams now), told reply)
    pub kept : Keeps store now
    pub names : Recounts (names_of old) (names_of left) store now
    pub fits : Fits left now
    pub bare : reply ≡ bare (told reply)
