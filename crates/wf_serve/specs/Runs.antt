-- The messages of a core's input, and what a run of them leaves, answers and shows.
use Rattle.std.specs.Prelude.{◌≡◌, ℕ, ◌+◌, ◌&&◌, Bool, true, false, nat_le, List, [], ◌∷◌, ◌++◌, length, Option, Some, None, Result, Ok}
use Rattle.std.specs.Prelude.{Err, drop, get_or}
use Rattle.byteorder.specs.Endian.{big_number}
use Rattle.wf_guard.specs.Serving.{Served}
use Rattle.wf_io.specs.Bytes.{Puts}
use Rattle.wf_serve.specs.Heard.{Heard, Hears, heard, quietly}
use Rattle.wf_serve.specs.Putting.{PutsFront}
use Rattle.wf_serve.specs.declared.input.TheConstants.{MOST_FRAME}
use Rattle.wf_serve.specs.declared.serving.ServeStop.{ServeStop}
use Rattle.wf_serve.specs.declared.serving.ServeStop.TheVariants as stop

-- a message: who sent it, its number and its body
pub record Incoming : Type 0 where
  pub client : ℕ
  pub number : ℕ
  pub body : List ℕ

abbrev pub content_of : Incoming → List ℕ
content_of m = m.client ∷ m.number ∷ m.body

-- a frame of bytes: how many bytes follow, in four bytes, and these
pub record IsFrame (content bytes : List ℕ) : Type 0 where
  pub head : List ℕ
  pub four : length head ≡ 4
  pub count : big_number 4 head ≡ length content
  pub parts : bytes ≡ head ++ content

-- those of some messages, one after another
abbrev pub AreFrames : List Incoming → List ℕ → Type 0
AreFrames [] bytes = bytes ≡ []
AreFrames (m ∷ ms) bytes =
    (first : List ℕ) × (others : List ℕ) × IsFrame (content_of m) first × AreFrames ms others × (bytes ≡ first ++ others)

-- these bytes begin with a whole frame
abbrev pub has_frame : List ℕ → Bool
has_frame bytes =
    nat_le 4 (length bytes)
    && (nat_le 2 (big_number 4 bytes)
    && (nat_le (big_number 4 bytes) MOST_FRAME && nat_le (4 + big_number 4 bytes) (length bytes)))

-- one message after another: what is served then, what was answered, and what was shown
abbrev pub Runs : Served → List Incoming → Served → List ℕ → List ℕ → Type 0
Runs v [] w ans fs = (w ≡ v) × (ans ≡ []) × (fs ≡ [])
Runs v (m ∷ ms) w ans fs =
    (u : Served) × (a : List ℕ) × (b : List ℕ) × (f : List ℕ) × (g : List ℕ) × Hears m.client m.number m.body v u a f × Runs u ms w b g
    × (ans ≡ a ++ b) × (fs ≡ f ++ g)

-- what some messages leave, answer and show, by marks that say to which of them memory is refused; to none where no mark is left
abbrev pub ran : List Incoming → List Bool → Served → Heard
ran [] marks v = quietly v []
ran (m ∷ ms) marks v =
    let x : Heard = heard m.client m.number m.body (get_or marks 0 false) v in
    let y : Heard = ran ms (drop 1 marks) x.now in
    record { now = y.now; answers = x.answers ++ y.answers; frames = x.frames ++ y.frames }

-- the machine, the owners and the write buffers that are held are the same
pub record ServesSame (v w : Served) : Type 0 where
  pub machine : v.machine ≡ w.machine
  pub owned : v.owned ≡ w.owned
  pub held : v.held ≡ w.held

-- what the source gave, where it tells its bytes: the frames of these messages, and then this is left
abbrev pub ReadSo : List Incoming → Option (List ℕ) → Option (List ℕ) → Type 0
ReadSo ms None now = Unit {0}
ReadSo ms (Some bytes) None = ⊥
ReadSo ms (Some bytes) (Some rest) = (taken : List ℕ) × AreFrames ms taken × (bytes ≡ taken ++ rest)

-- where a run stopped: at the end of the input, where the source tells it, or at what is no frame
abbrev pub StopsAt : Option (List ℕ) → Option (List ℕ) → Option ServeStop → Type 0
StopsAt (Some bytes) (Some rest) None = bytes ≡ []
StopsAt (Some bytes) (Some rest) (Some stop.BadFrame) = has_frame bytes ≡ false
StopsAt left rest s = Unit {0}

module _ {K F : Type 0} (took : K → List ℕ → Type 0) (showed : F → List ℕ → Type 0) where
  -- messages were served: all was put that they are answered, and all shown
  pub record ServedAll (v w : Served) (input rest : Option (List ℕ)) (out now : K) (frames shown : F) : Type 0 where
    pub ms : List Incoming
    pub answers : List ℕ
    pub pictures : List ℕ
    pub read : ReadSo ms input rest
    pub runs : Runs v ms w answers pictures
    pub put : Puts took out now answers
    pub put_shown : Puts showed frames shown pictures

  -- and then one more whose answers, or whose pictures, were cut
  pub record WasCut (v : Served) (input rest : Option (List ℕ)) (out now : K) (frames shown : F) : Type 0 where
    pub middle : Served
    pub before : K
    pub showing : F
    pub left : Option (List ℕ)
    pub served : ServedAll v middle input left out before frames showing
    pub last : Incoming
    pub read : ReadSo (last ∷ []) left rest
    pub after : Served
    pub answers : List ℕ
    pub pictures : List ℕ
    pub hears : Hears last.client last.number last.body middle after answers pictures
    pub put : PutsFront took before now answers
    pub put_shown : PutsFront showed showing shown pictures

  -- a run up to where it stopped: at the end of its input, at what is no frame, where its source failed, or where a sink did
  abbrev pub RunsTo : Served → Option (List ℕ) → Option (List ℕ) → K → K → F → F → Option ServeStop → Type 0
  RunsTo v input rest out now frames shown (Some stop.AnswersFault) = WasCut v input rest out now frames shown
  RunsTo v input rest out now frames shown (Some stop.FramesFault) = WasCut v input rest out now frames shown
  RunsTo v input rest out now frames shown s =
      (w : Served) × (left : Option (List ℕ)) × ServedAll v w input left out now frames shown × StopsAt left rest s

  -- one message was served
  pub record ServedOne (v w : Served) (input rest : Option (List ℕ)) (out now : K) (frames shown : F) : Type 0 where
    pub message : Incoming
    pub read : ReadSo (message ∷ []) input rest
    pub answers : List ℕ
    pub pictures : List ℕ
    pub hears : Hears message.client message.number message.body v w answers pictures
    pub put : Puts took out now answers
    pub put_shown : Puts showed frames shown pictures

  -- or was cut
  pub record CutOne (v : Served) (input rest : Option (List ℕ)) (out now : K) (frames shown : F) : Type 0 where
    pub last : Incoming
    pub read : ReadSo (last ∷ []) input rest
    pub after : Served
    pub answers : List ℕ
    pub pictures : List ℕ
    pub hears : Hears last.client last.number last.body v after answers pictures
    pub put : PutsFront took out now answers
    pub put_shown : PutsFront showed frames shown pictures

  -- nothing was served
  pub record ServedNone (v w : Served) (input rest : Option (List ℕ)) (out now : K) (frames shown : F) (s : Option ServeStop) : Type 0 where
    pub core : w ≡ v
    pub put : now ≡ out
    pub put_shown : shown ≡ frames
    pub stops : StopsAt input rest s

  -- the next message, if there was one
  abbrev pub ServesNext : Served → Served → Option (List ℕ) → Option (List ℕ) → K → K → F → F → Result Bool ServeStop → Type 0
  ServesNext v w input rest out now frames shown (Ok true) = ServedOne v w input rest out now frames shown
  ServesNext v w input rest out now frames shown (Ok false) = ServedNone v w input rest out now frames shown None
  ServesNext v w input rest out now frames shown (Err stop.AnswersFault) = CutOne v input rest out now frames shown
  ServesNext v w input rest out now frames shown (Err stop.FramesFault) = CutOne v input rest out now frames shown
  ServesNext v w input rest out now frames shown (Err s) = ServedNone v w input rest out now frames shown (Some s)

-- a message was heard whose frame has this content, and this holds of its answers and of what it showed
abbrev pub HearsContent : List ℕ → Served → Served → (List ℕ → Type 0) → (List ℕ → Type 0) → Type 0
HearsContent content old new Answered Shown =
    (m : Incoming) × (content ≡ content_of m) × (ans : List ℕ) × (fs : List ℕ) × Hears m.client m.number m.body old new ans fs
    × Answered ans × Shown fs

-- a sink failed
abbrev pub IsOfSink : ServeStop → Type 0
IsOfSink stop.AnswersFault = Unit {0}
IsOfSink stop.FramesFault = Unit {0}
IsOfSink _ = ⊥

-- why a run stopped before its input ended, if it did
abbrev pub stop_of : {T : Type 0} → Result T ServeStop → Option ServeStop
stop_of (Ok x) = None
stop_of (Err s) = Some s
