-- What is drawn on the write buffer that a client holds, and what messages of calls ask for.
use Rattle.std.specs.Prelude.{◌≡◌, ℕ, List, length, if◌then◌else◌}
use Rattle.wf_image.specs.declared.canvas.Canvas.{Canvas}
use Rattle.wf_image.specs.Paints.{painted}
use Rattle.wf_calls.specs.declared.code.Code.TheVariants as code
use Rattle.wf_host.specs.Held.{canvas_of}
use Rattle.wf_host.specs.declared.told.Told.{Told}
use Rattle.wf_wire.specs.declared.message.Message.{Message}
use Rattle.wf_wire.specs.declared.message.Message.TheVariants as message
use Rattle.wf_guard.specs.Serving.{Asked, Served, drawn, refused_by, with_held}
use Rattle.wf_guard.specs.Serving.Asked.{discard, draw, plain, post}
use Rattle.wf_serve.specs.Pixels.{may_put, put}
use Rattle.wf_serve.specs.declared.pixels.Rectangle.{Rectangle}

-- what a message of a call or of a paint asks for
abbrev pub asked_of : Message → Asked
asked_of (message.Ask r) = plain r
asked_of message.Post = post
asked_of message.Discard = discard
asked_of (message.Paint paint) = draw (λ image. painted image paint)

-- pixels are put into the canvas, or are not those of a rectangle of it
abbrev pub put_on : ℕ → Rectangle → List ℕ → Served → Canvas → Served × Told
put_on client r pixels v canvas =
    let x : Served × Told = drawn client (put r pixels) v canvas in
    if may_put canvas.image r (length pixels) then x else (x.0, refused_by code.IllegalArgument)

-- on the write buffer that its client holds, if it holds one
abbrev pub put_by : ℕ → Rectangle → List ℕ → Served → Served × Told
put_by client r pixels v = with_held (put_on client r pixels v) v (canvas_of client v.held)

abbrev pub Puts : ℕ → Rectangle → List ℕ → Served → Served → Told → Type 0
Puts client r pixels old new t = put_by client r pixels old ≡ (new, t)
