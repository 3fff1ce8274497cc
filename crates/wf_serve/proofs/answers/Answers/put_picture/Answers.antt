use Rattle.std.proofs.Common.{◌≡◌, ◌∙◌, ◌+◌, ◌++◌, ap, append_assoc, length, sym, arith}
use Rattle.wf_image.specs.Bitmap.{Bitmap}
use Rattle.wf_wire.specs.Answers.{image_bytes}
use Rattle.wf_serve.specs.AnswerBytes.{head_bytes}
use Rattle.wf_serve.proofs.answers.Answers.put_picture.Goals as goal

-- how many bytes come with the head
with_sides : (image : Bitmap) → length (image_bytes image) ≡ 4 + length image.bytes
with_sides image = omega arith

pub returns : goal.returns
returns c =
    c.append_picture.ensures.items ∙ ap (λ l. l ++ image_bytes c.args.image.now) c.append.ensures.items
    ∙ append_assoc c.self.inside.bytes.items c.head_of.result (image_bytes c.args.image.now)
    ∙ (λ i. c.self.view_is i ++ (c.head_of.ensures i ++ image_bytes c.args.image.now))
    ∙ ap (λ n. c.args.self.now ++ (head_bytes c.args.client c.args.number c.args.told n ++ image_bytes c.args.image.now))
    (ap (λ bytes. 4 + length bytes) c.bytes_of.ensures.value ∙ sym (with_sides c.args.image.now))
