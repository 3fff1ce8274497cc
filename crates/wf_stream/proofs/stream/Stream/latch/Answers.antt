use Rattle.std.proofs.Common.{◌∙◌, sym, arith}
use Rattle.std.proofs.lemmas.List.Elements.{All-drop, All-push}
use Rattle.wf_stream.specs.Buffers.{HasShape}
use Rattle.wf_stream.specs.Inside.{read_of}
use Rattle.wf_stream.proofs.Rings.{not_read, oldest_of, one_fewer}
use Rattle.wf_stream.proofs.stream.Stream.latch.Goals as goal

pub invariant_of-self-in-Some-before : goal.invariant_of-self-in-Some-before
invariant_of-self-in-Some-before c =
    let s = c.self.inside in
    let sound = c.self.invariant in
    let is = sym c.pop_front.ensures.value ∙ c.in-Some.is in
    let fewer = one_fewer s.waiting.items c.in-Some.image is in
    let read = c.in-Some-before.ensures.count in
    rw c.pop_front.ensures.items (record {
      sides = sound.sides;
      has = sound.has;
      count = omega (arith, sound.count, fewer, read, c.push_reserved.ensures.len);
      room = c.push_reserved.ensures.capacity ∙ sound.room;
      ring = sound.ring;
      fits = omega (arith, sound.fits, fewer);
      next = λ out deep. (let room = sound.next out deep in omega (arith, room, fewer));
      free = rw c.push_reserved.ensures.items (All-push (HasShape s.size s.format) s.free.items c.in-Some-before.old sound.free
          (sound.read c.in-Some-before.old (sym c.leave-before.ensures.image ∙ c.in-Some-before.is)));
      waiting = All-drop (HasShape s.size s.format) 1 s.waiting.items sound.waiting;
      read = λ x no. absurd cc;
    })

pub invariant_of-self-in_default-before : goal.invariant_of-self-in_default-before
invariant_of-self-in_default-before c =
    let s = c.self.inside in
    let sound = c.self.invariant in
    let is = sym c.pop_front.ensures.value ∙ c.in-Some.is in
    let fewer = one_fewer s.waiting.items c.in-Some.image is in
    let none = not_read (read_of s.read) (rw (← c.self.view_is) at c.requires)
    (sym c.leave-before.ensures.image ∙ c.in_default-before.is) in
    rw c.pop_front.ensures.items (record {
      sides = sound.sides;
      has = sound.has;
      count = omega (arith, sound.count, fewer, none);
      room = sound.room;
      ring = sound.ring;
      fits = omega (arith, sound.fits, fewer);
      next = λ out deep. (let room = sound.next out deep in omega (arith, room, fewer));
      free = sound.free;
      waiting = All-drop (HasShape s.size s.format) 1 s.waiting.items sound.waiting;
      read = λ x no. absurd cc;
    })

pub returns-clause-shape : goal.returns-clause-shape
returns-clause-shape c =
    rw (← c.self.view_is)
    (oldest_of (HasShape c.self.inside.size c.self.inside.format) c.self.inside.waiting.items c.in-Some.image
    (sym c.pop_front.ensures.value ∙ c.in-Some.is) c.self.invariant.waiting)
