-- What one call, and then another, makes of a pass.
use Rattle.std.proofs.Common.{◌≡◌, ◌∙◌, ◌+◌, List, [], ◌∷◌, ◌++◌, length, sym, ap, refl, subst, arith}
use Rattle.std.proofs.Common.{append_assoc, length-append}
use Rattle.std.proofs.lemmas.List.{append-nil}
use Rattle.std.specs.Prelude.{IsTrue}
use Rattle.wf_calls.specs.declared.call.Call.{Call}
use Rattle.wf_calls.specs.declared.reply.Reply.{Reply}
use Rattle.wf_desk.specs.History.{IsPrefix, event}
use Rattle.wf_desk.specs.Pass.{IsOwn, Made}
use Rattle.wf_machine.specs.Object.{MayAnswer, after, is_ready}
use Rattle.wf_model.specs.State.{State}
use Rattle.wf_machine.specs.Histories.{Happening, PlainPass}
use Rattle.wf_wire.specs.Grown.{AreReady, Grew}

-- histories that go on

prefix_more : (xs ys zs : List Happening) → IsPrefix xs ys → IsPrefix ys zs → IsPrefix xs zs
prefix_more xs ys zs first second = (
  first.0 ++ second.0,
  second.1 ∙ ap (λ (es : List Happening). es ++ second.0) first.1 ∙ append_assoc xs first.0 second.0,
)

pub same_history : (es : List Happening) → IsPrefix es es
same_history es = ([], sym (append-nil es))

-- events stand after what is sooner, too
ready_sooner : (h : State) (from middle seen es : List Happening) → IsPrefix from middle → AreReady h middle seen es
    → AreReady h from seen es
ready_sooner h from middle seen [] sooner ready = prefix_more from middle seen sooner ready
ready_sooner h from middle seen (e ∷ es) sooner ready =
    (ready.0, prefix_more from middle ready.0 sooner ready.1, ready.2, ready.3)

ready_more : (h : State) (from middle seen es more : List Happening) → AreReady h from middle es → AreReady h middle seen more
    → AreReady h from seen (es ++ more)
ready_more h from middle seen [] more first second = ready_sooner h from middle seen more first second
ready_more h from middle seen (e ∷ es) more first second =
    (first.0, first.1, first.2, ready_more h (first.0 ++ e ∷ []) middle seen es more first.3 second)

-- one call
module _ (c : Call) (reply : Reply) (old new : PlainPass)
    (made : Made after MayAnswer (λ h. IsTrue (is_ready h c)) old c reply new) (own : IsOwn after MayAnswer new) where
  abbrev one : List Happening
  one = event old.client c reply ∷ []

  pub grew_once : Grew one old new
  grew_once = record {
    desk = made.desk;
    client = made.client;
    opening = made.opening;
    left = made.left;
    mine = made.mine;
    ready = λ h is. (made.before, made.goes_on, made.holds h is, ([], made.seen ∙ sym (append-nil (made.before ++ one))));
    own = own;
  }

-- and then another
pub grew_more : (old middle new : PlainPass) (es more : List Happening) → Grew es old middle → Grew more middle new
    → Grew (es ++ more) old new
grew_more old middle new es more first second = record {
  desk = second.desk ∙ first.desk;
  client = second.client ∙ first.client;
  opening = second.opening ∙ first.opening;
  left = let long : length (es ++ more) ≡ length es + length more = length-append es more in omega (arith, first.left, second.left, long);
  mine = second.mine ∙ ap (λ (xs : List Happening). xs ++ more) first.mine ∙ append_assoc old.mine es more;
  ready = λ h is. ready_more h old.seen middle.seen new.seen es more (first.ready h is) (second.ready h (first.opening ∙ is));
  own = second.own;
}

-- no call
pub same_pass : (p : PlainPass) → IsOwn after MayAnswer p → Grew [] p p
same_pass p own = record {
  desk = refl;
  client = refl;
  opening = refl;
  left = omega arith;
  mine = sym (append-nil p.mine);
  ready = λ h is. same_history p.seen;
  own = own;
}
