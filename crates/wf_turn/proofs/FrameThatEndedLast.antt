-- The last frame that ended into a stream: it stays the last one while no entry ends another, and each one that ends is.
use Rattle.wf_turn.proofs.Common.{◌≡◌, ◌∙◌, ◌⊎◌, ◌<◌, ◌≤◌, ℕ, List, [], ◌∷◌, ◌++◌, length, Some, refl, sym, ap}
use Rattle.wf_turn.proofs.Common.{subst, arith}
use Rattle.wf_turn.proofs.Common.{append_assoc, inl, inr, length-append, Bitmap, Turn, PlainScript, Wanted, replay, Program, next, Show}
use Rattle.wf_turn.proofs.Common.{program_at}
use Rattle.wf_turn.specs.Moments.{Asks, At, Composes, EndsInto, IsOfLastFrame}

-- an entry of a list with one more is one of the list, or that one
cut_before : (ts earlier later : List Turn) (t u : Turn) → ts ++ t ∷ [] ≡ earlier ++ u ∷ later
    → ((rest : List Turn) × (ts ≡ earlier ++ u ∷ rest)) ⊎ ((ts ≡ earlier) × (t ≡ u))
cut_before [] [] later t u cut = inr (refl, cc)
cut_before [] (e ∷ []) later t u cut = absurd cc
cut_before [] (e ∷ f ∷ earlier) later t u cut = absurd cc
cut_before (s ∷ ts) [] later t u cut = (let same : s ≡ u = cc in inl (ts, ap (λ x. x ∷ ts) same))
cut_before (s ∷ ts) (e ∷ earlier) later t u cut =
    let first : s ≡ e = cc in
    let rest : ts ++ t ∷ [] ≡ earlier ++ u ∷ later = cc in
    of_rest first (cut_before ts earlier later t u rest)
  where
    of_rest : s ≡ e → ((rest : List Turn) × (ts ≡ earlier ++ u ∷ rest)) ⊎ ((ts ≡ earlier) × (t ≡ u))
        → ((rest : List Turn) × (s ∷ ts ≡ e ∷ earlier ++ u ∷ rest)) ⊎ ((s ∷ ts ≡ e ∷ earlier) × (t ≡ u))
    of_rest first (inl x) = inl (x.0, ap (λ y. y ∷ ts) first ∙ ap (λ ys. e ∷ ys) x.1)
    of_rest first (inr x) = inr (ap (λ y. y ∷ ts) first ∙ ap (λ ys. e ∷ ys) x.0, x.1)

-- what a client asks for next is one call
pub asked_is : (show : Show) (t : Turn) (p : Program) (w x : Wanted) → program_at show t.client ≡ Some p → next p ≡ Some w → Asks show t x
    → x ≡ w
asked_is show t p w x own is asks =
    let same : asks.program ≡ p = (let both : Some asks.program ≡ Some p = sym asks.own ∙ own in cc) in
    let both : Some x ≡ Some w = sym asks.next_is ∙ ap next same ∙ is in
    cc

module _ (script : PlainScript) (earlier : List Turn) (t : Turn) (show : Show) (reached : replay script earlier ≡ Some show) where
  abbrev order : List Turn
  order = earlier ++ t ∷ []

  -- an entry of an order is one of the longer order
  abbrev pub at_more : (Holds : Show → Turn → Type 0) → At script earlier Holds → At script order Holds
  at_more Holds at = record {
    earlier = at.earlier;
    entry = at.entry;
    later = at.later ++ t ∷ [];
    cut = ap (λ ts. ts ++ t ∷ []) at.cut ∙ append_assoc at.earlier (at.entry ∷ at.later) (t ∷ []);
    moment = at.moment;
    reached = at.reached;
    holds = at.holds;
  }

  -- the entry more is one
  abbrev pub at_end : (Holds : Show → Turn → Type 0) → Holds show t → At script order Holds
  at_end Holds holds = record {
    earlier = earlier;
    entry = t;
    later = [];
    cut = refl;
    moment = show;
    reached = reached;
    holds = holds;
  }

  -- and there are no others
  pub at_either : (Holds : Show → Turn → Type 0) (at : At script order Holds)
      → ((before : At script earlier Holds) × (before.earlier ≡ at.earlier)) ⊎ Holds show t
  at_either Holds at = of_cut (cut_before earlier at.earlier at.later t at.entry at.cut)
    where
      of_cut : ((rest : List Turn) × (earlier ≡ at.earlier ++ at.entry ∷ rest)) ⊎ ((earlier ≡ at.earlier) × (t ≡ at.entry))
          → ((before : At script earlier Holds) × (before.earlier ≡ at.earlier)) ⊎ Holds show t
      of_cut (inl x) = inl (
        record {
          earlier = at.earlier;
          entry = at.entry;
          later = x.0;
          cut = x.1;
          moment = at.moment;
          reached = at.reached;
          holds = at.holds;
        },
        refl,
      )
      of_cut (inr x) =
          let both : Some at.moment ≡ Some show = sym at.reached ∙ ap (replay script) (sym x.0) ∙ reached in
          let moment : at.moment ≡ show = cc in
          inr (subst (λ s. Holds s t) moment (subst (Holds at.moment) (sym x.1) at.holds))

  module _ (stream : ℕ) where
    -- an entry that ends no frame into the stream leaves the last one
    pub last_stays : (image : Bitmap) → ((m : ℕ) → EndsInto stream m show t → ⊥) → IsOfLastFrame script earlier stream image
        → IsOfLastFrame script order stream image
    last_stays image ends_none was = record {
      number = was.number;
      begun = at_more (Composes stream was.number image) was.begun;
      ended = at_more (EndsInto stream was.number) was.ended;
      later = was.later;
      last = λ m other. of_other m other (at_either (EndsInto stream m) other);
    }
      where
        of_other : (m : ℕ) (other : At script order (EndsInto stream m))
            → ((before : At script earlier (EndsInto stream m)) × (before.earlier ≡ other.earlier)) ⊎ EndsInto stream m show t
            → length other.earlier ≤ length was.ended.earlier
        of_other m other (inl x) = subst (λ ts. length ts ≤ length was.ended.earlier) x.1 (was.last m x.0)
        of_other m other (inr ends) = absurd (ends_none m ends)

    -- one that ends a frame which was begun is its last one
    pub last_ends : (image : Bitmap) (number : ℕ) → At script earlier (Composes stream number image) → EndsInto stream number show t
        → IsOfLastFrame script order stream image
    last_ends image number begun ends = record {
      number = number;
      begun = at_more (Composes stream number image) begun;
      ended = at_end (EndsInto stream number) ends;
      later = before;
      last = λ m other. at_most m other;
    }
      where
        before : length begun.earlier < length earlier
        before =
            let whole = ap (λ (ts : List Turn). length ts) begun.cut ∙ length-append begun.earlier (begun.entry ∷ begun.later) in
            grind (arith, whole)

        at_most : (m : ℕ) (other : At script order (EndsInto stream m)) → length other.earlier ≤ length earlier
        at_most m other =
            let whole = sym (length-append earlier (t ∷ [])) ∙ ap (λ (ts : List Turn). length ts) other.cut
            ∙ length-append other.earlier (other.entry ∷ other.later) in
            grind (arith, whole)
