use Rattle.std.proofs.Common.{◌≡◌, ℕ, List, [], ◌∷◌, ◌++◌, All, Option, Some, None, IfSome, IfNone, ap, sym, subst, ◌∙◌, arith}
use Rattle.crossbeam_queue.specs.Passes.{view}
use Rattle.tk_events.specs.Offers.{Item, offer_of, offers_of, by}
use Rattle.tk_events.specs.declared.item.Offer.{Offer}
use Rattle.tk_events.specs.declared.buffer.view.Returned.{Returned}
use Rattle.tk_events.specs.declared.buffer.view.View.{View}
use Rattle.tk_events.specs.Buffer.{takes, returned, gives_back, IsKnown, IsBalanced}
use Rattle.tk_events.proofs.buffer.pop_beside.Goals as goal

same_known : (P : Type 0) (o : Option Item) (w v : View) → IfSome o (λ x. w ≡ takes v (offer_of x)) → IfNone o ((w ≡ v) × P) → w.known ≡ v.known
same_known P (Some x) w v some none = ap (λ (u : View). u.known) some
same_known P None w v some none = ap (λ (u : View). u.known) none.0

one_known : (made : ℕ) (all : List Offer) (known : List Returned) (r : Returned) → known ≡ r ∷ [] → All (IsKnown made all) known → by r.number all ≡ r.kept
one_known made all known r is each = (subst (λ (l : List Returned). All (IsKnown made all) l) is each 0 r (omega arith)).kept

pub returns-clause-front : goal.returns-clause-front
returns-clause-front g c =
    let popped = view c.pop-item.new.pass in
    let lender = returned (view c.args.lender) in
    let left = c.pop-item.ensures.left in
    let known : popped.known ≡ lender ∷ [] =
    same_known _ c.pop-item.result popped (view c.take_in.new.pass) c.pop-item.ensures.some c.pop-item.ensures.none
    ∙ (ap (λ (u : View). u.known) c.take_in.ensures.known ∙ ap (λ (l : List Returned). l ++ lender ∷ []) c.requires.knows_none) in (
      offers_of left.0,
      ap (λ (u : View). by lender.number (u.taken ++ offers_of left.0)) c.give_back-back.ensures.rest
          ∙ one_known popped.made (popped.taken ++ offers_of left.0) popped.known lender known left.1.known,
    )

pub returns-clause-left : goal.returns-clause-left
returns-clause-left g c =
    let popped = view c.pop-item.new.pass in
    let left = c.pop-item.ensures.left in
    let here : IsBalanced (gives_back popped) (offers_of left.0) = record {
      known = λ i d lt. absurd (omega (arith, lt));
      once = λ n. omega arith;
      named = left.1.named;
      rises = left.1.rises;
    } in
    (left.0, subst (λ (u : View). IsBalanced u (offers_of left.0)) (sym c.give_back-back.ensures.rest) here)
