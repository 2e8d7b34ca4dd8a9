use Rattle.std.proofs.Common.{◌≡◌, ℕ, ◌≤◌, List, ◌++◌, length, refl, ap, sym, ◌∙◌, subst, arith}
use Rattle.std.proofs.lemmas.List.{length-map}
use Rattle.crossbeam_queue.specs.Passes.{view}
use Rattle.tk_events.specs.declared.buffer.view.Returned.{Returned}
use Rattle.tk_events.specs.declared.buffer.view.View.{View}
use Rattle.tk_events.specs.Handles.{Taking, Retiring, HasOwnIds, IsWhole, offers_of_all}
use Rattle.tk_events.specs.Parts.{IsReading, knowing}
use Rattle.std.specs.Prelude.{All}
use Rattle.tk_events.specs.Buffer.{IsNamed}
use Rattle.tk_events.specs.Offers.{offers_of, Rises}
use Rattle.tk_events.proofs.FinishLemmas.{whole}
use Rattle.tk_events.proofs.SettledLemmas.{settled}
use Rattle.tk_events.proofs.BufferLemmas.{rises_taken, named_taken}
use Rattle.tk_events.proofs.taker.Taker.finish.Goals as goal

pub returns-then-self-clause-rises : goal.returns-then-self-clause-rises
returns-then-self-clause-rises c = subst (λ (t : Taking). Rises t.taken) c.self.view_is (rises_taken _ _ c.self.invariant.left.1)

pub returns-then-len-self-clause-rises : goal.returns-then-len-self-clause-rises
returns-then-len-self-clause-rises c = subst (λ (t : Taking). Rises t.taken) c.self.view_is (rises_taken _ _ c.self.invariant.left.1)

after : (c : goal.After-self-1) → view c.settle.new.pass ≡ knowing (view c.self.inside.pass) (offers_of_all c.args.retired.items)
after c = c.settle.ensures.same ∙ c.take_all.ensures.known

made : (c : goal.After-self-1) → (view c.settle.new.pass).made ≡ c.self.inside.recorders
made c = ap (λ (u : View). u.made) (after c) ∙ c.self.invariant.made_is

is_whole : (c : goal.After-self-1) → IsWhole c.self.inside.recorders (view c.settle.new.pass).known
is_whole c =
    let more = offers_of_all c.args.retired.items in
    let known : (view c.settle.new.pass).known ≡ more = ap (λ (u : View). u.known) (after c) ∙ ap (λ (l : List Returned). l ++ more) (c.self.invariant.begun c.if-self.false) in
    let n : length (view c.settle.new.pass).known ≡ length c.args.retired.items = ap length known ∙ length-map c.args.retired.items (λ (r : Retiring). r.offers) in
    let l = c.settle.ensures.left in
    let enough : c.self.inside.recorders ≤ length (view c.settle.new.pass).known = omega (arith, n) in
    whole (view c.settle.new.pass) (offers_of l.0) c.self.inside.recorders l.1 (made c) enough

own_ids : (c : goal.After-self-1) → All HasOwnIds (view c.settle.new.pass).known
own_ids c =
    let more = offers_of_all c.args.retired.items in
    let known : (view c.settle.new.pass).known ≡ more = ap (λ (u : View). u.known) (after c) ∙ ap (λ (l : List Returned). l ++ more) (c.self.invariant.begun c.if-self.false) in
    subst (λ (l : List Returned). All HasOwnIds l) (sym known) c.take_all.ensures.own_ids

recorders_is : (c : goal.After-self-1) → (view c.settle.new.pass).recorders ≡ c.self.inside.recorders
recorders_is c = ap (λ (u : View). u.recorders) (after c) ∙ c.self.invariant.recorders_is

pub invariant_of-self : goal.invariant_of-self
invariant_of-self c =
    let one = c.settle.ensures.own in
    let two = c.take_all.ensures.own in
    let was = c.self.invariant in
    record {
      own = (one.0 ∙ (two.0 ∙ was.own.0), one.2 ∙ (two.2 ∙ was.own.1));
      role = ap (λ (u : View). u.role) (after c) ∙ was.role;
      recorders_is = ap (λ (u : View). u.recorders) (after c) ∙ was.recorders_is;
      made_is = made c;
      left = c.settle.ensures.left;
      begun = λ f. absurd (cc);
      whole = λ _. is_whole c;
      own_ids = own_ids c;
      reading = subst (λ t. IsReading t.shared.table_id t.shared.key c.take_all.new.seat (view c.settle.new.pass)) c.deref-2.ensures
          (subst (λ (u : View). IsReading c.deref-2.result.now.shared.table_id c.deref-2.result.now.shared.key c.take_all.new.seat u) (sym c.settle.ensures.same) c.take_all.ensures.reading);
    }

pub returns-clause-whole : goal.returns-clause-whole
returns-clause-whole c p low high = is_whole c p low (subst (λ (n : ℕ). p ≤ n) (ap (λ (u : View). u.recorders) (after c) ∙ c.self.invariant.recorders_is) high)

pub returns-clause-left : goal.returns-clause-left
returns-clause-left c = let l = c.settle.ensures.left in (offers_of l.0, λ k d lt. (l.1.known k d lt).kept)

pub returns-clause-rises : goal.returns-clause-rises
returns-clause-rises c = rises_taken _ _ c.settle.ensures.left.1

pub returns-clause-named : goal.returns-clause-named
returns-clause-named c =
    subst (λ (n : ℕ). All (IsNamed n) (view c.settle.new.pass).taken) (made c ∙ sym (ap (λ (u : View). u.recorders) (after c) ∙ c.self.invariant.recorders_is))
    (named_taken _ _ c.settle.ensures.left.1)

pub returns-clause-settled : goal.returns-clause-settled
returns-clause-settled c =
    let was = c.self.invariant in
    let l = c.settle.ensures.left in
    settled (view c.settle.new.pass) (offers_of l.0) c.self.inside.recorders _ l.1 (made c) (subst (λ (n : ℕ). n ≤ 64) was.recorders_is was.reading.few) (is_whole c) (own_ids c) (recorders_is c) refl refl
