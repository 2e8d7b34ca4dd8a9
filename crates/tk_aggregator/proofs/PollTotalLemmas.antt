-- Poll counts once all was taken in.
use Rattle.std.proofs.Common.{◌≡◌, ◌≢◌, ℕ, ◌+◌, ◌-◌, ◌*◌, ◌^◌, ◌<◌, ◌≤◌, Bool, true, false, cond, not, nat_eq, List, [], ◌∷◌, length, None, Some, refl, ap, sym, ◌∙◌, subst, arith, ⊎_elim}
use Rattle.std.specs.Prelude.{Option, count_by, ◌&&◌}
use Rattle.std.specs.Option.{option_map_or}
use Rattle.std.specs.List.{All}
use Rattle.std.proofs.lemmas.Bool.{eq-eqb, ne_eqb, eqb-true}
use Rattle.std.proofs.lemmas.List.Elements.{All-nil, All-cons, All-head, All-tail}
use Rattle.std.proofs.lemmas.List.Sums.{count_by-le-length}
use Rattle.tk_core.specs.Lists.{capped}
use Rattle.tk_cell.specs.Views.{times}
use Rattle.tk_cell.proofs.ListLemmas.{dec_eq, times_itself, times_other}
use Rattle.tk_events.specs.declared.buffer.view.Returned.{Returned}
use Rattle.tk_events.specs.declared.event.Shown.{Shown}
use Rattle.tk_events.specs.declared.event.Shown.TheVariants.{MadeTask, MadeResource, MadeOp, Polled}
use Rattle.tk_events.specs.declared.item.Offer.{Offer}
use Rattle.tk_events.specs.Offers.{by}
use Rattle.tk_events.specs.Buffer.{numbers_known}
use Rattle.tk_events.specs.Handles.{HasOwnIds}
use Rattle.tk_stream.specs.Tables.{PollCounts, counts_id, counts_of, item_with, put_item}
use Rattle.tk_stream.specs.Polls.{one_more, counted}
use Rattle.tk_aggregator.specs.Absorbing.{Infos, absorbed, absorb}
use Rattle.tk_aggregator.specs.Contents.{content_of}
use Rattle.tk_aggregator.specs.Finished.{is_ready_poll, is_pending_poll, kept_by_all}
use Rattle.tk_aggregator.proofs.KeptIdLemmas.{count_cons, count_more, count_kept, cond_yes, cond_no}

-- ---- what recorders kept is together what was taken

module _ (test : Offer → Bool) where
  -- of what was taken of each of these recorders, together
  total_by : List Returned → List Offer → ℕ
  total_by [] os = 0
  total_by (r ∷ rs) os = count_by test (by r.number os) + total_by rs os

  total_kept : (known : List Returned) (os : List Offer) → All (λ (r : Returned). by r.number os ≡ r.kept) known → count_by test (kept_by_all known) ≡ total_by known os
  unfolding total_by
  total_kept [] os all = refl
  total_kept (r ∷ rs) os all =
      let a = count_more test r.kept (kept_by_all rs) in
      let b : count_by test (by r.number os) ≡ count_by test r.kept = ap (λ (l : List Offer). count_by test l) (All-head (λ (x : Returned). by x.number os ≡ x.kept) r rs all) in
      let c = total_kept rs os (All-tail (λ (x : Returned). by x.number os ≡ x.kept) r rs all) in
      omega (arith, a, b, c)

  total_none : (known : List Returned) → total_by known [] ≡ 0
  unfolding total_by
  total_none [] = refl
  total_none (r ∷ rs) = let a = total_none rs in omega (arith, a)

  total_passed : (known : List Returned) (o : Offer) (os : List Offer) → test o ≡ true → total_by known (o ∷ os) ≡ times o.recorder (numbers_known known) + total_by known os
  unfolding total_by
  total_passed [] o os is = refl
  total_passed (r ∷ rs) o os is =
      let a = count_kept (λ (x : Offer). nat_eq x.recorder r.number) test o os in
      let rest = total_passed rs o os is in
      let one = cond_yes (test o) 1 is in
      ⊎_elim
      (λ (e : r.number ≡ o.recorder).
      let b = cond_yes (nat_eq o.recorder r.number) (cond (test o) 1 0) (eq-eqb o.recorder r.number (sym e)) in
      let c : times o.recorder (r.number ∷ []) ≡ 1 = subst (λ (n : ℕ). times n (r.number ∷ []) ≡ 1) e (times_itself r.number) in
      omega (arith, a, b, c, one, rest))
      (λ (ne : r.number ≢ o.recorder).
      let b = cond_no (nat_eq o.recorder r.number) (cond (test o) 1 0) (ne_eqb o.recorder r.number (λ e. ne (sym e))) in
      let c = times_other r.number o.recorder ne in
      omega (arith, a, b, c, rest))
      (dec_eq r.number o.recorder)

  total_skipped : (known : List Returned) (o : Offer) (os : List Offer) → test o ≡ false → total_by known (o ∷ os) ≡ total_by known os
  unfolding total_by
  total_skipped [] o os is = refl
  total_skipped (r ∷ rs) o os is =
      let a = count_kept (λ (x : Offer). nat_eq x.recorder r.number) test o os in
      let b = none_of (nat_eq o.recorder r.number) (cond (test o) 1 0) (cond_no (test o) 1 is) in
      let rest = total_skipped rs o os is in
      omega (arith, a, b, rest)
    where
      none_of : (t : Bool) (v : ℕ) → v ≡ 0 → cond t v 0 ≡ 0
      none_of true v z = z
      none_of false v z = refl

  total_taken : (known : List Returned) (os : List Offer) → All (λ (o : Offer). times o.recorder (numbers_known known) ≡ 1) os → total_by known os ≡ count_by test os
  total_taken known [] all = total_none known
  total_taken known (o ∷ os) all = go (test o) refl (total_taken known os (All-tail (λ (x : Offer). times x.recorder (numbers_known known) ≡ 1) o os all))
    where
      go : (b : Bool) → test o ≡ b → total_by known os ≡ count_by test os → total_by known (o ∷ os) ≡ count_by test (o ∷ os)
      go true is rest =
          let a = total_passed known o os is in
          let c = All-head (λ (x : Offer). times x.recorder (numbers_known known) ≡ 1) o os all in
          let d = count_cons test o os in
          let one = cond_yes (test o) 1 is in
          omega (arith, a, rest, c, d, one)
      go false is rest =
          let a = total_skipped known o os is in
          let d = count_cons test o os in
          let one = cond_no (test o) 1 is in
          omega (arith, a, rest, d, one)

  pub kept_is_taken : (known : List Returned) (taken : List Offer) → All (λ (r : Returned). by r.number taken ≡ r.kept) known → All (λ (o : Offer). times o.recorder (numbers_known known) ≡ 1) taken
      → count_by test (kept_by_all known) ≡ count_by test taken
  kept_is_taken known taken all each = total_kept known taken all ∙ total_taken known taken each

  -- they are no more than ids have numbers
  pub kept_few : (known : List Returned) → All HasOwnIds known → count_by test (kept_by_all known) ≤ length known * (2 ^ 40 - 1)
  kept_few [] all = omega arith
  kept_few (r ∷ rs) all =
      let a = count_more test r.kept (kept_by_all rs) in
      let b = count_by-le-length test r.kept in
      let own = All-head HasOwnIds r rs all in
      let few = own.few in
      let rest = kept_few rs (All-tail HasOwnIds r rs all) in
      omega (arith, a, b, few, rest)

-- ---- the counts of one resource

abbrev most : ℕ
most = 2 ^ 64 - 1

capped_few : (n : ℕ) → n ≤ most → capped n ≡ n
capped_few n le = omega (arith, le)

put_same : (id x y : ℕ) (cs : List PollCounts) → item_with counts_id id (put_item counts_id (id, x, y) cs) ≡ Some (id, x, y)
put_same id x y [] = ap (λ (b : Bool). cond b (Some (id, x, y)) None) (eq-eqb id id refl)
put_same id x y (c ∷ cs) = go (nat_eq id c.0) refl (put_same id x y cs)
  where
    go : (b : Bool) → nat_eq id c.0 ≡ b → item_with counts_id id (put_item counts_id (id, x, y) cs) ≡ Some (id, x, y) → item_with counts_id id (cond b ((id, x, y) ∷ cs) (c ∷ put_item counts_id (id, x, y) cs)) ≡ Some (id, x, y)
    go true is rest = ap (λ (b : Bool). cond b (Some (id, x, y)) (item_with counts_id id cs)) (eq-eqb id id refl)
    go false is rest = ap (λ (b : Bool). cond b (Some c) (item_with counts_id id (put_item counts_id (id, x, y) cs))) is ∙ rest

put_other : (id other x y : ℕ) → other ≢ id → (cs : List PollCounts) → item_with counts_id id (put_item counts_id (other, x, y) cs) ≡ item_with counts_id id cs
put_other id other x y ne [] = ap (λ (b : Bool). cond b (Some (other, x, y)) None) (ne_eqb id other (λ e. ne (sym e)))
put_other id other x y ne (c ∷ cs) = go (nat_eq other c.0) refl (put_other id other x y ne cs)
  where
    go : (b : Bool) → nat_eq other c.0 ≡ b → item_with counts_id id (put_item counts_id (other, x, y) cs) ≡ item_with counts_id id cs → item_with counts_id id (cond b ((other, x, y) ∷ cs) (c ∷ put_item counts_id (other, x, y) cs)) ≡ item_with counts_id id (c ∷ cs)
    go true is rest =
        let same = eqb-true other c.0 is in
        ap (λ (b : Bool). cond b (Some (other, x, y)) (item_with counts_id id cs)) (ne_eqb id other (λ e. ne (sym e)))
        ∙ sym (ap (λ (b : Bool). cond b (Some c) (item_with counts_id id cs)) (ne_eqb id c.0 (λ e. ne (same ∙ sym e))))
    go false is rest = ap (λ (o : Option PollCounts). cond (nat_eq id c.0) (Some c) o) rest

module _ (id : ℕ) where
  shows : Option PollCounts → ℕ × ℕ
  shows o = option_map_or (λ (c : PollCounts). (c.1, c.2)) o (0, 0)

  counted_same : (ready : Bool) (cs : List PollCounts) (a b : ℕ) → counts_of id cs ≡ (a, b) → a + cond ready 1 0 ≤ most → b + cond (not ready) 1 0 ≤ most
      → counts_of id (counted id ready cs) ≡ (a + cond ready 1 0, b + cond (not ready) 1 0)
  unfolding shows
  counted_same ready cs a b is few_a few_b =
      let now = one_more ready (counts_of id cs) in
      ap shows (put_same id now.0 now.1 cs) ∙ (ap (λ (c : ℕ × ℕ). one_more ready c) is ∙ go ready few_a few_b)
    where
      go : (ready : Bool) → a + cond ready 1 0 ≤ most → b + cond (not ready) 1 0 ≤ most → one_more ready (a, b) ≡ (a + cond ready 1 0, b + cond (not ready) 1 0)
      go true p q = λ i. (capped_few (a + 1) p i, none b i)
        where
          none : (n : ℕ) → n ≡ n + 0
          none n = omega arith
      go false p q = λ i. (none a i, capped_few (b + 1) q i)
        where
          none : (n : ℕ) → n ≡ n + 0
          none n = omega arith

  counted_poll : (m : ℕ) (ready : Bool) (cs : List PollCounts) (a b : ℕ) → counts_of id cs ≡ (a, b) → a + cond (nat_eq m id && ready) 1 0 ≤ most → b + cond (nat_eq m id && not ready) 1 0 ≤ most
      → counts_of id (counted m ready cs) ≡ (a + cond (nat_eq m id && ready) 1 0, b + cond (nat_eq m id && not ready) 1 0)
  unfolding shows
  counted_poll m ready cs a b is few_a few_b = ⊎_elim
      (λ (e : m ≡ id).
      let yes = eq-eqb m id e in
      subst (λ (t : Bool). counts_of id (counted m ready cs) ≡ (a + cond (t && ready) 1 0, b + cond (t && not ready) 1 0)) (sym yes)
      (subst (λ (n : ℕ). counts_of id (counted n ready cs) ≡ (a + cond ready 1 0, b + cond (not ready) 1 0)) (sym e)
      (counted_same ready cs a b is (subst (λ (t : Bool). a + cond (t && ready) 1 0 ≤ most) yes few_a) (subst (λ (t : Bool). b + cond (t && not ready) 1 0 ≤ most) yes few_b))))
      (λ (ne : m ≢ id).
      let now = one_more ready (counts_of m cs) in
      subst (λ (t : Bool). counts_of id (counted m ready cs) ≡ (a + cond (t && ready) 1 0, b + cond (t && not ready) 1 0)) (sym (ne_eqb m id ne))
      (ap shows (put_other id m now.0 now.1 ne cs) ∙ (is ∙ (λ i. (none a i, none b i)))))
      (dec_eq m id)
    where
      none : (n : ℕ) → n ≡ n + 0
      none n = omega arith

  none_more : (n : ℕ) → n ≡ n + 0
  none_more n = omega arith

  -- one event more
  counts_after : (e : Shown) (infos : Infos) (a b : ℕ) → counts_of id infos.counts ≡ (a, b) → a + cond (is_ready_poll id (content_of e)) 1 0 ≤ most → b + cond (is_pending_poll id (content_of e)) 1 0 ≤ most
      → counts_of id (absorbed infos e).counts ≡ (a + cond (is_ready_poll id (content_of e)) 1 0, b + cond (is_pending_poll id (content_of e)) 1 0)
  counts_after (MadeTask info ledger caller times) infos a b is p q = is ∙ (λ i. (none_more a i, none_more b i))
  counts_after (MadeResource info ledger caller) infos a b is p q = is ∙ (λ i. (none_more a i, none_more b i))
  counts_after (MadeOp info ledger caller) infos a b is p q = is ∙ (λ i. (none_more a i, none_more b i))
  counts_after (Polled op) infos a b is p q = counted_poll op.resource op.ready infos.counts a b is p q

  -- and all of them
  pub counts_absorbed : (es : List Shown) (infos : Infos) (a b : ℕ) → counts_of id infos.counts ≡ (a, b) → a + count_by (λ (x : Shown). is_ready_poll id (content_of x)) es ≤ most → b + count_by (λ (x : Shown). is_pending_poll id (content_of x)) es ≤ most
      → counts_of id (absorb infos es).counts ≡ (a + count_by (λ (x : Shown). is_ready_poll id (content_of x)) es, b + count_by (λ (x : Shown). is_pending_poll id (content_of x)) es)
  counts_absorbed [] infos a b is p q = is ∙ (λ i. (none_more a i, none_more b i))
  counts_absorbed (e ∷ es) infos a b is p q =
      let x : ℕ = cond (is_ready_poll id (content_of e)) 1 0 in
      let y : ℕ = cond (is_pending_poll id (content_of e)) 1 0 in
      let r = count_cons (λ (x : Shown). is_ready_poll id (content_of x)) e es in
      let s = count_cons (λ (x : Shown). is_pending_poll id (content_of x)) e es in
      let now = counts_after e infos a b is (omega (arith, p, r)) (omega (arith, q, s)) in
      let rest = counts_absorbed es (absorbed infos e) (a + x) (b + y) now (omega (arith, p, r)) (omega (arith, q, s)) in
      let left : a + x + count_by (λ (x : Shown). is_ready_poll id (content_of x)) es ≡ a + count_by (λ (x : Shown). is_ready_poll id (content_of x)) (e ∷ es) = omega (arith, r) in
      let right : b + y + count_by (λ (x : Shown). is_pending_poll id (content_of x)) es ≡ b + count_by (λ (x : Shown). is_pending_poll id (content_of x)) (e ∷ es) = omega (arith, s) in
      rest ∙ (λ i. (left i, right i))

-- ---- counts stand there for polled resources alone

abbrev IsPolled : PollCounts → Type 0
IsPolled c = 0 < c.1 + c.2

put_polled : (new : PollCounts) → IsPolled new → (cs : List PollCounts) → All IsPolled cs → All IsPolled (put_item counts_id new cs)
put_polled new p [] all = All-cons IsPolled new [] p (All-nil IsPolled)
put_polled new p (c ∷ cs) all = go (nat_eq new.0 c.0) (put_polled new p cs (All-tail IsPolled c cs all))
  where
    go : (b : Bool) → All IsPolled (put_item counts_id new cs) → All IsPolled (cond b (new ∷ cs) (c ∷ put_item counts_id new cs))
    go true rest = All-cons IsPolled new cs p (All-tail IsPolled c cs all)
    go false rest = All-cons IsPolled c (put_item counts_id new cs) (All-head IsPolled c cs all) rest

more_than_none : (ready : Bool) (c : ℕ × ℕ) → 0 < (one_more ready c).0 + (one_more ready c).1
more_than_none true c = omega arith
more_than_none false c = omega arith

polled_after : (e : Shown) (infos : Infos) → All IsPolled infos.counts → All IsPolled (absorbed infos e).counts
polled_after (MadeTask info ledger caller times) infos all = all
polled_after (MadeResource info ledger caller) infos all = all
polled_after (MadeOp info ledger caller) infos all = all
polled_after (Polled op) infos all =
    let now = one_more op.ready (counts_of op.resource infos.counts) in
    put_polled (op.resource, now.0, now.1) (more_than_none op.ready (counts_of op.resource infos.counts)) infos.counts all

pub polled_absorbed : (es : List Shown) (infos : Infos) → All IsPolled infos.counts → All IsPolled (absorb infos es).counts
polled_absorbed [] infos all = all
polled_absorbed (e ∷ es) infos all = polled_absorbed es (absorbed infos e) (polled_after e infos all)
