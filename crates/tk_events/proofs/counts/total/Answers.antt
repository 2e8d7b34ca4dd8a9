use Rattle.std.proofs.Common.{◌≡◌, ℕ, ◌+◌, ◌*◌, ◌<◌, ◌≤◌, List, set, length, slice_index, ap, sym, ◌∙◌, subst, arith}
use Rattle.std.specs.List.{All}
use Rattle.std.proofs.lemmas.List.{length-set}
use Rattle.atomic_table.specs.Table.{Me}
use Rattle.tk_events.specs.declared.counts.view.Tally.{Tally}
use Rattle.tk_events.specs.declared.counts.view.View.{View}
use Rattle.tk_events.specs.Counts.{most, word_of, total_of}
use Rattle.tk_events.proofs.CountTotalLemmas.{sum_step, ahead_step, reached_step, others_step, exact_step, total_exact}
use Rattle.tk_events.proofs.counts.total.Goals as goal

with_seen : Me ℕ View → List ℕ → Me ℕ View
with_seen m s = (record m.0 { seen = s }, m.1)

pub loop-p-preserved : goal.loop-p-preserved
unfolding with_seen
loop-p-preserved c =
    let k = c.args.kind in
    let p = c.loop-p.p in
    let n = c.args.adders in
    let x = c.read-sum.result in
    let before = c.args.seat.now.me in
    let now = c.loop-p.seat.me in
    let next = c.read-sum.new.seat.me in
    let was = c.loop-p.invariant in
    let reads = c.read-sum.ensures.reads in
    let pl : p < n = omega arith in
    let seen : next.0.seen ≡ set now.0.seen (3 * p + k) x = ap (λ (m : Me ℕ View). m.0.seen) reads.view in
    let known : now.0.known ≡ before.0.known = ap (λ (m : Me ℕ View). m.0.known) was.rest in
    let small : x ≤ most = reads.small in
    let bound : c.loop-p.sum ≤ p * most = was.bound in
    record {
      own = c.read-sum.ensures.own ∙ was.own;
      rest = reads.view ∙ (ap (λ (m : Me ℕ View). with_seen m (set now.0.seen (3 * p + k) x)) was.rest ∙ ap (λ (s : List ℕ). with_seen before s) (sym seen));
      size = ap length seen ∙ (length-set now.0.seen (3 * p + k) x ∙ was.size);
      sum = sum_step k p n x before.0.seen now.0.seen next.0.seen c.requires.kind pl was.size seen c.loop-p.sum was.sum;
      ahead = ahead_step k p n x before.0.seen now.0.seen next.0.seen c.requires.kind pl was.size seen was.ahead;
      reached = reached_step k p n x before.0.seen now.0.seen next.0.seen c.requires.kind pl was.size seen c.loop-p.sum was.ahead reads.rises was.reached;
      others = others_step k p n x before.0.seen now.0.seen next.0.seen c.requires.kind pl was.size seen was.others;
      exact = exact_step k p n x before.0.seen now.0.seen next.0.seen c.requires.kind pl was.size seen before.0.known was.exact
          (subst (λ (l : List Tally). All (λ t. (q : ℕ) → q < 3 → 3 * p + k ≡ word_of t.number q → x ≡ slice_index t.counts q) l) known reads.exact);
      bound = omega (arith, small, bound);
    }

pub returns-clause-exact : goal.returns-clause-exact
returns-clause-exact c whole =
    let was = c.loop-p.invariant in
    let n = c.args.adders in
    let k = c.args.kind in
    let words = c.loop-p.seat.me.0.seen in
    let known = c.args.seat.now.me.0.known in
    let end : c.loop-p.p ≡ n = omega arith in
    let sum : c.loop-p.sum ≡ total_of k n words = was.sum ∙ ap (λ (q : ℕ). total_of k q words) end in
    let read : All (λ t. slice_index words (word_of t.number k) ≡ slice_index t.counts k) known = λ m d lt. let named = whole.named m d lt in was.exact m d lt named.0 (omega (arith, named.1, end)) in
    sum ∙ total_exact n k words known whole read
