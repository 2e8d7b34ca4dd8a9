use Rattle.std.proofs.Common.{◌≡◌, ◌+◌, ◌-◌, ◌++◌, suc, take, option_map, refl, sym, ap, ◌∙◌, arith}
use Rattle.std.proofs.lemmas.List.{length-set, take_more_set, nil_from_length}
use Rattle.std.specs.Prelude.{option_and_then}
use Rattle.tk_stream.specs.Times.{counts_from}
use Rattle.tk_stream.proofs.TimesLemmas.{none_before, one_more, all_read, some_left}
use Rattle.tk_stream.proofs.tables.times.counts_of.Goals as goal

pub loop-bucket-init : goal.loop-bucket-init
loop-bucket-init c = (omega arith, refl, none_before (counts_from 0 14 c.args.filled.now))

pub returns-in_err-count : goal.returns-in_err-count
returns-in_err-count c =
    let l = c.loop-bucket in
    let left : 14 - l.bucket ≡ suc (13 - l.bucket) = omega (arith, c.loop-bucket-test.true) in
    c.from_residual.ensures
    ∙ sym (l.invariant.2 ∙ ap (λ n. option_map (λ ns. take l.bucket l.counts ++ ns) (counts_from l.bucket n l.rest.now)) left
    ∙ ap (option_map (λ ns. take l.bucket l.counts ++ ns)) (c.take_bucket.ensures (13 - l.bucket) ∙ ap (option_and_then _) c.in_err-count.was))

pub loop-bucket-preserved : goal.loop-bucket-preserved
loop-bucket-preserved c =
    let l = c.loop-bucket in
    let left : 14 - l.bucket ≡ suc (14 - (l.bucket + 1)) = omega (arith, c.loop-bucket-test.true) in (
      omega (arith, c.loop-bucket-test.true),
      length-set l.counts l.bucket c.in_ok-count.count ∙ l.invariant.1,
      l.invariant.2 ∙ ap (λ n. option_map (λ ns. take l.bucket l.counts ++ ns) (counts_from l.bucket n l.rest.now)) left
          ∙ ap (option_map (λ ns. take l.bucket l.counts ++ ns)) (c.take_bucket.ensures (14 - (l.bucket + 1)) ∙ ap (option_and_then _) c.in_ok-count.was)
          ∙ one_more (take l.bucket l.counts) _ c.in_ok-count.count (counts_from (l.bucket + 1) (14 - (l.bucket + 1)) c.in_ok-count.after.now)
          (take_more_set l.counts l.bucket c.in_ok-count.count (omega (arith, c.loop-bucket-test.true, l.invariant.1))),
    )

pub returns-else-rest-gt0 : goal.returns-else-rest-gt0
returns-else-rest-gt0 c =
    let l = c.loop-bucket in
    let last : l.bucket ≡ 14 = omega (arith, c.loop-bucket-test.false, l.invariant.0) in
    sym (l.invariant.2 ∙ ap (λ n. option_map (λ ns. take n l.counts ++ ns) (counts_from n (14 - n) l.rest.now)) last ∙ all_read l.counts l.rest.now l.invariant.1 (nil_from_length l.rest.now (omega (arith, c.if-rest-gt0.false))))

pub returns-then-rest-gt0 : goal.returns-then-rest-gt0
returns-then-rest-gt0 c =
    let l = c.loop-bucket in
    let last : l.bucket ≡ 14 = omega (arith, c.loop-bucket-test.false, l.invariant.0) in
    sym (l.invariant.2 ∙ ap (λ n. option_map (λ ns. take n l.counts ++ ns) (counts_from n (14 - n) l.rest.now)) last ∙ some_left l.counts l.rest.now (omega (arith, c.if-rest-gt0.true)))
