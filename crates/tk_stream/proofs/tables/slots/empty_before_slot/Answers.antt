use Rattle.std.proofs.Common.{◌≡◌, ◌≤◌, ◌+◌, get_or, true, false, nat_lt, rules, arith}
use Rattle.std.specs.List.Sorted.{IsPartitionPoint}
use Rattle.std.proofs.lemmas.Bool.{ltb-true, ltb-false}
use Rattle.std.proofs.lemmas.List.Sorted.{IsPartitionPoint-from_clause, IsPartitionedBy-ltb, IsNonDecreasingBy-from_default}
use Rattle.tk_stream.proofs.tables.slots.empty_before_slot.Goals as goal

parted : (c : goal.After-partition_point) → IsPartitionPoint (λ e. nat_lt e c.args.slot ≡ true) (λ e. nat_lt e c.args.slot ≡ false) c.args.empty.now c.partition_point.result
parted c =
    let es = c.args.empty.now in
    IsPartitionPoint-from_clause (λ e. nat_lt e c.args.slot) es c.partition_point.result c.partition_point.ensures.partitioned
    (IsPartitionedBy-ltb (λ e. e) es c.args.slot
    (IsNonDecreasingBy-from_default (λ e. e) es 0 (λ i j le lt. let up : get_or es i 0 + j ≤ get_or es j 0 + i = c.requires i j le lt in omega (arith, up, le))))
    (λ a r f k. search rules)

pub returns-clause-before : goal.returns-clause-before
returns-clause-before c j lt = ltb-true (get_or c.args.empty.now j 0) c.args.slot ((parted c).0 j 0 (omega arith) lt)

pub returns-clause-after : goal.returns-clause-after
returns-clause-after c j le lt = ltb-false (get_or c.args.empty.now j 0) c.args.slot ((parted c).1 j 0 le lt)
