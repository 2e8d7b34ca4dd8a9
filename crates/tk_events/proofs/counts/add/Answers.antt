use Rattle.std.proofs.Common.{ℕ, ◌+◌, ◌-◌, ◌*◌, ◌%◌, ◌^◌, sym, subst, arith}
use mathlib.Core.Option.{none}
use Rattle.atomic_table.specs.Table.{Allows, step}
use Rattle.tk_events.specs.Counts.{Counted, Adds}
use Rattle.tk_events.proofs.CountRuleLemmas.{adds_allowed}
use Rattle.tk_events.proofs.counts.add.Goals as goal

pub fetch_add-requires : goal.fetch_add-requires
fetch_add-requires c =
    let id = c.args.counts.now.shared.table_id in
    let seat = c.args.seat.now in
    let kind = c.args.kind in (
      c.requires.own.0,
      omega arith,
      subst (λ (q : ℕ). Allows (Counted c.args.counts.now.shared.key) id.slots seat.id seat.me (3 * (q - 1) + kind) (λ x. (x + 1) % 2 ^ 64) (Adds (step id.slots (3 * (q - 1) + kind) 1 0 none) seat.me))
          (sym c.requires.number.0) (adds_allowed c.args.counts.now.shared.key id.slots seat.id seat.me kind c.requires.role c.requires.kind c.requires.room),
    )
