use Rattle.std.proofs.Common.{◌+◌, set, refl, sym, ◌∙◌, subst, arith}
use Rattle.tk_aggregator.proofs.ReadingLemmas.{Went, none_went, went_on, went_near, went_within, all_went}
use Rattle.tk_aggregator.proofs.ledgered.refresh_all.Goals as goal

pub loop-i-init : goal.loop-i-init
loop-i-init g c = (none_went g.T.Item.with_row g.T.Ledgered.reads c.args.table.now c.args.handles.now.items c.requires, record { same = refl; count = refl; room = refl })

pub set-requires : goal.set-requires
set-requires g c =
    went_within g.T.Item.with_row g.T.Ledgered.reads c.loop-i.i _ _ _ _ c.loop-i.invariant.0
    (went_near g.T.Item.with_row g.T.Ledgered.reads c.loop-i.i _ _ _ _ c.loop-i.invariant.0 (omega (arith, c.loop-i-test.true, c.len-i-end.ensures)))

pub loop-i-preserved : goal.loop-i-preserved
loop-i-preserved g c =
    let so_far = c.loop-i.invariant.1 in (
      subst (λ table. Went g.T.Item.with_row g.T.Ledgered.reads (c.loop-i.i + 1) c.args.table.now c.args.handles.now.items table (set c.loop-i.handles.items c.loop-i.i c.read-row.new.handle)) (sym c.set.ensures.table)
          (went_on g.T.Item.with_row g.T.Ledgered.reads c.loop-i.i _ _ _ _ c.index_mut.result.now c.read-row.result c.read-row.new.handle c.loop-i.invariant.0 (omega (arith, c.loop-i-test.true, c.len-i-end.ensures)) c.index_mut.ensures.value c.read-row.ensures),
      record { same = c.set.ensures.told ∙ so_far.same; count = c.set.ensures.count ∙ so_far.count; room = c.set.ensures.room ∙ so_far.room },
    )

pub returns-clause-reads : goal.returns-clause-reads
returns-clause-reads g c = all_went g.T.Item.with_row g.T.Ledgered.reads c.loop-i.i _ _ _ _ c.loop-i.invariant.0 (omega (arith, c.loop-i-test.false, c.len-i-end.ensures))

pub returns-clause-told : goal.returns-clause-told
returns-clause-told g c = c.loop-i.invariant.1
