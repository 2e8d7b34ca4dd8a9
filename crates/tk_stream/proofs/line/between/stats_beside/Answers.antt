use Rattle.std.proofs.Common.{◌≡◌, ◌++◌, drop, ◌+◌, Some, slice_get, ap, sym, ◌∙◌, arith}
use Rattle.std.specs.Prelude.{option_map}
use Rattle.tk_stream.specs.Fronts.{as_told, stats_beside}
use Rattle.tk_stream.specs.Kept.{kept}
use Rattle.tk_stream.proofs.FrontLemmas.{keeps_told, goes_on_stats, stats_done, stats_are}
use Rattle.tk_stream.proofs.line.between.stats_beside.Goals as goal

pub loop-i-preserved : goal.loop-i-preserved
loop-i-preserved g c =
    let xs = c.args.new.now in
    let rs = c.args.told.now.rows in
    let with_row = as_told g.T.Item.with_row in
    let same = g.T.Told.same in
    let stats_of = g.T.Told.stats_of in
    let item = c.unwrap-item.result.now in
    let at : Some item ≡ slice_get xs c.loop-i.i = sym (ap (option_map (λ t. t.now)) c.unwrap-item.ensures) ∙ c.at.ensures in (
      omega (arith, c.loop-i-test.true, c.len-i-end.ensures.count),
      ap (λ list. list ++ stats_beside with_row same stats_of (drop (c.loop-i.i + 1) rs) (drop (c.loop-i.i + 1) xs))
          (c.in_ok-keep_stats.ensures ∙ ap (λ b. c.loop-i.list.items ++ kept b (stats_of item)) c.differs.ensures)
          ∙ goes_on_stats with_row same stats_of c.loop-i.list.items rs xs c.loop-i.i item _ at c.loop-i.invariant.1,
    )

pub returns : goal.returns
returns g c =
    stats_done (as_told g.T.Item.with_row) g.T.Told.same g.T.Told.stats_of c.loop-i.list.items c.args.told.now.rows c.args.new.now c.loop-i.i _ (omega (arith, c.loop-i-test.false, c.len-i-end.ensures.count)) c.loop-i.invariant.1
    ∙ stats_are g.T.Item.id_of (as_told g.T.Item.with_row) (keeps_told g.T.Item.id_of g.T.Item.with_row g.met.T.Item.keeps_id) g.T.Told.same g.T.Told.stats_of c.args.new.now c.args.told.now.rows c.len-i-end.ensures.distinct
