use Rattle.std.proofs.Common.{◌≡◌, ◌++◌, ◌∷◌, [], map, drop, ◌+◌, Some, slice_get, ap, sym, ◌∙◌, arith}
use Rattle.std.specs.Prelude.{option_map}
use Rattle.tk_stream.specs.Fronts.{as_told}
use Rattle.tk_stream.proofs.FrontLemmas.{keeps_told, goes_on_infos, infos_done, infos_are}
use Rattle.tk_stream.proofs.line.between.infos_after.Goals as goal

pub loop-i-preserved : goal.loop-i-preserved
loop-i-preserved g c =
    let xs = c.args.new.now in
    let at : Some c.unwrap.result.now ≡ slice_get xs c.loop-i.i = sym (ap (option_map (λ t. t.now)) c.unwrap.ensures) ∙ c.at.ensures in (
      omega (arith, c.loop-i-test.true, c.len-i-end.ensures.count),
      ap (λ list. list ++ map g.T.Described.info_of (drop (c.loop-i.i + 1) xs)) (c.in_ok-push.ensures.items ∙ ap (λ info. c.loop-i.list.items ++ info ∷ []) c.in_ok-copy_info.ensures)
          ∙ goes_on_infos g.T.Described.info_of c.loop-i.list.items xs c.loop-i.i c.unwrap.result.now _ at c.loop-i.invariant.1,
    )

pub returns : goal.returns
returns g c =
    infos_done g.T.Described.info_of c.loop-i.list.items c.args.new.now c.loop-i.i _ (omega (arith, c.loop-i-test.false, c.len-i-end.ensures.count)) c.loop-i.invariant.1
    ∙ infos_are g.T.Item.id_of (as_told g.T.Item.with_row) (keeps_told g.T.Item.id_of g.T.Item.with_row g.met.T.Item.keeps_id) g.T.Described.info_of c.args.new.now c.args.told.now.rows c.len-i-end.ensures.distinct
