use Rattle.std.proofs.Common.{◌≡◌, ◌++◌, Some, slice_get, ap, sym, ◌∙◌}
use Rattle.std.specs.Prelude.{option_map}
use Rattle.tk_stream.specs.Lines.{is_new}
use Rattle.tk_stream.specs.Kept.{kept}
use Rattle.tk_stream.proofs.Kept.{kept-take}
use Rattle.tk_stream.proofs.line.between.new_infos.Goals as goal

pub loop-i-preserved : goal.loop-i-preserved
loop-i-preserved g c =
    let item = c.unwrap-item.result.now in
    let tells = is_new g.T.Item.id_of c.args.old.now in
    let at : Some item ≡ slice_get c.args.new.now c.loop-i.i = sym (ap (option_map (λ t. t.now)) c.unwrap-item.ensures) ∙ c.at.ensures in
    c.in_ok-keep_info.ensures ∙ ap (λ b. c.loop-i.list.items ++ kept b (g.T.Described.info_of item)) c.is_new.ensures
    ∙ ap (λ xs. xs ++ kept (tells item) (g.T.Described.info_of item)) c.loop-i.invariant
    ∙ sym (kept-take g.T.Described.info_of tells c.args.new.now c.loop-i.i item at)
