use Rattle.std.proofs.Common.{ℕ, List, [], ◌++◌, ap, ap₂, ◌∙◌}
use Rattle.tk_series.specs.Series.{series_of}
use Rattle.tk_compare.specs.Compared.{added}
use Rattle.tk_compare.specs.Names.{texts}
use Rattle.tk_compare.specs.Spent.{plus}
use Rattle.tk_compare.specs.declared.spent.Side.TheVariants.{Before, After}
use Rattle.tk_compare.proofs.places.compare_places.Goals as goal

pub returns : goal.returns
returns c =
    let old = ap texts c.as_slice-old.ensures.value ∙ c.in_ok-old.ensures in
    let new = ap texts c.as_slice-new.ensures.value ∙ c.in_ok-new.ensures in
    c.in_ok-add_stream-2.ensures _ (c.in_ok-add_stream.ensures [] c.new-places.ensures)
    ∙ ap₂ (λ (o n : List (List ℕ)). series_of plus (added After n o c.args.after.now ++ added Before o n c.args.before.now)) old new
