use Rattle.std.proofs.Common.{ℕ, List, ◌++◌, map, ap, ◌∙◌}
use Rattle.tk_series.specs.Series.{series_of}
use Rattle.tk_compare.specs.Found.{both_seen, seen_entry}
use Rattle.tk_compare.specs.Names.{texts}
use Rattle.tk_compare.proofs.found.add_stream.Goals as goal

pub returns : goal.returns
returns c = λ xs is.
    c.in_ok-add_all.ensures xs is
    ∙ ap (λ (loose : List (List ℕ)). series_of both_seen (xs ++ map (seen_entry c.args.side loose (texts c.args.others.now)) (texts c.args.own.now)))
    (ap texts c.as_slice.ensures.value ∙ c.in_ok-loose.ensures)
