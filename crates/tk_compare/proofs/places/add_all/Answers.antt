use Rattle.std.proofs.Common.{ap, ◌∙◌}
use Rattle.std.specs.Option.{option_map_or}
use Rattle.tk_series.specs.Series.{with_value}
use Rattle.tk_sites.specs.Lines.{more_site}
use Rattle.tk_compare.specs.Compared.{entry}
use Rattle.tk_compare.specs.Names.{texts}
use Rattle.tk_compare.specs.Spent.{plus}
use Rattle.tk_compare.proofs.PlaceLemmas.{all_added}
use Rattle.tk_compare.proofs.places.add_all.Goals as goal

pub returns : goal.returns
returns g c = λ xs is.
    let e = entry g.P.Part.spent c.args.side (texts c.args.loose.now) (texts c.args.others.now) in
    let mid = c.add_own.new.places in
    all_added e c.args.sites.now xs mid c.add_rest.new.places (c.in_ok-add_own.ensures xs is)
    (c.in_ok-add_rest.ensures ∙ ap (λ o. option_map_or (λ v. with_value plus (e (more_site, v)).0 (e (more_site, v)).1 mid) o mid) c.rest.ensures)
