use Rattle.std.proofs.Common.{◌≡◌, ap, sym, subst, OnOk, ◌∙◌}
use Rattle.std.specs.Option.{option_map_or}
use Rattle.tk_series.specs.Series.{with_value}
use Rattle.tk_sites.specs.Lines.{more_site}
use Rattle.tk_compare.specs.Compared.{entry}
use Rattle.tk_compare.specs.Names.{by_loose, texts}
use Rattle.tk_compare.specs.Spent.{in_stream, plus}
use Rattle.tk_compare.proofs.places.add_rest.Goals as goal

pub returns-in-Some : goal.returns-in-Some
returns-in-Some g c =
    let spent = g.P.Part.spent in
    let loose = texts c.args.loose.now in
    let others = texts c.args.others.now in
    let e = entry spent c.args.side loose others in
    let places = c.args.places.now in
    subst (λ s. OnOk c.add_site.result (c.add_site.new.places ≡ s))
    (ap (λ site. with_value plus (by_loose loose others site) (in_stream c.args.side (spent c.in-Some.part)) places) (c.as_bytes-site.ensures.value ∙ c.more_site.ensures)
    ∙ ap (λ o. option_map_or (λ v. with_value plus (e (more_site, v)).0 (e (more_site, v)).1 places) o places) (sym c.in-Some.is))
    c.add_site.ensures
