use Rattle.std.proofs.Common.{◌≡◌, Bool, ap, sym, subst, OnOk, ◌∙◌, if◌then◌else◌}
use Rattle.tk_series.specs.Series.{with_value}
use Rattle.tk_sites.specs.Lines.{more_site}
use Rattle.tk_compare.specs.Names.{by_loose, texts}
use Rattle.tk_compare.specs.Spent.{held_of, in_stream, plus}
use Rattle.tk_compare.proofs.places.add_held_one.Goals as goal

pub returns-then-is_among : goal.returns-then-is_among
returns-then-is_among c =
    let loose = texts c.args.loose.now in
    let others = texts c.args.others.now in
    let part = in_stream c.args.side (held_of c.args.held) in
    let places = c.args.places.now in
    let name = c.args.site.now in
    subst (λ s. OnOk c.add_site.result (c.add_site.new.places ≡ s))
    (ap (λ (b : Bool). with_value plus (by_loose loose others (if b then name else more_site)) part places) (sym c.if-is_among.true ∙ c.is_among.ensures))
    c.add_site.ensures

pub returns-else-is_among : goal.returns-else-is_among
returns-else-is_among c =
    let loose = texts c.args.loose.now in
    let others = texts c.args.others.now in
    let part = in_stream c.args.side (held_of c.args.held) in
    let places = c.args.places.now in
    let name = c.args.site.now in
    subst (λ s. OnOk c.add_site-else-is_among.result (c.add_site-else-is_among.new.places ≡ s))
    (ap (λ site. with_value plus (by_loose loose others site) part places) (c.as_bytes-rest.ensures.value ∙ c.more_site.ensures)
    ∙ ap (λ (b : Bool). with_value plus (by_loose loose others (if b then name else more_site)) part places) (sym c.if-is_among.false ∙ c.is_among.ensures))
    c.add_site-else-is_among.ensures
