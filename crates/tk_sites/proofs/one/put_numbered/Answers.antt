use Rattle.std.proofs.Common.{◌≡◌, ◌-◌, ℕ, List, Option, Some, [], OnOk, ap, slice_get, subst, sym, ◌∙◌}
use Rattle.std.specs.Option.{option_map_or}
use Rattle.tk_report.specs.Pieces.{Puts}
use Rattle.tk_sites.specs.Lines.{listed, more_of}
use Rattle.tk_sites.specs.One.{is_of, place_text}
use Rattle.tk_sites.specs.declared.sums.Sums.{Sums}
use Rattle.tk_sites.proofs.OneLemmas.{there_first}
use Rattle.tk_sites.proofs.one.put_numbered.Goals as goal

pub returns-in-Some : goal.returns-in-Some
returns-in-Some c =
    let sites = c.args.sites.now in
    let index = c.args.number - 1 in
    let text = place_text (is_of sites.first index) c.args.number c.args.tables.now c.args.own.now c.args.times.now in
    let place : List ℕ × Sums = (c.in-Some.site.now, c.in-Some.sums) in
    let own : Some place ≡ slice_get sites.first index = c.in-Some.ensures ∙ ap (slice_get sites.first) c.saturating_sub.ensures in
    let found : slice_get (listed sites) index ≡ Some place = there_first sites.first (more_of sites.rest) index place (sym own) in
    subst (λ (o : Option (List ℕ × Sums)). OnOk c.put_place.result (Puts c.args.out.now.items c.put_place.new.out.items (option_map_or text o []))) (sym found) c.put_place.ensures
