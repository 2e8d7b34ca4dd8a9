use Rattle.std.proofs.Common.{◌≡◌, ◌-◌, ◌++◌, ℕ, List, Option, Some, None, [], OnOk, ap₂, length, slice_get, subst, sym, ◌∙◌}
use Rattle.std.specs.Option.{option_map_or}
use Rattle.tk_report.specs.Pieces.{Puts}
use Rattle.tk_report.proofs.PutLemmas.{nothing}
use Rattle.tk_sites.specs.Lines.{more_of, more_site}
use Rattle.tk_sites.specs.One.{is_of, place_text}
use Rattle.tk_sites.specs.declared.sums.Sums.{Sums}
use Rattle.tk_sites.proofs.OneLemmas.{nowhere, there_last}
use Rattle.tk_sites.proofs.one.put_more.Goals as goal

pub returns-then-saturating_sub-len : goal.returns-then-saturating_sub-len
returns-then-saturating_sub-len c =
    let sites = c.args.sites.now in
    let index = c.args.number - 1 in
    let text = place_text (is_of sites.first index) c.args.number c.args.tables.now c.args.own.now c.args.times.now in
    let sums = c.in-Some.sums in
    let old = c.args.out.now.items in
    let new = c.put_place.new.out.items in
    let last : index ≡ length sites.first = sym c.saturating_sub.ensures ∙ c.if-saturating_sub-len.true ∙ c.len.ensures.len in
    let found : slice_get (sites.first ++ more_of sites.rest) index ≡ Some (more_site, sums) =
    ap₂ (λ o n. slice_get (sites.first ++ more_of o) n) (sym c.in-Some.ensures) last ∙ there_last sites.first (more_site, sums) in
    subst (λ (o : Option (List ℕ × Sums)). OnOk c.put_place.result (Puts old new (option_map_or text o []))) (sym found)
    (subst (λ (site : List ℕ). OnOk c.put_place.result (Puts old new (text (site, sums)))) c.as_bytes-site.ensures.value c.put_place.ensures)

pub returns-else-saturating_sub-len : goal.returns-else-saturating_sub-len
returns-else-saturating_sub-len c =
    let sites = c.args.sites.now in
    let index = c.args.number - 1 in
    let text = place_text (is_of sites.first index) c.args.number c.args.tables.now c.args.own.now c.args.times.now in
    let old = c.args.out.now.items in
    let none : slice_get (sites.first ++ more_of (Some c.in-Some.sums)) index ≡ None =
    nowhere sites.first (more_site, c.in-Some.sums) index c.requires (λ e. c.if-saturating_sub-len.false (c.saturating_sub.ensures ∙ e ∙ sym c.len.ensures.len)) in
    subst (λ (rest : Option Sums). Puts old old (option_map_or text (slice_get (sites.first ++ more_of rest) index) [])) c.in-Some.ensures
    (subst (λ (o : Option (List ℕ × Sums)). Puts old old (option_map_or text o [])) (sym none) (nothing old))
