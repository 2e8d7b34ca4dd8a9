use Rattle.std.proofs.Common.{◌≡◌, IfOk, List, [], Result, Ok, Err, map, true, ◌∙◌, ap, subst}
use Rattle.tk_odd.specs.Diagnosis.{standing_of}
use Rattle.tk_odd.specs.Findings.{told, told_of}
use Rattle.tk_reading.specs.Shown.{tables_of}
use Rattle.tk_sites.specs.Sites.{sites_of}
use Rattle.tk_sites.specs.TimedSites.{shown_times}
use Rattle.tk_stream.specs.Tables.{TablesView}
use Rattle.tk_page.specs.Charges.{Places, places_of}
use Rattle.tk_page.specs.Courses.{courses_of}
use Rattle.tk_page.specs.Pages.{IsDrawn}
use Rattle.tk_page.specs.declared.blamed.Blamed.{Blamed}
use Rattle.tk_page.proofs.BlameLemmas.{tell_whom}
use Rattle.tk_page.proofs.view.page_after.Goals as goal

-- what follows where there is a page
so_if_ok : {A E : Type 0} {P Q : A → Type 0} (r : Result A E) → ((a : A) → P a → Q a) → IfOk r P → IfOk r Q
so_if_ok (Ok a) f h = f a h
so_if_ok (Err e) f h = tt

pub returns : goal.returns
returns c lines blames same adds timed =
    let shown = tables_of lines in
    let seen = c.args.seen.now in
    let start = c.args.client.now.start in
    let limits = c.args.limits in
    let title = c.args.title.now in
    let courses = courses_of seen.first.first in
    let blamed = c.in_ok-blamed.blamed.items in
    let own : c.tables-tables.result.now ≡ start.tables = c.tables-tables.ensures in
    let found : map told c.in_ok-findings.findings.items ≡ told_of limits (standing_of limits shown) start.tables =
    c.in_ok-findings.ensures shown blames.follows ∙ ap (λ l. told_of l (standing_of l shown) c.tables-tables.result.now) same ∙ ap (told_of limits (standing_of limits shown)) own in
    let held : c.held-held.result.now ≡ places_of limits shown = c.held-held.ensures shown blames.follows ∙ ap (λ l. places_of l shown) same in
    let sites : c.in_ok-sites.sites ≡ sites_of shown start.tables [] = c.in_ok-sites.ensures shown adds ∙ ap (λ t. sites_of shown t []) own in
    let times : c.in_ok-times.times ≡ shown_times true lines start.tables start.times =
    c.in_ok-times.ensures true lines timed ∙ ap (λ t. shown_times true lines t c.times.result.now) own ∙ ap (shown_times true lines start.tables) c.times.ensures in
    let listed : c.as_slice.result.now ≡ blamed = c.as_slice.ensures.value in
    let now : c.now.result ≡ start.tables.now = c.now.ensures ∙ ap (λ (t : TablesView). t.now) own in
    let whom = tell_whom limits shown start.tables.now c.now.result c.held-held.result.now seen.second blamed blames same now (c.held-held.ensures shown blames.follows) c.in_ok-blamed.ensures in
    let all = told_of limits (standing_of limits shown) start.tables in
    so_if_ok c.page_of.result
    (λ text drawn. record {
      blamed = blamed;
      whom = whom;
      drawn = subst (λ t. IsDrawn title limits all courses blamed (shown_times true lines start.tables start.times) (places_of limits shown) (sites_of shown start.tables []) t text.items) own
          (subst (λ ss. IsDrawn title limits all courses blamed (shown_times true lines start.tables start.times) (places_of limits shown) ss c.tables-tables.result.now text.items) sites
          (subst (λ (ps : Places). IsDrawn title limits all courses blamed (shown_times true lines start.tables start.times) ps c.in_ok-sites.sites c.tables-tables.result.now text.items) held
          (subst (λ ts. IsDrawn title limits all courses blamed ts c.held-held.result.now c.in_ok-sites.sites c.tables-tables.result.now text.items) times
          (subst (λ xs. IsDrawn title limits xs courses blamed c.in_ok-times.times c.held-held.result.now c.in_ok-sites.sites c.tables-tables.result.now text.items) found
          (subst (λ (bs : List Blamed). IsDrawn title limits (map told c.in_ok-findings.findings.items) courses bs c.in_ok-times.times c.held-held.result.now c.in_ok-sites.sites c.tables-tables.result.now text.items)
          listed drawn)))));
    })
    c.page_of.ensures
