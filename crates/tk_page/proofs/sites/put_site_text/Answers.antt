use Rattle.tk_page.proofs.CardLemmas.{site_is_no_text, site_is_text}
use Rattle.tk_page.proofs.sites.put_site_text.Goals as goal

pub returns-in-Ok : goal.returns-in-Ok
returns-in-Ok c = rw (site_is_text c.args.site.now c.in-Ok.ensures.cases.1) (rw c.in-Ok.ensures.cases.0 at c.put.ensures)

pub returns-in-Err : goal.returns-in-Err
returns-in-Err c = rw (site_is_no_text c.args.site.now c.in-Err.ensures.cases.0) c.put-in-Err.ensures
