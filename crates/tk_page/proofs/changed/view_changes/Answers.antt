use Rattle.std.proofs.Common.{sym}
use Rattle.tk_page.proofs.changed.view_changes.Goals as goal

pub returns-in-Ok-send-clause-pages : goal.returns-in-Ok-send-clause-pages
returns-in-Ok-send-clause-pages g c = record {
  page = c.as_slice.result.now;
  is = rw (sym c.as_slice.ensures.value) at c.in-Ok.ensures.page;
  wrote = c.in-Ok-send.ensures;
  counted = c.in-Ok.ensures.worse;
}

pub returns-clause-pages : goal.returns-clause-pages
returns-clause-pages g c =
    let sent = c.in-Err.ensures in
    record {
      page = c.as_slice.result.now;
      is = rw (sym c.as_slice.ensures.value) at c.in-Ok.ensures.page;
      front = sent.0;
      cut = sent.1;
      wrote = sent.2;
    }
