use Rattle.std.proofs.Common.{◌≡◌, OnOk, subst, sym, ap, ◌∙◌}
use Rattle.tk_screen.specs.Texts.{Puts}
use Rattle.tk_frame.specs.Keys.{query_by}
use Rattle.tk_frame.specs.Pages.{table_rows}
use Rattle.tk_frame.specs.Shown.{choice_by, shown_part}
use Rattle.tk_frame.proofs.shown.push_shown.Goals as goal

pub returns-in-Tables : goal.returns-in-Tables
returns-in-Tables c =
    let a = c.args in
    let query_is = c.query_by-query.ensures in
    let rows_is : c.table_rows-rows.result ≡ table_rows a.canvas (query_by a.query.now a.asked.now) a.odd.now 1 =
    c.table_rows-rows.ensures.is ∙ ap (λ q. table_rows a.canvas q a.odd.now 1) query_is in
    subst (λ s. OnOk c.push_tables.result (Puts a.lines.now.items c.push_tables.new.lines.items (shown_part s a.asked.now a.canvas a.query.now a.tables.now a.times.now a.odd.now))) (sym c.in-Tables.is)
    (subst (λ q. OnOk c.push_tables.result (Puts a.lines.now.items c.push_tables.new.lines.items (choice_by (table_rows a.canvas (query_by a.query.now a.asked.now) a.odd.now 1) a.asked.now.chosen a.canvas q a.tables.now a.odd.now))) query_is
    (subst (λ n. OnOk c.push_tables.result (Puts a.lines.now.items c.push_tables.new.lines.items (choice_by n a.asked.now.chosen a.canvas c.query_by-query.result a.tables.now a.odd.now))) rows_is c.push_tables.ensures))
