use Rattle.std.proofs.Common.{OnOk, [], ◌∙◌, ap, subst}
use Rattle.std.specs.Option.{option_map_or}
use Rattle.tk_paper.specs.Pieces.{Writes}
use Rattle.tk_page.specs.Courses.{courses_of}
use Rattle.tk_page.specs.Kept.{kept_of}
use Rattle.tk_page.specs.Rows.{row, row_of}
use Rattle.tk_page.proofs.tasks.put_row.Goals as goal

pub returns-in_ok-course-in-Some : goal.returns-in_ok-course-in-Some
returns-in_ok-course-in-Some c =
    let history = c.args.history.now in
    let old = c.args.paper.now in
    let new = c.put_task.new.paper in
    let h = subst (λ xs. OnOk c.put_task.result (Writes old new (row_of c.args.scale c.args.signs.now c.args.tables.now xs c.in-Some.task.now)))
    (c.kept.ensures ∙ c.in_ok-course-in-Some.ensures ∙ ap (kept_of history) c.value.ensures.value) c.put_task.ensures in
    subst (λ o. OnOk c.put_task.result (Writes old new (option_map_or (row c.args.scale c.args.signs.now (courses_of history) c.args.tables.now) o []))) c.in-Some.ensures h
