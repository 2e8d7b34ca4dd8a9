use Rattle.std.proofs.Common.{◌≡◌, ℕ, Option, List, [], ◌∷◌, length, subst, ◌∙◌, ap}
use Rattle.tk_screen.specs.Texts.{Puts}
use Rattle.tk_screen.proofs.PutLemmas.{both}
use Rattle.tk_frame.specs.Shown.{choice_part}
use Rattle.tk_frame.specs.Courses.{course_part}
use Rattle.tk_frame.specs.Lines.{head_text, plain}
use Rattle.tk_frame.specs.Pages.{page_of}
use Rattle.tk_frame.specs.Queries.{rows_count}
use Rattle.tk_frame.specs.States.{states_of}
use Rattle.tk_frame.specs.declared.ranks.States.{States}
use Rattle.tk_frame.proofs.shown.push_tables.Goals as goal

pub returns : goal.returns
returns c =
    let tables = c.args.tables.now in
    let query = c.args.query.now in
    let odd = c.args.odd.now in
    let page_is : c.page_of-page.result ≡ page_of c.args.rows c.args.chosen (rows_count query tables odd) = c.page_of-page.ensures ∙ ap (page_of c.args.rows c.args.chosen) c.rows_count.ensures in
    let head_of : Option ℕ → States → ℕ → Type 0 = λ (b : Option ℕ) (s : States) (n : ℕ). Puts c.args.lines.now.items c.push_head.new.lines.items (plain (head_text tables b s n) ∷ []) in
    let head : head_of odd.again (states_of tables.tasks) (length odd.findings) =
    subst (λ (b : Option ℕ). head_of b (states_of tables.tasks) (length odd.findings)) c.again-again.ensures
    (subst (λ (s : States). head_of c.again-again.result s (length odd.findings)) c.states_in.ensures
    (subst (λ (n : ℕ). head_of c.again-again.result c.states_in.result n) c.count.ensures c.in_ok-push_head.ensures)) in
    let table : Puts c.push_findings.new.lines.items c.push_main.new.lines.items (choice_part c.args.chosen query tables odd (page_of c.args.rows c.args.chosen (rows_count query tables odd))) =
    subst (λ p. Puts c.push_findings.new.lines.items c.push_main.new.lines.items (choice_part c.args.chosen query tables odd p)) page_is c.in_ok-push_main.ensures in
    let course : Puts c.push_head.new.lines.items c.push_course.new.lines.items (course_part odd.waits) =
    subst (λ (ws : List ℕ). Puts c.push_head.new.lines.items c.push_course.new.lines.items (course_part ws)) c.waits.ensures c.in_ok-push_course.ensures in
    both head (both course (both c.in_ok-push_findings.ensures (both table c.in_ok-push_items.ensures)))
