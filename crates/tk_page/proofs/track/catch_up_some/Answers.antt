use Rattle.std.proofs.Common.{◌+◌, ap, ◌∙◌, arith}
use Rattle.tk_paper.specs.Courses.{with_item}
use Rattle.tk_page.proofs.LoopLemmas.{item_at}
use Rattle.tk_page.proofs.TrackLemmas.{one_taken, passed_over}
use Rattle.tk_page.proofs.track.catch_up_some.Goals as goal

pub returns-in_ok-push-in-Some-clause-others : goal.returns-in_ok-push-in-Some-clause-others
returns-in_ok-push-in-Some-clause-others c =
    let row = c.args.row.now in
    let ms = c.args.moments.now in
    let next = c.args.at + c.pass.result in
    let found = c.in-Some.ensures.lookup in
    let within = found.3 in
    one_taken c.pass.new.self c.push.new.self row ms next c.in-Some.now.now (item_at ms next c.in-Some.now.now within.0 found.1)
    (c.in_ok-push-in-Some.ensures.item ∙ ap (λ s. with_item c.pass.new.self s) c.of.ensures)
    ∙ passed_over c.args.course.now c.pass.new.self row ms c.args.at c.pass.result (omega (arith, c.pass.ensures.few)) c.pass.ensures.items

pub returns-in-None-clause-others : goal.returns-in-None-clause-others
returns-in-None-clause-others c =
    passed_over c.args.course.now c.pass.new.self c.args.row.now c.args.moments.now c.args.at c.pass.result (omega (arith, c.pass.ensures.few)) c.pass.ensures.items
