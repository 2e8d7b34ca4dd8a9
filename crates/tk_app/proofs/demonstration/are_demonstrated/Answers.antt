use Rattle.std.proofs.Common.{◌≡◌, ◌∙◌, length, arith}
use Rattle.std.specs.Prelude.{codes}
use Rattle.std.proofs.lemmas.List.{length-map}
use Rattle.tk_stream.specs.declared.tables.task.Task.{Task}
use Rattle.tk_app.specs.Demo.{task_names}
use Rattle.tk_app.proofs.Names.{three_are}
use Rattle.tk_app.proofs.demonstration.are_demonstrated.Goals as goal

pub returns : goal.returns
returns c last =
    let tables = c.args.tables.now in
    let all : length tables.tasks ≡ 3 = omega (arith, c.task_count.ensures.count, c.if-task_count-ne3.false) in
    three_are (task_names tables) (codes "yield") (codes "lose") (codes "hold") (length-map tables.tasks (λ (t : Task). t.info.name) ∙ all)
    (c.is_named.ensures c.if-not-is_named.false) (c.is_named-2.ensures c.if-not-is_named-2.false) (c.is_named-3.ensures last)
