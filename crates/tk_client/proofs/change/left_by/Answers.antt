use Rattle.std.proofs.Common.{ℕ, List, ◌∙◌, ap}
use Rattle.std.specs.Prelude.{flat_map}
use Rattle.tk_client.specs.Changing.{leaves_by, left_at}
use Rattle.tk_client.proofs.NotedLemmas.{left-all}
use Rattle.tk_client.proofs.change.left_by.Goals as goal

pub returns : goal.returns
returns c =
    let times = c.args.times.now in
    let tasks = c.args.tables.now.tasks in
    c.in_ok-left.ensures
    ∙ ap (λ (ps : List ℕ). flat_map (left_at times tasks) ps) (c.deref.ensures.value ∙ c.in_ok-places.ensures)
    ∙ left-all times (leaves_by c.args.line.now) tasks
