use Rattle.std.proofs.Common.{ap, sym, ◌∙◌, slice_get, arith}
use Rattle.std.specs.Option.{option_map_or}
use Rattle.std.specs.Prelude.{fold}
use Rattle.std.proofs.lemmas.List.{take_all}
use Rattle.tk_report.specs.Known.{with_known}
use Rattle.tk_report.specs.Watched.{known_at}
use Rattle.tk_report.proofs.LoopLemmas.{folded_more}
use Rattle.tk_report.proofs.known.Polls.completed.Goals as goal

pub loop-place-preserved : goal.loop-place-preserved
loop-place-preserved c =
    let add = with_known (λ id. (known_at c.args.self.now.tasks.entries id).longest) in
    let tasks = c.args.tables.now.tasks in
    c.in_ok-complete_at.ensures
    ∙ ap (λ ts. option_map_or (λ t. add ts t) (slice_get tasks c.loop-place.place) ts) c.loop-place.invariant
    ∙ sym (folded_more add c.args.times.now tasks c.loop-place.place)

pub returns : goal.returns
returns c =
    let add = with_known (λ id. (known_at c.args.self.now.tasks.entries id).longest) in
    let tasks = c.args.tables.now.tasks in
    c.loop-place.invariant ∙ ap (fold add c.args.times.now) (take_all c.loop-place.place tasks (omega arith))
