use Rattle.std.proofs.Common.{nat_eq, cond, refl, ap, ap₂, ◌≡◌, ◌∙◌}
use Rattle.std.specs.Prelude.{map}
use Rattle.indexmap.specs.IndexSet.{contains}
use Rattle.tk_stream.specs.Applied.{task_kind}
use Rattle.tk_stream.specs.Lines.{LineView}
use Rattle.tk_stream.specs.Tables.{TablesView, is_among}
use Rattle.tk_client.specs.Candidates.{can_warn, is_able}
use Rattle.tk_client.specs.Applying.{stats_id_by}
use Rattle.tk_client.proofs.AbleLemmas.{told-able}
use Rattle.tk_client.proofs.AppliedLemmas.{applied-tasks}
use Rattle.tk_client.proofs.shown.Shown.tell.Goals as goal

pub invariant_of-self-in-Ok : goal.invariant_of-self-in-Ok
invariant_of-self-in-Ok c =
    let old : TablesView = c.self.inside.tables in
    let new : TablesView = c.apply_told.new.tables in
    let line : LineView = c.args.line.now in
    let follow = (applied-tasks old line new c.in-Ok.ensures.told).0 in
    let told : c.task_stats-in-Ok.result.now ≡ line.task_stats = c.task_stats-in-Ok.ensures ∙ ap (λ (l : LineView). l.task_stats) c.in-Ok.ensures.spent in (
      c.in-Ok.ensures.fit,
      told-able task_kind (λ x s. refl) (λ info s. refl) can_warn line.task_stats line.new_tasks old.tasks follow.items new.tasks (contains nat_eq c.self.inside.able) (contains nat_eq c.relist.new.able)
          follow.are follow.now c.self.invariant.1
          (λ id.
          c.relist.ensures id
          ∙ ap₂ (λ stats ids. cond (is_among (map (stats_id_by task_kind) stats) id) (is_able new.tasks id) (is_among ids id)) told c.reserve.ensures.keys),
    )
