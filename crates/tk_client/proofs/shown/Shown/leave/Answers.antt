use Rattle.std.proofs.Common.{◌≡◌, ℕ, List, nat_eq, ap, sym, ◌∙◌}
use Rattle.std.specs.Prelude.{◌&&◌, not}
use Rattle.indexmap.specs.IndexSet.{contains}
use Rattle.tk_stream.specs.Lines.{GoneView}
use Rattle.tk_stream.specs.Tables.{TablesView, task_id, is_among, staying}
use Rattle.tk_client.specs.Candidates.{can_warn, is_able}
use Rattle.tk_client.specs.Taking.{are_fitting}
use Rattle.tk_client.proofs.AbleLemmas.{left-able}
use Rattle.tk_client.proofs.LeaveLemmas.{left-fit}
use Rattle.tk_client.proofs.shown.Shown.leave.Goals as goal

pub invariant_of-self : goal.invariant_of-self
invariant_of-self c =
    let ids : List ℕ = c.set.result.now.keys in
    let tasks = c.self.inside.tables.tasks in
    let gone : GoneView = record { ops = c.set-3.result.now.keys; resources = c.set-2.result.now.keys; tasks = ids } in
    let now : c.remove_gone.new.self.tasks ≡ staying task_id ids tasks = ap (λ (v : TablesView). v.tasks) c.remove_gone.ensures in
    let same = c.list.ensures.list ∙ sym c.set.ensures in (
      ap are_fitting c.remove_gone.ensures ∙ left-fit c.self.inside.tables gone c.self.invariant.0,
      λ id.
          left-able task_id can_warn ids tasks (contains nat_eq c.self.inside.able) (contains nat_eq c.unlist.new.able) c.self.invariant.1
          (λ n. c.unlist.ensures n ∙ ap (λ ns. contains nat_eq c.self.inside.able n && not (is_among ns n)) same) id
          ∙ ap (λ ts. is_able ts id) (sym now),
    )
