use Rattle.std.proofs.Common.{None, ap, ◌∙◌}
use Rattle.std.specs.Prelude.{map}
use Rattle.tk_stream.specs.Fronts.{as_told, with_rows, task_at, resource_at, op_at, counts_at}
use Rattle.tk_stream.proofs.FrontLemmas.{all_told}
use Rattle.tk_stream.proofs.told.tables.ToldTables.tell.Goals as goal

pub returns-clause-told : goal.returns-clause-told
returns-clause-told c =
    let t = c.args.tables.now in
    λ i. record {
      tasks = (ap (λ rows. with_rows (as_told task_at) t.tasks rows) (ap (λ w. w.rows) c.tell.ensures ∙ ap (λ v. map (λ x. None) v.tasks) c.tables.view_is) ∙ all_told task_at t.tasks) i;
      resources = (ap (λ rows. with_rows (as_told resource_at) t.resources rows) (ap (λ w. w.rows) c.tell-2.ensures ∙ ap (λ v. map (λ x. None) v.resources) c.tables.view_is) ∙ all_told resource_at t.resources) i;
      ops = (ap (λ rows. with_rows (as_told op_at) t.ops rows) (ap (λ w. w.rows) c.tell-3.ensures ∙ ap (λ v. map (λ x. None) v.ops) c.tables.view_is) ∙ all_told op_at t.ops) i;
      counts = (ap (λ rows. with_rows (as_told counts_at) t.counts rows) (ap (λ w. w.rows) c.tell-4.ensures ∙ ap (λ v. map (λ x. None) v.counts) c.tables.view_is) ∙ all_told counts_at t.counts) i;
      dropped = c.dropped-self-inside.ensures i;
      now = t.now;
    }
