-- What a reading of a task shows.
use Rattle.std.proofs.Common.{◌≡◌, [], ◌∷◌, ◌++◌, sym, ◌∙◌, subst}
use Rattle.tk_core.specs.declared.reply.Reply.{Reply}
use Rattle.tk_core.specs.declared.reply.Reply.TheVariants.{Shown}
use Rattle.tk_core.specs.declared.task.row.TaskRow.{TaskRow}
use Rattle.tk_core.specs.declared.task.call.TaskCall.{TaskCall}
use Rattle.tk_core.specs.declared.task.call.TaskCall.TheVariants.{Read}
use Rattle.tk_core.specs.Polls.{is_start}
use Rattle.tk_core.specs.History.{accepted}
use Rattle.tk_core.specs.Fold.{is_accepted, fold_of, row_after, reply_after}
use Rattle.tk_core.specs.Task.{start_at, end_at, is_wake, is_self_wake, is_clone, is_drop, draws_handle, row_of}
use Rattle.tk_core.specs.TaskMeaning.{task_meaning}
use Rattle.tk_core.specs.Laws.TaskLaws.{legal_fold}
use Rattle.tk_cell.specs.declared.view.View.{View}
use Rattle.tk_cell.specs.Calls.{entry, Calls}
use Rattle.tk_cell.proofs.HistoryLemmas.{prefix_is_legal}
use Rattle.tk_cell.proofs.RoleLemmas.{call_reply}
use Rattle.tk_ledgers.specs.Sums.{HoldsAll}
use Rattle.tk_ledgers.specs.Tasks.{CountsAre, CountsReach}
use Rattle.tk_ledgers.proofs.SumLemmas.{count_least, count_exact}

module _ (v : View TaskRow TaskCall (Reply TaskRow)) (row : TaskRow) (w : View TaskRow TaskCall (Reply TaskRow)) (k : Calls task_meaning v Read (Shown row) w) where
  shown : row ≡ row_of k.opening (accepted is_accepted (v.seen ++ k.between))
  unfolding reply_after row_after fold_of
  shown =
      let is = call_reply task_meaning v Read (Shown row) w k in
      let folded = legal_fold k.opening (v.seen ++ k.between) (prefix_is_legal task_meaning k.opening (v.seen ++ k.between) w.seen (entry v.caller Read (Shown row) ∷ [], sym k.grows) k.legal) in
      cc (is) ∙ sym folded

  pub reads_least : CountsReach v row
  unfolding row_of
  reads_least = subst (λ (r : TaskRow). CountsReach v r) (sym shown) (
    count_least (is_start start_at end_at) task_meaning v Read (Shown row) w k,
    count_least is_wake task_meaning v Read (Shown row) w k,
    count_least is_self_wake task_meaning v Read (Shown row) w k,
    count_least is_clone task_meaning v Read (Shown row) w k,
    count_least is_drop task_meaning v Read (Shown row) w k,
    count_least draws_handle task_meaning v Read (Shown row) w k,
  )

  pub reads_exact : HoldsAll task_meaning v → CountsAre v row
  unfolding row_of
  reads_exact all = subst (λ (r : TaskRow). CountsAre v r) (sym shown) (
    count_exact (is_start start_at end_at) task_meaning v Read (Shown row) w k all,
    count_exact is_wake task_meaning v Read (Shown row) w k all,
    count_exact is_self_wake task_meaning v Read (Shown row) w k all,
    count_exact is_clone task_meaning v Read (Shown row) w k all,
    count_exact is_drop task_meaning v Read (Shown row) w k all,
    count_exact draws_handle task_meaning v Read (Shown row) w k all,
  )
