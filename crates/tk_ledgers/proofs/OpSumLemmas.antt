-- What a reading of an operation shows.
use Rattle.std.proofs.Common.{◌≡◌, [], ◌∷◌, ◌++◌, sym, ◌∙◌, subst}
use Rattle.tk_core.specs.declared.reply.Reply.{Reply}
use Rattle.tk_core.specs.declared.reply.Reply.TheVariants.{Shown}
use Rattle.tk_core.specs.declared.op.row.OpRow.{OpRow}
use Rattle.tk_core.specs.declared.op.call.OpCall.{OpCall}
use Rattle.tk_core.specs.declared.op.call.OpCall.TheVariants.{Read}
use Rattle.tk_core.specs.Polls.{is_start}
use Rattle.tk_core.specs.History.{accepted}
use Rattle.tk_core.specs.Fold.{is_accepted, fold_of, row_after, reply_after}
use Rattle.tk_core.specs.Op.{start_at, end_at, draws_handle, row_of}
use Rattle.tk_core.specs.OpMeaning.{op_meaning}
use Rattle.tk_core.specs.Laws.OpLaws.{legal_fold}
use Rattle.tk_cell.specs.declared.view.View.{View}
use Rattle.tk_cell.specs.Calls.{entry, Calls}
use Rattle.tk_cell.proofs.HistoryLemmas.{prefix_is_legal}
use Rattle.tk_cell.proofs.RoleLemmas.{call_reply}
use Rattle.tk_ledgers.specs.Sums.{HoldsAll}
use Rattle.tk_ledgers.specs.Ops.{CountsAre, CountsReach}
use Rattle.tk_ledgers.proofs.SumLemmas.{count_least, count_exact}

module _ (v : View OpRow OpCall (Reply OpRow)) (row : OpRow) (w : View OpRow OpCall (Reply OpRow)) (k : Calls op_meaning v Read (Shown row) w) where
  shown : row ≡ row_of k.opening (accepted is_accepted (v.seen ++ k.between))
  unfolding reply_after row_after fold_of
  shown =
      let is = call_reply op_meaning v Read (Shown row) w k in
      let folded = legal_fold k.opening (v.seen ++ k.between) (prefix_is_legal op_meaning k.opening (v.seen ++ k.between) w.seen (entry v.caller Read (Shown row) ∷ [], sym k.grows) k.legal) in
      cc (is) ∙ sym folded

  pub reads_least : CountsReach v row
  unfolding row_of
  reads_least = subst (λ (r : OpRow). CountsReach v r) (sym shown) (
    count_least (is_start start_at end_at) op_meaning v Read (Shown row) w k,
    count_least draws_handle op_meaning v Read (Shown row) w k,
  )

  pub reads_exact : HoldsAll op_meaning v → CountsAre v row
  unfolding row_of
  reads_exact all = subst (λ (r : OpRow). CountsAre v r) (sym shown) (
    count_exact (is_start start_at end_at) op_meaning v Read (Shown row) w k all,
    count_exact draws_handle op_meaning v Read (Shown row) w k all,
  )
