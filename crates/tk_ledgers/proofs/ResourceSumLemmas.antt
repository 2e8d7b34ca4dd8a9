-- What a reading of a resource shows.
use Rattle.std.proofs.Common.{◌≡◌, [], ◌∷◌, ◌++◌, sym, ◌∙◌, subst}
use Rattle.tk_core.specs.declared.reply.Reply.{Reply}
use Rattle.tk_core.specs.declared.reply.Reply.TheVariants.{Shown}
use Rattle.tk_core.specs.declared.resource.row.ResourceRow.{ResourceRow}
use Rattle.tk_core.specs.declared.resource.call.ResourceCall.{ResourceCall}
use Rattle.tk_core.specs.declared.resource.call.ResourceCall.TheVariants.{Read}
use Rattle.tk_core.specs.History.{accepted}
use Rattle.tk_core.specs.Fold.{is_accepted, fold_of, row_after, reply_after}
use Rattle.tk_core.specs.Resource.{draws_handle, row_of}
use Rattle.tk_core.specs.ResourceMeaning.{resource_meaning}
use Rattle.tk_core.specs.Laws.ResourceLaws.{legal_fold}
use Rattle.tk_cell.specs.declared.view.View.{View}
use Rattle.tk_cell.specs.Calls.{entry, Calls}
use Rattle.tk_cell.proofs.HistoryLemmas.{prefix_is_legal}
use Rattle.tk_cell.proofs.RoleLemmas.{call_reply}
use Rattle.tk_ledgers.specs.Sums.{HoldsAll}
use Rattle.tk_ledgers.specs.Resources.{CountsAre, CountsReach}
use Rattle.tk_ledgers.proofs.SumLemmas.{count_least, count_exact}

module _ (v : View ResourceRow ResourceCall (Reply ResourceRow)) (row : ResourceRow) (w : View ResourceRow ResourceCall (Reply ResourceRow)) (k : Calls resource_meaning v Read (Shown row) w) where
  shown : row ≡ row_of k.opening (accepted is_accepted (v.seen ++ k.between))
  unfolding reply_after row_after fold_of
  shown =
      let is = call_reply resource_meaning v Read (Shown row) w k in
      let folded = legal_fold k.opening (v.seen ++ k.between) (prefix_is_legal resource_meaning k.opening (v.seen ++ k.between) w.seen (entry v.caller Read (Shown row) ∷ [], sym k.grows) k.legal) in
      cc (is) ∙ sym folded

  pub reads_least : CountsReach v row
  unfolding row_of
  reads_least = subst (λ (r : ResourceRow). CountsReach v r) (sym shown)
      (count_least draws_handle resource_meaning v Read (Shown row) w k)

  pub reads_exact : HoldsAll resource_meaning v → CountsAre v row
  unfolding row_of
  reads_exact all = subst (λ (r : ResourceRow). CountsAre v r) (sym shown)
      (count_exact draws_handle resource_meaning v Read (Shown row) w k all)
