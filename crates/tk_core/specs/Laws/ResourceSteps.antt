-- What one more entry does to the row that a history of a resource leaves.
use Rattle.std.proofs.Common.{subst, ◌≡◌, ◌+◌, ◌^◌, ◌≤◌, true, List, [], Some, None, refl, lit≤}
use Rattle.std.specs.Prelude.{is_some, ◌==◌, ◌&&◌, slice_get}
use Rattle.tk_core.specs.Lists.{capped, count_of}
use Rattle.tk_core.specs.Fold.{is_accepted, fold_of, answer_at, Follows}
use Rattle.tk_core.specs.Resource.{change_of, row_of, wants_open, draws_handle, refused_attr, refusal_of, reply_of, resource_kind}
use Rattle.tk_core.specs.declared.reply.Refusal.TheVariants.{Closed, HandlesSpent}
use Rattle.tk_core.specs.declared.reply.Reply.{Reply}
use Rattle.tk_core.specs.declared.reply.Reply.TheVariants.{Number}
use Rattle.tk_core.specs.declared.resource.row.ResourceRow.{ResourceRow}
use Rattle.tk_core.specs.declared.resource.call.ResourceCall.{ResourceCall}
use Rattle.tk_core.specs.declared.resource.call.ResourceCall.TheVariants.{Close, Attr, Enlist, Read}
use Rattle.tk_core.specs.Laws.Pushed.{pushed}
use Rattle.tk_core.specs.Laws.Folded.{after, Grows, follows_from}
use Rattle.tk_core.specs.Laws.Handles.{drawn}
use Rattle.tk_core.specs.Laws.Refusals.{accepted_frees, last_of_three}
use Rattle.tk_core.specs.Laws.AttributeSteps.{replaced, AllCovered, all_covered_none, attrs_same, attrs_changed, names_index, names_no_other}

-- a row after an accepted call
abbrev pub changed : ResourceRow → ResourceCall → ResourceRow
changed row (Close m) = record row { dropped = Some m }
changed row (Attr i op) = record row { attrs = replaced row.attrs i op (slice_get row.attrs i) }
changed row Enlist = record row { handles = capped (row.handles + 1) }
changed row Read = row

free_of : (row : ResourceRow) (call : ResourceCall) → is_accepted (answer_at resource_kind row call) ≡ true → refused_attr row.attrs call ≡ None
free_of row call e = last_of_three (wants_open call && is_some row.dropped) (draws_handle call && row.handles == 2 ^ 62) Closed HandlesSpent (refused_attr row.attrs call) (accepted_frees (refusal_of row call) (reply_of row call) e)

-- what the calls of every legal history keep
pub record Holds (opening : ResourceRow) (calls : List ResourceCall) : Type 0 where
  pub covered : AllCovered change_of opening.attrs calls
  pub within : (row_of opening calls).handles ≤ 2 ^ 62

pub grows : (opening : ResourceRow) → Grows resource_kind changed (Holds opening) opening
unfolding row_of
grows opening calls (Close m) holds accepts =
    let attrs = attrs_same change_of opening.attrs calls (Close m) (λ i. refl) holds.covered in
    (simp (pushed, attrs.0), record { covered = attrs.1; within = simp pushed holds.within })
grows opening calls (Attr i op) holds accepts =
    let attrs = attrs_changed change_of opening.attrs calls (Attr i op) i op (slice_get opening.attrs i) refl (names_index i op) (λ k ne. names_no_other k i op ne) holds.covered (free_of (row_of opening calls) (Attr i op) accepts) in
    (simp (pushed, attrs.0), record { covered = attrs.1; within = simp pushed holds.within })
grows opening calls Enlist holds accepts =
    let attrs = attrs_same change_of opening.attrs calls Enlist (λ i. refl) holds.covered in
    (simp (pushed, attrs.0), record { covered = attrs.1; within = simp pushed (drawn (row_of opening calls).handles (Number ((row_of opening calls).handles + 1)) accepts holds.within) })
grows opening calls Read holds accepts =
    let attrs = attrs_same change_of opening.attrs calls Read (λ i. refl) holds.covered in
    (simp (pushed, attrs.0), record { covered = attrs.1; within = simp pushed holds.within })

pub none : (opening : ResourceRow) → Holds opening []
unfolding row_of count_of
none opening = record { covered = all_covered_none change_of opening.attrs; within = lit≤ tt }

-- a row that is changed as its answer says follows it
pub follows : (row : ResourceRow) (call : ResourceCall) (next : ResourceRow × Reply ResourceRow) → (row.handles ≤ 2 ^ 62 → next ≡ (after resource_kind changed row call, answer_at resource_kind row call)) → Follows resource_kind row call next
unfolding fold_of
follows row call next e opening h caller answered is_fold =
    follows_from resource_kind changed opening (Holds opening) (grows opening) (none opening) row call next h caller answered is_fold (λ holds. e (subst (λ (r : ResourceRow). r.handles ≤ 2 ^ 62) is_fold holds.within))
