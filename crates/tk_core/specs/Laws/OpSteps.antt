-- What one more entry does to the row that a history of an async operation leaves.
use Rattle.std.proofs.Common.{subst, ◌≡◌, ◌+◌, ◌-◌, ◌^◌, ◌≤◌, true, false, List, [], Some, None, refl, lit≤}
use Rattle.std.specs.Prelude.{is_some, unwrap_or, not, ◌==◌, ◌&&◌, slice_get}
use Rattle.std.specs.Option.{option_or}
use Rattle.tk_core.specs.Lists.{capped, count_of}
use Rattle.tk_core.specs.Fold.{is_accepted, fold_of, answer_at, Follows}
use Rattle.tk_core.specs.Op.{change_of, row_of, wants_open, wants_idle, wants_polling, draws_handle, refused_attr, refusal_of, reply_of, op_kind}
use Rattle.tk_core.specs.declared.reply.Refusal.TheVariants.{Closed, AlreadyPolling, NotPolling, HandlesSpent}
use Rattle.tk_core.specs.declared.reply.Reply.{Reply}
use Rattle.tk_core.specs.declared.reply.Reply.TheVariants.{Number}
use Rattle.tk_core.specs.declared.op.row.OpRow.{OpRow}
use Rattle.tk_core.specs.declared.op.call.OpCall.{OpCall}
use Rattle.tk_core.specs.declared.op.call.OpCall.TheVariants.{PollStart, PollEnd, Close, SetTask, Attr, Enlist, Read}
use Rattle.tk_core.specs.Laws.Pushed.{pushed}
use Rattle.tk_core.specs.Laws.Folded.{after, Grows, follows_from}
use Rattle.tk_core.specs.Laws.Handles.{drawn}
use Rattle.tk_core.specs.Laws.Refusals.{accepted_frees, last_of_five}
use Rattle.tk_core.specs.Laws.AttributeSteps.{replaced, AllCovered, all_covered_none, attrs_same, attrs_changed, names_index, names_no_other}

-- a row after an accepted call
abbrev pub changed : OpRow → OpCall → OpRow
changed row (PollStart m) = record row { polls = capped (row.polls + 1); first_poll = option_or row.first_poll (Some m); last_started = Some m; polling = true }
changed row (PollEnd m) = record row { last_ended = Some m; busy = capped (row.busy + (m - unwrap_or row.last_started m)); polling = false }
changed row (Close m) = record row { dropped = Some m }
changed row (SetTask id) = record row { task = Some id }
changed row (Attr i op) = record row { attrs = replaced row.attrs i op (slice_get row.attrs i) }
changed row Enlist = record row { handles = capped (row.handles + 1) }
changed row Read = row

free_of : (row : OpRow) (call : OpCall) → is_accepted (answer_at op_kind row call) ≡ true → refused_attr row.attrs call ≡ None
free_of row call e = last_of_five (wants_open call && is_some row.dropped) (wants_idle call && row.polling) (wants_polling call && not row.polling) (draws_handle call && row.handles == 2 ^ 62) Closed AlreadyPolling NotPolling HandlesSpent (refused_attr row.attrs call) (accepted_frees (refusal_of row call) (reply_of row call) e)

-- what the calls of every legal history keep
pub record Holds (opening : OpRow) (calls : List OpCall) : Type 0 where
  pub covered : AllCovered change_of opening.attrs calls
  pub within : (row_of opening calls).handles ≤ 2 ^ 62

pub grows : (opening : OpRow) → Grows op_kind changed (Holds opening) opening
unfolding row_of
grows opening calls (PollStart m) holds accepts =
    let attrs = attrs_same change_of opening.attrs calls (PollStart m) (λ i. refl) holds.covered in
    (simp (pushed, attrs.0), record { covered = attrs.1; within = simp pushed holds.within })
grows opening calls (PollEnd m) holds accepts =
    let attrs = attrs_same change_of opening.attrs calls (PollEnd m) (λ i. refl) holds.covered in
    (simp (pushed, attrs.0), record { covered = attrs.1; within = simp pushed holds.within })
grows opening calls (Close m) holds accepts =
    let attrs = attrs_same change_of opening.attrs calls (Close m) (λ i. refl) holds.covered in
    (simp (pushed, attrs.0), record { covered = attrs.1; within = simp pushed holds.within })
grows opening calls (SetTask id) holds accepts =
    let attrs = attrs_same change_of opening.attrs calls (SetTask id) (λ i. refl) holds.covered in
    (simp (pushed, attrs.0), record { covered = attrs.1; within = simp pushed holds.within })
grows opening calls (Attr i op) holds accepts =
    let attrs = attrs_changed change_of opening.attrs calls (Attr i op) i op (slice_get opening.attrs i) refl (names_index i op) (λ k ne. names_no_other k i op ne) holds.covered (free_of (row_of opening calls) (Attr i op) accepts) in
    (simp (pushed, attrs.0), record { covered = attrs.1; within = simp pushed holds.within })
grows opening calls Enlist holds accepts =
    let attrs = attrs_same change_of opening.attrs calls Enlist (λ i. refl) holds.covered in
    (simp (pushed, attrs.0), record { covered = attrs.1; within = simp pushed (drawn (row_of opening calls).handles (Number ((row_of opening calls).handles + 1)) accepts holds.within) })
grows opening calls Read holds accepts =
    let attrs = attrs_same change_of opening.attrs calls Read (λ i. refl) holds.covered in
    (simp (pushed, attrs.0), record { covered = attrs.1; within = simp pushed holds.within })

pub none : (opening : OpRow) → Holds opening []
unfolding row_of count_of
none opening = record { covered = all_covered_none change_of opening.attrs; within = lit≤ tt }

-- a row that is changed as its answer says follows it
pub follows : (row : OpRow) (call : OpCall) (next : OpRow × Reply OpRow) → (row.handles ≤ 2 ^ 62 → next ≡ (after op_kind changed row call, answer_at op_kind row call)) → Follows op_kind row call next
unfolding fold_of
follows row call next e opening h caller answered is_fold =
    follows_from op_kind changed opening (Holds opening) (grows opening) (none opening) row call next h caller answered is_fold (λ holds. e (subst (λ (r : OpRow). r.handles ≤ 2 ^ 62) is_fold holds.within))
