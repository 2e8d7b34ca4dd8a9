-- No call changes the kind of an attribute's value.
use Rattle.std.proofs.Common.{◌≡◌, ℕ, zero, suc, ◌^◌, List, [], ◌∷◌, Bool, true, false, cond, set, slice_get, Option, Some, None, refl, ap, sym, ◌∙◌}
use Rattle.std.specs.Prelude.{is_some, not, ◌==◌, ◌&&◌}
use Rattle.std.proofs.lemmas.Option.{same_Some}
use Rattle.tk_core.specs.Attributes.{refused_by, refused_change}
use Rattle.tk_core.specs.Fold.{is_accepted, fold_of, answer_at, answer, HasItsAnswers}
use Rattle.tk_core.specs.History.{accepted}
use Rattle.tk_core.specs.Laws.Answered.{kept}
use Rattle.tk_core.specs.Laws.AttributeSteps.{changed_value, replaced, values_from-nil}
use Rattle.tk_core.specs.Laws.Folded.{fold_of_push, always_holds}
use Rattle.tk_core.specs.Laws.OpSteps as op_steps
use Rattle.tk_core.specs.Laws.Refusals.{accepted_frees, last_of_three, last_of_five}
use Rattle.tk_core.specs.Laws.ResourceSteps as resource_steps
use Rattle.tk_core.specs.Op as ops
use Rattle.tk_core.specs.Resource as resources
use Rattle.tk_core.specs.declared.attrs.AttrOp.{AttrOp}
use Rattle.tk_core.specs.declared.attrs.AttrOp.TheVariants.{Add, Sub, Override}
use Rattle.tk_core.specs.declared.history.Entry.{Entry}
use Rattle.tk_core.specs.declared.op.call.OpCall.{OpCall}
use Rattle.tk_core.specs.declared.op.call.OpCall.TheVariants as op_calls
use Rattle.tk_core.specs.declared.op.row.OpRow.{OpRow}
use Rattle.tk_core.specs.declared.reply.Refusal.TheVariants.{Closed, AlreadyPolling, NotPolling, HandlesSpent}
use Rattle.tk_core.specs.declared.reply.Reply.{Reply}
use Rattle.tk_core.specs.declared.resource.call.ResourceCall.{ResourceCall}
use Rattle.tk_core.specs.declared.resource.call.ResourceCall.TheVariants as resource_calls
use Rattle.tk_core.specs.declared.resource.row.ResourceRow.{ResourceRow}
use Rattle.tk_ids.specs.Attributes.{kind_of, kinds_of}
use Rattle.tk_ids.specs.declared.attr.AttrValue.{AttrValue}
use Rattle.tk_ids.specs.declared.attr.AttrValue.TheVariants as values

-- a change that is not refused keeps the kind
same_kind : (value : AttrValue) (op : AttrOp) → refused_change value op ≡ None → kind_of (changed_value op value) ≡ kind_of value
same_kind (values.U64 n) (Add (values.U64 by)) e = refl
same_kind (values.U64 n) (Add (values.Bool b)) e = absurd (cc)
same_kind (values.U64 n) (Add (values.I64 z)) e = absurd (cc)
same_kind (values.U64 n) (Sub (values.U64 by)) e = refl
same_kind (values.U64 n) (Sub (values.Bool b)) e = absurd (cc)
same_kind (values.U64 n) (Sub (values.I64 z)) e = absurd (cc)
same_kind (values.U64 n) (Override (values.U64 m)) e = refl
same_kind (values.U64 n) (Override (values.Bool b)) e = absurd (cc)
same_kind (values.U64 n) (Override (values.I64 z)) e = absurd (cc)
same_kind (values.Bool b) (Add by) e = refl
same_kind (values.Bool b) (Sub by) e = refl
same_kind (values.Bool b) (Override (values.U64 m)) e = absurd (cc)
same_kind (values.Bool b) (Override (values.Bool c)) e = refl
same_kind (values.Bool b) (Override (values.I64 z)) e = absurd (cc)
same_kind (values.I64 z) (Add (values.U64 by)) e = absurd (cc)
same_kind (values.I64 z) (Add (values.Bool b)) e = absurd (cc)
same_kind (values.I64 z) (Add (values.I64 by)) e = refl
same_kind (values.I64 z) (Sub (values.U64 by)) e = absurd (cc)
same_kind (values.I64 z) (Sub (values.Bool b)) e = absurd (cc)
same_kind (values.I64 z) (Sub (values.I64 by)) e = refl
same_kind (values.I64 z) (Override (values.U64 m)) e = absurd (cc)
same_kind (values.I64 z) (Override (values.Bool b)) e = absurd (cc)
same_kind (values.I64 z) (Override (values.I64 m)) e = refl

same_kinds : (attrs : List AttrValue) (i : ℕ) (value new : AttrValue) → slice_get attrs i ≡ Some value → kind_of new ≡ kind_of value → kinds_of (set attrs i new) ≡ kinds_of attrs
same_kinds [] i value new at e = refl
same_kinds (x ∷ xs) zero value new at e = ap (λ k. k ∷ kinds_of xs) (e ∙ ap kind_of (sym (same_Some x value at)))
same_kinds (x ∷ xs) (suc i) value new at e = ap (λ ks. kind_of x ∷ ks) (same_kinds xs i value new at e)

replaced_kinds : (attrs : List AttrValue) (i : ℕ) (op : AttrOp) (o : Option AttrValue) → slice_get attrs i ≡ o → refused_by o op ≡ None → kinds_of (replaced attrs i op o) ≡ kinds_of attrs
replaced_kinds attrs i op None at e = refl
replaced_kinds attrs i op (Some value) at e = same_kinds attrs i value (changed_value op value) at (same_kind value op e)

-- ---- a resource

resource_free : (row : ResourceRow) (call : ResourceCall) → is_accepted (answer_at resources.resource_kind row call) ≡ true → resources.refused_attr row.attrs call ≡ None
resource_free row call e = last_of_three (resources.wants_open call && is_some row.dropped) (resources.draws_handle call && row.handles == 2 ^ 62) Closed HandlesSpent (resources.refused_attr row.attrs call) (accepted_frees (resources.refusal_of row call) (resources.reply_of row call) e)

resource_chosen : (b : Bool) (x y : ResourceRow) → (b ≡ true → kinds_of x.attrs ≡ kinds_of y.attrs) → kinds_of (cond b x y).attrs ≡ kinds_of y.attrs
resource_chosen true x y e = e refl
resource_chosen false x y e = refl

resource_step : (row : ResourceRow) (call : ResourceCall) → is_accepted (answer_at resources.resource_kind row call) ≡ true → kinds_of (resource_steps.changed row call).attrs ≡ kinds_of row.attrs
resource_step row (resource_calls.Close m) e = refl
resource_step row (resource_calls.Attr i op) e = replaced_kinds row.attrs i op (slice_get row.attrs i) refl (resource_free row (resource_calls.Attr i op) e)
resource_step row resource_calls.Enlist e = refl
resource_step row resource_calls.Read e = refl

resource_begins : (opening : ResourceRow) → kinds_of (fold_of resources.resource_kind opening []).attrs ≡ kinds_of opening.attrs
unfolding fold_of accepted resources.row_of
resource_begins opening = ap kinds_of (values_from-nil resources.change_of opening.attrs)

pub resource_kinds : (opening : ResourceRow) (h : List (Entry ResourceCall (Reply ResourceRow))) → HasItsAnswers resources.resource_kind opening h → kinds_of (fold_of resources.resource_kind opening h).attrs ≡ kinds_of opening.attrs
resource_kinds opening h answered =
    kept (answer resources.resource_kind opening) (λ g. kinds_of (fold_of resources.resource_kind opening g).attrs ≡ kinds_of opening.attrs) (resource_begins opening)
    (λ g caller call before same.
    ap (λ (row : ResourceRow). kinds_of row.attrs) (fold_of_push resources.resource_kind resource_steps.changed opening (resource_steps.Holds opening) (resource_steps.grows opening) (resource_steps.none opening) g caller call (always_holds resources.resource_kind resource_steps.changed opening (resource_steps.Holds opening) (resource_steps.grows opening) (resource_steps.none opening) g before)).0
    ∙ resource_chosen (is_accepted (answer_at resources.resource_kind (fold_of resources.resource_kind opening g) call)) (resource_steps.changed (fold_of resources.resource_kind opening g) call) (fold_of resources.resource_kind opening g) (resource_step (fold_of resources.resource_kind opening g) call)
    ∙ same) h answered

-- ---- an async operation

op_free : (row : OpRow) (call : OpCall) → is_accepted (answer_at ops.op_kind row call) ≡ true → ops.refused_attr row.attrs call ≡ None
op_free row call e = last_of_five (ops.wants_open call && is_some row.dropped) (ops.wants_idle call && row.polling) (ops.wants_polling call && not row.polling) (ops.draws_handle call && row.handles == 2 ^ 62) Closed AlreadyPolling NotPolling HandlesSpent (ops.refused_attr row.attrs call) (accepted_frees (ops.refusal_of row call) (ops.reply_of row call) e)

op_chosen : (b : Bool) (x y : OpRow) → (b ≡ true → kinds_of x.attrs ≡ kinds_of y.attrs) → kinds_of (cond b x y).attrs ≡ kinds_of y.attrs
op_chosen true x y e = e refl
op_chosen false x y e = refl

op_step : (row : OpRow) (call : OpCall) → is_accepted (answer_at ops.op_kind row call) ≡ true → kinds_of (op_steps.changed row call).attrs ≡ kinds_of row.attrs
op_step row (op_calls.PollStart m) e = refl
op_step row (op_calls.PollEnd m) e = refl
op_step row (op_calls.Close m) e = refl
op_step row (op_calls.SetTask id) e = refl
op_step row (op_calls.Attr i op) e = replaced_kinds row.attrs i op (slice_get row.attrs i) refl (op_free row (op_calls.Attr i op) e)
op_step row op_calls.Enlist e = refl
op_step row op_calls.Read e = refl

op_begins : (opening : OpRow) → kinds_of (fold_of ops.op_kind opening []).attrs ≡ kinds_of opening.attrs
unfolding fold_of accepted ops.row_of
op_begins opening = ap kinds_of (values_from-nil ops.change_of opening.attrs)

pub op_kinds : (opening : OpRow) (h : List (Entry OpCall (Reply OpRow))) → HasItsAnswers ops.op_kind opening h → kinds_of (fold_of ops.op_kind opening h).attrs ≡ kinds_of opening.attrs
op_kinds opening h answered =
    kept (answer ops.op_kind opening) (λ g. kinds_of (fold_of ops.op_kind opening g).attrs ≡ kinds_of opening.attrs) (op_begins opening)
    (λ g caller call before same.
    ap (λ (row : OpRow). kinds_of row.attrs) (fold_of_push ops.op_kind op_steps.changed opening (op_steps.Holds opening) (op_steps.grows opening) (op_steps.none opening) g caller call (always_holds ops.op_kind op_steps.changed opening (op_steps.Holds opening) (op_steps.grows opening) (op_steps.none opening) g before)).0
    ∙ op_chosen (is_accepted (answer_at ops.op_kind (fold_of ops.op_kind opening g) call)) (op_steps.changed (fold_of ops.op_kind opening g) call) (fold_of ops.op_kind opening g) (op_step (fold_of ops.op_kind opening g) call)
    ∙ same) h answered
