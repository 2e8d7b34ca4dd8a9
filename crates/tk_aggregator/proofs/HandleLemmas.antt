-- What a reading leaves: the row is the fold of a legal history, and has the kinds that its ledger began with.
use Rattle.std.proofs.Common.{◌≡◌, ℕ, List, [], ◌∷◌, ◌++◌, Option, Some, None, refl, sym, ap, ◌∙◌, subst, append_assoc, append-nil, ⊎_elim}
use Rattle.std.proofs.lemmas.Option.{same_Some}
use Rattle.tk_core.specs.Fold.{fold_of, row_after, reply_after}
use Rattle.tk_core.specs.History.{calls_of}
use Rattle.tk_core.specs.Legal.{IsLegal}
use Rattle.tk_core.specs.Laws.OpLaws as op_laws
use Rattle.tk_core.specs.Laws.ResourceLaws as resource_laws
use Rattle.tk_core.specs.Laws.TaskLaws as task_laws
use Rattle.tk_core.specs.OpMeaning.{op_meaning}
use Rattle.tk_core.specs.ResourceMeaning.{resource_meaning}
use Rattle.tk_core.specs.declared.history.Entry.{Entry}
use Rattle.tk_core.specs.declared.op.row.OpRow.{OpRow}
use Rattle.tk_core.specs.declared.reply.Reply.{Reply}
use Rattle.tk_core.specs.declared.reply.Reply.TheVariants.{Shown}
use Rattle.tk_core.specs.declared.resource.row.ResourceRow.{ResourceRow}
use Rattle.tk_cell.specs.declared.view.View.{View}
use Rattle.tk_cell.specs.Calls.{entry}
use Rattle.tk_cell.specs.Ours.{ours}
use Rattle.tk_cell.specs.Views.{list_of}
use Rattle.tk_cell.proofs.ListLemmas.{snoc_cases}
use Rattle.tk_cell.proofs.OursLemmas.{calls_in_order}
use Rattle.tk_events.specs.Items.{inspector_view}
use Rattle.tk_ledgers.specs.Beside.{AllRead}
use Rattle.tk_ledgers.specs.Handles.{Sight}
use Rattle.tk_ledgers.specs.Ops.{OpSight}
use Rattle.tk_ledgers.specs.Resources.{ResourceSight}
use Rattle.tk_aggregator.specs.Readings.{Ledger, task_ledger, resource_ledger, op_ledger, Reads, IsRead, OnlyReads, IsLater, AreLater, ReadAll}
use Rattle.tk_ids.specs.declared.attr.AttrInfo.{AttrInfo}
use Rattle.tk_ids.specs.Attributes.{kinds_of, HaveKinds}
use Rattle.tk_aggregator.proofs.KindLemmas.{resource_kinds, op_kinds}

shown_same : {Row : Type 0} (a b : Row) → Shown a ≡ Shown b → a ≡ b
shown_same a b e = cc

module _ {Row C : Type 0} (l : Ledger Row C) where
  -- the beginning of a legal history is legal
  pub front_legal : (opening : Row) (h more : List (Entry C (Reply Row))) → IsLegal l.meaning opening (h ++ more) → IsLegal l.meaning opening h
  front_legal opening h more legal before later e cut = legal before (later ++ more) e (sym (append_assoc before (e ∷ later) more) ∙ ap (λ xs. xs ++ more) cut)

  -- a read is answered by the fold
  abbrev pub ReadsFold : Type 0
  ReadsFold = (opening : Row) (h : List (Entry C (Reply Row))) → IsLegal l.meaning opening h → l.meaning.reply_after opening (calls_of h) l.read ≡ Shown (fold_of l.kind opening h)

  pub reads_read : ReadsFold → (s : Sight Row C (Reply Row)) (r : Row) (t : Sight Row C (Reply Row)) → Reads l s r t → IsRead l t r
  reads_read replies s r t reading =
      let k = reading.entry in
      let h = s.token.view.seen ++ k.between in
      let last = entry s.token.view.caller l.read (Shown r) in
      let reply = (k.legal h [] last (sym k.grows)).reply in
      record {
        opening = k.opening;
        opened = k.same_opening ∙ k.opened;
        history = h;
        seen = k.grows ∙ ap (λ n. h ++ entry n l.read (Shown r) ∷ []) (sym k.same_caller);
        legal = k.legal;
        fold = shown_same r (fold_of l.kind k.opening h) (reply ∙ replies k.opening h (front_legal k.opening h (last ∷ []) (subst (IsLegal l.meaning k.opening) k.grows k.legal)));
      }

  -- a reading draws nothing
  abbrev pub DrawsNone : Type 0
  DrawsNone = (row : Row) → l.meaning.number (Shown row) ≡ None

  -- who has only read does so after a reading
  pub still_reads : DrawsNone → (s : Sight Row C (Reply Row)) (r : Row) (t : Sight Row C (Reply Row)) → OnlyReads l s → Reads l s r t → OnlyReads l t
  still_reads none s r t only reading =
      let k = reading.entry in
      let last : Entry C (Reply Row) = entry s.token.view.caller l.read (Shown r) in
      record {
        held = k.now_held ∙ (ap (λ (o : Option ℕ). s.token.view.held ++ list_of o) (none r) ∙ (append-nil s.token.view.held ∙ only.held));
        reads = λ before later e cut. ⊎_elim
            (λ (x : (before ≡ ours s.token.view) × (e ≡ last)). ap (λ (y : Entry C (Reply Row)). y.call) x.1)
            (λ (x : (rest : List (Entry C (Reply Row))) × (before ++ e ∷ rest ≡ ours s.token.view)). only.reads before x.0 e x.1)
            (snoc_cases before later (ours s.token.view) e last (cut ∙ calls_in_order l.meaning s.token.view t.token.view l.read (Shown r) k));
      }

  none_stand : (before after : List (Entry C (Reply Row))) (e : Entry C (Reply Row)) → before ++ e ∷ after ≡ [] → ⊥
  none_stand [] after e cut = cc
  none_stand (x ∷ before) after e cut = cc

  -- a new inspector has made no call
  pub new_reads : (enlist : C) (row : Row) (s : Sight Row C (Reply Row)) → s.token.view ≡ inspector_view enlist row → OnlyReads l s
  new_reads enlist row s is = record {
    held = ap (λ (v : View Row C (Reply Row)). v.held) is;
    reads = subst (λ (v : View Row C (Reply Row)). AllRead l.meaning l.read (ours v)) (sym is) (λ before after e cut. absurd (none_stand before after e cut));
  }

  pub reads_later : (s : Sight Row C (Reply Row)) (r : Row) (t : Sight Row C (Reply Row)) → Reads l s r t → IsLater s t
  reads_later s r t reading = record {
    id = reading.id;
    ledger = reading.ledger;
    caller = reading.entry.same_caller;
    opening = reading.entry.same_opening;
    seen = (reading.entry.between ++ entry s.token.view.caller l.read (Shown r) ∷ [], sym (append_assoc s.token.view.seen reading.entry.between _) ∙ sym reading.entry.grows);
  }

  pub all_later : (ss : List (Sight Row C (Reply Row))) (rs : List Row) (ts : List (Sight Row C (Reply Row))) → ReadAll l ss rs ts → AreLater ss ts
  all_later [] [] [] all = tt
  all_later [] [] (t ∷ ts) all = absurd all
  all_later [] (r ∷ rs) ts all = absurd all
  all_later (s ∷ ss) [] ts all = absurd all
  all_later (s ∷ ss) (r ∷ rs) [] all = absurd all
  all_later (s ∷ ss) (r ∷ rs) (t ∷ ts) all = (reads_later s r t all.0, all_later ss rs ts all.1)

  pub same_later : (s : Sight Row C (Reply Row)) → IsLater s s
  same_later s = record { id = refl; ledger = refl; caller = refl; opening = refl; seen = ([], append-nil s.token.view.seen) }

pub task_reads : ReadsFold task_ledger
unfolding reply_after row_after
task_reads opening h legal = ap Shown (sym (task_laws.legal_fold opening h legal))

pub resource_reads : ReadsFold resource_ledger
unfolding reply_after row_after
resource_reads opening h legal = ap Shown (sym (resource_laws.legal_fold opening h legal))

pub op_reads : ReadsFold op_ledger
unfolding reply_after row_after
op_reads opening h legal = ap Shown (sym (op_laws.legal_fold opening h legal))

pub task_draws_none : DrawsNone task_ledger
task_draws_none row = refl

pub resource_draws_none : DrawsNone resource_ledger
resource_draws_none row = refl

pub op_draws_none : DrawsNone op_ledger
op_draws_none row = refl

-- ---- kinds

-- values have the kinds that are told of them where their ledger began with such values
pub resource_fits : (s : ResourceSight) (row : ResourceRow) (attrs : List AttrInfo) → IsRead resource_ledger s row
    → (opened : ResourceRow) → s.token.view.opening ≡ Some opened → HaveKinds attrs opened.attrs → HaveKinds attrs row.attrs
resource_fits s row attrs read opened is kinds =
    let same : read.opening ≡ opened = same_Some read.opening opened (sym read.opened ∙ is) in
    let legal = front_legal resource_ledger read.opening read.history _ (subst (IsLegal resource_meaning read.opening) read.seen read.legal) in
    ap (λ (r : ResourceRow). kinds_of r.attrs) read.fold ∙ resource_kinds read.opening read.history (resource_laws.legal_answers read.opening read.history legal)
    ∙ ap (λ (r : ResourceRow). kinds_of r.attrs) same ∙ kinds

pub op_fits : (s : OpSight) (row : OpRow) (attrs : List AttrInfo) → IsRead op_ledger s row
    → (opened : OpRow) → s.token.view.opening ≡ Some opened → HaveKinds attrs opened.attrs → HaveKinds attrs row.attrs
op_fits s row attrs read opened is kinds =
    let same : read.opening ≡ opened = same_Some read.opening opened (sym read.opened ∙ is) in
    let legal = front_legal op_ledger read.opening read.history _ (subst (IsLegal op_meaning read.opening) read.seen read.legal) in
    ap (λ (r : OpRow). kinds_of r.attrs) read.fold ∙ op_kinds read.opening read.history (op_laws.legal_answers read.opening read.history legal)
    ∙ ap (λ (r : OpRow). kinds_of r.attrs) same ∙ kinds
