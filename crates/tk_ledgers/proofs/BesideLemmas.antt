-- Calls beside another token; and readings beside a hand: the row is that after the hand's calls.
use Rattle.std.proofs.Common.{◌≡◌, ℕ, ◌+◌, List, [], ◌∷◌, ◌++◌, length, Some, refl, ap, sym, ◌∙◌, subst, arith, append_assoc, length-append, ⊎_elim}
use Rattle.std.proofs.lemmas.List.{append-nil}
use mathlib.Core.List.{IsPrefix}
use Rattle.tk_core.specs.declared.history.Entry.{Entry}
use Rattle.tk_core.specs.declared.reply.Reply.{Reply}
use Rattle.tk_core.specs.declared.reply.Reply.TheVariants.{Shown}
use Rattle.tk_core.specs.declared.op.call.OpCall.TheVariants as op_calls
use Rattle.tk_core.specs.declared.op.row.OpRow.{OpRow}
use Rattle.tk_core.specs.declared.resource.row.ResourceRow.{ResourceRow}
use Rattle.tk_core.specs.declared.task.row.TaskRow.{TaskRow}
use Rattle.tk_core.specs.declared.resource.call.ResourceCall.TheVariants as resource_calls
use Rattle.tk_core.specs.declared.task.call.TaskCall.TheVariants as task_calls
use Rattle.tk_core.specs.Fold.{answer_at, row_after}
use Rattle.tk_core.specs.History.{calls_of}
use Rattle.tk_core.specs.Meaning.{Meaning, ReadsOnly}
use Rattle.tk_core.specs.Op.{op_kind}
use Rattle.tk_core.specs.OpMeaning.{op_meaning}
use Rattle.tk_core.specs.Resource.{resource_kind}
use Rattle.tk_core.specs.ResourceMeaning.{resource_meaning}
use Rattle.tk_core.specs.Task.{task_kind}
use Rattle.tk_core.specs.TaskMeaning.{task_meaning}
use Rattle.tk_core.specs.Laws.Folded.{after, steps_to}
use Rattle.tk_core.specs.Laws.OpSteps as op_steps
use Rattle.tk_core.specs.Laws.ResourceSteps as resource_steps
use Rattle.tk_core.specs.Laws.TaskSteps as task_steps
use Rattle.tk_cell.specs.declared.view.View.{View}
use Rattle.tk_cell.specs.Calls.{entry, Calls}
use Rattle.tk_cell.specs.Ours.{Interleaves, ours, CallsBeside, HoldTheirOwn}
use Rattle.tk_cell.proofs.BesideLemmas.{is_after_theirs}
use Rattle.tk_cell.proofs.ListLemmas.{snoc_cases}
use Rattle.tk_cell.proofs.RoleLemmas.{longer_second}
use Rattle.tk_ledgers.specs.Beside.{AllRead, ShowsCallsOf, ShowsTheirCalls}

-- ---- a call beside another token is a call

module _ {O C R : Type 0} (m : Meaning O C R) (v q w u : View O C R) (call : C) (reply : R) (k : CallsBeside m v q call reply w u) where
  abbrev met : List (Entry C R)
  met = k.v_met.seen

  -- the call, of who had met the hand
  met_call : Calls m (record q { seen = met }) call reply k.q_called
  met_call = subst (λ (x : View O C R). Calls m x call reply k.q_called) k.before.second_is k.entry

  too_long : (a b between : List (Entry C R)) (e : Entry C R) → IsPrefix b a → b ≡ (a ++ between) ++ e ∷ [] → ⊥
  too_long a b between e p grows =
      let le : length b + length p.0 ≡ length a = sym (length-append b p.0) ∙ ap length p.1 in
      let more : length b ≡ (length a + length between) + 1 = ap length grows ∙ (length-append (a ++ between) (e ∷ []) ∙ ap (λ (n : ℕ). n + 1) (length-append a between)) in
      omega (arith, le, more)

  -- after it both have seen what the caller then had seen
  saw_call : w.seen ≡ k.q_called.seen
  saw_call = ⊎_elim
      (λ (t : IsPrefix met k.q_called.seen × (w.seen ≡ k.q_called.seen)). t.1)
      (λ (t : IsPrefix k.q_called.seen met × (w.seen ≡ met)). absurd (too_long met k.q_called.seen met_call.between (entry q.caller call reply) t.0 met_call.grows))
      k.again.longer

  is_called : u ≡ k.q_called
  is_called = k.again.second_is ∙ ap (λ (s : List (Entry C R)). record k.q_called { seen = s }) saw_call

  -- a call beside a hand is a call
  pub beside_is_call : Calls m q call reply u
  beside_is_call = subst (λ (x : View O C R). Calls m q call reply x) (sym is_called) (
      let c = met_call in
      let p : IsPrefix q.seen met = longer_second m v.seen q.seen met k.before.longer in
      record {
        opening = c.opening;
        opened = c.opened;
        opens = c.opens;
        between = p.0 ++ c.between;
        grows = c.grows ∙ ap (λ (s : List (Entry C R)). (s ++ c.between) ++ entry q.caller call reply ∷ []) (sym p.1) ∙ ap (λ (s : List (Entry C R)). s ++ entry q.caller call reply ∷ []) (append_assoc q.seen p.0 c.between);
        legal = c.legal;
        mine = c.mine ∙ ap (λ (s : List (Entry C R)). s ++ entry q.caller call reply ∷ []) (k.before.second q.caller k.before.other_holds_itself);
        others = λ n there ne. c.others n there ne ∙ k.before.second n there;
        drawn = c.drawn;
        now_held = c.now_held;
        same_caller = c.same_caller;
        same_opening = c.same_opening;
        holds_itself = c.holds_itself;
        distinct = c.distinct;
        still_distinct = c.still_distinct;
      })

-- ---- readings beside a hand that holds the other callers

module _ {Row C : Type 0} (m : Meaning Row C (Reply Row)) where
  -- the next row depends on the row and the call alone
  abbrev pub IsStepped : Type 0
  IsStepped = (opening : Row) (a b : List C) (call : C) → m.IsOpening opening → m.row_after opening a ≡ m.row_after opening b → m.row_after opening (a ++ call ∷ []) ≡ m.row_after opening (b ++ call ∷ [])

  -- a reading shows the row
  abbrev pub ShowsRow : C → Type 0
  ShowsRow read = (opening : Row) (calls : List C) → m.reply_after opening calls read ≡ Shown (m.row_after opening calls)

  module _ (read : C) (stepped : IsStepped) (reads : ReadsOnly m read) (shows : ShowsRow read) where
    -- readings among calls leave the row
    reads_leave : (opening : Row) → m.IsOpening opening → (xs ys h : List (Entry C (Reply Row))) → Interleaves xs ys h → AllRead m read ys → (p q : List C) → m.row_after opening p ≡ m.row_after opening q
        → m.row_after opening (p ++ calls_of h) ≡ m.row_after opening (q ++ calls_of xs)
    reads_leave opening opens xs ys [] i all p q same =
        ap (λ (l : List C). m.row_after opening l) (append-nil p) ∙ (same ∙ (ap (λ (l : List C). m.row_after opening l) (sym (append-nil q)) ∙ ap (λ (l : List (Entry C (Reply Row))). m.row_after opening (q ++ calls_of l)) (sym i.0)))
    reads_leave opening opens xs ys (z ∷ h) i all p q same = ⊎_elim
        (λ (t : (rest : List (Entry C (Reply Row))) × (xs ≡ z ∷ rest) × Interleaves rest ys h).
        let next = reads_leave opening opens t.0 ys h t.2 all (p ++ z.call ∷ []) (q ++ z.call ∷ []) (stepped opening p q z.call opens same) in
        ap (λ (l : List C). m.row_after opening l) (sym (append_assoc p (z.call ∷ []) (calls_of h)))
        ∙ (next ∙ (ap (λ (l : List C). m.row_after opening l) (append_assoc q (z.call ∷ []) (calls_of t.0)) ∙ ap (λ (l : List (Entry C (Reply Row))). m.row_after opening (q ++ calls_of l)) (sym t.1))))
        (λ (t : (rest : List (Entry C (Reply Row))) × (ys ≡ z ∷ rest) × Interleaves xs rest h).
        let is : z.call ≡ read = all [] t.0 z (sym t.1) in
        let stays : m.row_after opening (p ++ z.call ∷ []) ≡ m.row_after opening p = ap (λ (c : C). m.row_after opening (p ++ c ∷ [])) is ∙ reads opening p opens in
        let later : AllRead m read t.0 = λ before after e cut. all (z ∷ before) after e (ap (λ (l : List (Entry C (Reply Row))). z ∷ l) cut ∙ sym t.1) in
        let next = reads_leave opening opens xs t.0 h t.2 later (p ++ z.call ∷ []) q (stays ∙ same) in
        ap (λ (l : List C). m.row_after opening l) (sym (append_assoc p (z.call ∷ []) (calls_of h))) ∙ next)
        i

    shown_row : (a b : Row) → Shown a ≡ Shown b → a ≡ b
    shown_row a b e = cc

    pub shows_their_calls : ShowsTheirCalls m read
    shows_their_calls v q w u row k closed all =
        let b = is_after_theirs m v q w u read (Shown row) k closed in
        let last : Entry C (Reply Row) = entry q.caller read (Shown row) in
        record {
          opening = b.opening;
          opened = b.opened;
          row_is = shown_row row (m.row_after b.opening (calls_of b.history)) (b.answered ∙ shows b.opening (calls_of b.history))
              ∙ reads_leave b.opening b.opens (ours v) (ours q) b.history b.theirs all [] [] refl;
          hand_stays = b.first_stays;
          reader_stays = λ before later e cut. ⊎_elim
              (λ (t : (before ≡ ours q) × (e ≡ last)). ap (λ (x : Entry C (Reply Row)). x.call) t.1)
              (λ (t : (rest : List (Entry C (Reply Row))) × (before ++ e ∷ rest ≡ ours q)). all before t.0 e t.1)
              (snoc_cases before later (ours q) e last (cut ∙ b.second_grows));
        }

-- ---- the three kinds

task_stepped : IsStepped task_meaning
task_stepped opening a b call opens same =
    let row = row_after task_kind opening a in
    let next : TaskRow × Reply TaskRow = (after task_kind task_steps.changed row call, answer_at task_kind row call) in
    let f = task_steps.follows row call next (λ within. refl) in
    sym (steps_to task_kind row call next f opening a refl).0 ∙ (steps_to task_kind row call next f opening b same).0

task_shows : ShowsRow task_meaning task_calls.Read
task_shows opening calls = let row = row_after task_kind opening calls in sym (steps_to task_kind row task_calls.Read (row, Shown row) (task_steps.follows row task_calls.Read (row, Shown row) (λ within. refl)) opening calls refl).1

task_reads : ReadsOnly task_meaning task_calls.Read
task_reads opening calls opens = let row = row_after task_kind opening calls in sym (steps_to task_kind row task_calls.Read (row, Shown row) (task_steps.follows row task_calls.Read (row, Shown row) (λ within. refl)) opening calls refl).0

pub tasks_show : ShowsTheirCalls task_meaning task_calls.Read
tasks_show = shows_their_calls task_meaning task_calls.Read task_stepped task_reads task_shows

resource_stepped : IsStepped resource_meaning
resource_stepped opening a b call opens same =
    let row = row_after resource_kind opening a in
    let next : ResourceRow × Reply ResourceRow = (after resource_kind resource_steps.changed row call, answer_at resource_kind row call) in
    let f = resource_steps.follows row call next (λ within. refl) in
    sym (steps_to resource_kind row call next f opening a refl).0 ∙ (steps_to resource_kind row call next f opening b same).0

resource_shows : ShowsRow resource_meaning resource_calls.Read
resource_shows opening calls = let row = row_after resource_kind opening calls in sym (steps_to resource_kind row resource_calls.Read (row, Shown row) (resource_steps.follows row resource_calls.Read (row, Shown row) (λ within. refl)) opening calls refl).1

resource_reads : ReadsOnly resource_meaning resource_calls.Read
resource_reads opening calls opens = let row = row_after resource_kind opening calls in sym (steps_to resource_kind row resource_calls.Read (row, Shown row) (resource_steps.follows row resource_calls.Read (row, Shown row) (λ within. refl)) opening calls refl).0

pub resources_show : ShowsTheirCalls resource_meaning resource_calls.Read
resources_show = shows_their_calls resource_meaning resource_calls.Read resource_stepped resource_reads resource_shows

op_stepped : IsStepped op_meaning
op_stepped opening a b call opens same =
    let row = row_after op_kind opening a in
    let next : OpRow × Reply OpRow = (after op_kind op_steps.changed row call, answer_at op_kind row call) in
    let f = op_steps.follows row call next (λ within. refl) in
    sym (steps_to op_kind row call next f opening a refl).0 ∙ (steps_to op_kind row call next f opening b same).0

op_shows : ShowsRow op_meaning op_calls.Read
op_shows opening calls = let row = row_after op_kind opening calls in sym (steps_to op_kind row op_calls.Read (row, Shown row) (op_steps.follows row op_calls.Read (row, Shown row) (λ within. refl)) opening calls refl).1

op_reads : ReadsOnly op_meaning op_calls.Read
op_reads opening calls opens = let row = row_after op_kind opening calls in sym (steps_to op_kind row op_calls.Read (row, Shown row) (op_steps.follows row op_calls.Read (row, Shown row) (λ within. refl)) opening calls refl).0

pub ops_show : ShowsTheirCalls op_meaning op_calls.Read
ops_show = shows_their_calls op_meaning op_calls.Read op_stepped op_reads op_shows
