-- A legal history has its answers, and its fold is the row after its calls: the meaning of an object and the definitions of its kind agree.
use Rattle.std.proofs.Common.{◌≡◌, List, [], ◌∷◌, ◌++◌, refl, sym, ap, ◌∙◌, subst, append_assoc}
use Rattle.std.specs.List.{AllByRecursion}
use Rattle.tk_core.specs.declared.history.Entry.{Entry}
use Rattle.tk_core.specs.declared.reply.Reply.{Reply}
use Rattle.tk_core.specs.Lists.{each_after}
use Rattle.tk_core.specs.History.{calls_of}
use Rattle.tk_core.specs.Fold.{Kind, answer_at, answer, HasItsAnswers, row_after, reply_after}
use Rattle.tk_core.specs.Laws.Answered.{IsAnswered-push}
use Rattle.tk_core.specs.Laws.Folded.{fold_of-calls}

module _ {Row C : Type 0} (kind : Kind Row C) (opening : Row) where
  -- each reply is that of the calls before it
  abbrev pub RepliesByCalls : List (Entry C (Reply Row)) → Type 0
  RepliesByCalls h = (before later : List (Entry C (Reply Row))) (e : Entry C (Reply Row)) → before ++ e ∷ later ≡ h → e.reply ≡ reply_after kind opening (calls_of before) e.call

  same_answer : (h : List (Entry C (Reply Row))) (call : C) → HasItsAnswers kind opening h → reply_after kind opening (calls_of h) call ≡ answer kind opening h call
  unfolding reply_after row_after
  same_answer h call answered = ap (λ row. answer_at kind row call) (sym (fold_of-calls kind opening h answered))

  answered_from : (before rest : List (Entry C (Reply Row))) → HasItsAnswers kind opening before → RepliesByCalls (before ++ rest)
      → AllByRecursion (λ p. p.1.reply ≡ answer kind opening p.0 p.1.call) (each_after before rest)
  answered_from before [] begun replies = tt
  answered_from before (e ∷ rest) begun replies =
      let reply : e.reply ≡ answer kind opening before e.call = replies before rest e refl ∙ same_answer before e.call begun in
      let IsNext : Reply Row → Type 0 = λ r. HasItsAnswers kind opening (before ++ record { caller = e.caller; call = e.call; reply = r } ∷ []) in
      let longer : HasItsAnswers kind opening (before ++ e ∷ []) = subst IsNext (sym reply) (IsAnswered-push (answer kind opening) before e.caller e.call begun) in
      let more : RepliesByCalls ((before ++ e ∷ []) ++ rest) = rw append_assoc replies in
      (reply, answered_from (before ++ e ∷ []) rest longer more)

  -- a history whose replies are those of the calls before them has its answers
  pub has_its_answers : (h : List (Entry C (Reply Row))) → RepliesByCalls h → HasItsAnswers kind opening h
  has_its_answers h replies = answered_from [] h tt replies
