use Rattle.std.proofs.Common.{ℕ, Option, Some, ap, ap₂, ◌∙◌}
use Rattle.tk_watch.specs.Recent.{again_at, still}
use Rattle.tk_watch.proofs.OddLemmas.{due_is, notes_none, notes_one}
use Rattle.tk_watch.proofs.notes.Notes.note.Goals as goal

pub returns-then-not-is_due : goal.returns-then-not-is_due
returns-then-not-is_due c = λ lints noted limits follows sites k.
    let tables = c.args.tables.now in
    notes_none lints noted tables c.args.self.now
    (due_is noted c.args.self.now tables c.now-now.result c.is_due.result k c.now-now.ensures c.is_due.ensures ∙ c.if-not-is_due.true) k

pub returns : goal.returns
returns c = λ lints noted limits follows sites k.
    let old = c.args.self.now in
    let tables = c.args.tables.now in
    let notes = still old.last c.now-now.result noted.notes in
    notes_one lints noted tables _ c.in_ok-earlier.earlier notes
    (due_is noted old tables c.now-now.result c.is_due.result k c.now-now.ensures c.is_due.ensures ∙ c.if-not-is_due.false)
    (c.in_ok-earlier.ensures lints _ limits follows sites) (ap Some c.now-now.ensures)
    (c.forget.ensures.again ∙ ap₂ (λ (l : Option ℕ) (m : ℕ). again_at l m old.again) k.last c.now-now.ensures ∙ ap (again_at noted.last tables.now) k.again)
    (ap₂ (λ (l : Option ℕ) (m : ℕ). still l m noted.notes) k.last c.now-now.ensures)
    (c.in_ok-push_last.ensures notes (c.forget.ensures.list noted k.notes))
