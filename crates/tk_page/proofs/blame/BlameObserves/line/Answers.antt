use Rattle.std.proofs.Common.{◌∙◌, ◌^◌, [], ◌∷◌, ◌++◌, ap, sym, subst, List}
use Rattle.tk_client.specs.Changes.{Timed}
use Rattle.tk_odd.specs.declared.diagnosis.Diagnosis.{Diagnosis}
use Rattle.tk_reading.specs.Shown.{tables_of}
use Rattle.tk_reading.proofs.ShownLemmas.{leads, seen_few, tables-append}
use Rattle.tk_stream.specs.Tables.{TablesView}
use Rattle.tk_page.specs.Charges.{Blames}
use Rattle.tk_page.proofs.BlameLemmas.{blames_more}
use Rattle.tk_page.proofs.TrackLemmas.{so_on_ok}
use Rattle.tk_page.proofs.blame.BlameObserves.line.Goals as goal

pub returns : goal.returns
returns c = λ from seen many is h.
    let shown = tables_of seen in
    let few = seen_few (2 ^ 62) seen many in
    let old = c.args.self.now in
    let new = c.note_charges.new.self in
    let tables = c.args.tables.now in
    let now : Timed = (tables, c.args._times.now) in
    let d = c.note.new.self in
    let follows = c.in_ok-note.ensures.follows shown (leads seen now c.args.change.now is) h.0.follows in
    let same = c.note_charges.ensures.same in
    so_on_ok c.note_charges.result
    (λ next. (
      subst (λ (xs : List TablesView). Blames xs new) (sym (tables-append seen (now ∷ [])))
          (blames_more shown tables c.now.result d old new c.now.ensures few same c.in_ok-note.ensures.limits follows h.0 next),
      ap (λ (e : Diagnosis). e.limits) same ∙ c.in_ok-note.ensures.limits ∙ h.1,
    ))
    (c.note_charges.ensures.courses (shown ++ tables ∷ []) follows)
