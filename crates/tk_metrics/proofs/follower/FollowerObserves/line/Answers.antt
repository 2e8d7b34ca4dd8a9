use Rattle.std.proofs.Common.{◌∙◌, ◌^◌, ◌++◌, ◌∷◌, [], List, OnOk, refl, subst, sym}
use Rattle.std.specs.Prelude.{Result, Ok, Err}
use Rattle.tk_client.specs.Changes.{Timed}
use Rattle.tk_odd.specs.Inner.{Follows as Diagnoses}
use Rattle.tk_reading.specs.Shown.{tables_of}
use Rattle.tk_reading.proofs.ShownLemmas.{leads, seen_few, seen_more, tables-append}
use Rattle.tk_metrics.specs.Following.{Follows}
use Rattle.tk_metrics.proofs.follower.FollowerObserves.line.Goals as goal

three : {E : Type 0} (A B C : Type 0) (r : Result (Unit {0}) E) → A → OnOk r B → C → OnOk r (A × (B × C))
three A B C (Ok done) a b c = (a, (b, c))
three A B C (Err e) a b c = tt

pub returns : goal.returns
returns c = λ from seen many is h.
    let few = seen_few (2 ^ 62) seen many in
    let shown = tables_of seen in
    let now : Timed = (c.args.tables.now, c.args.times.now) in
    three _ _ _ c.note-2.result
    (subst (λ xs. Follows from.leavers.by xs (seen ++ now ∷ []) c.note.new.self) (sym (tables-append seen (now ∷ [])))
    (c.in_ok-note.ensures from.leavers.by shown seen few is refl h.0))
    (seen_more (λ xs. Diagnoses xs c.note-2.new.self) c.note-2.result seen now (c.note-2.ensures.follows shown (leads seen now c.args.change.now is) h.1.0))
    (c.note-2.ensures.limits ∙ h.1.1)
