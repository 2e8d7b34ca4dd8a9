use Rattle.std.proofs.Common.{List, [], ◌∷◌, ◌++◌, ap, subst, sym, ◌∙◌}
use Rattle.tk_client.specs.Changes.{Timed}
use Rattle.tk_odd.specs.Inner.{Follows}
use Rattle.tk_odd.specs.declared.diagnosis.Diagnosis.{Diagnosis}
use Rattle.tk_reading.specs.Shown.{tables_of}
use Rattle.tk_reading.proofs.ShownLemmas.{leads, seen_more}
use Rattle.tk_sites.specs.Inner.{Follows as FollowsSites}
use Rattle.tk_sites.specs.declared.sites.Sites.{Sites}
use Rattle.tk_stream.specs.Tables.{TablesView}
use Rattle.tk_watch.specs.Course.{Keeps, Sees, first_or}
use Rattle.tk_watch.specs.Recent.{noted_of}
use Rattle.tk_watch.specs.declared.notes.Notes.{Notes}
use Rattle.tk_watch.specs.declared.seen.Seen.{Seen}
use Rattle.tk_watch.proofs.OddLemmas.{came_is, sees_more}
use Rattle.tk_watch.proofs.seen.SeenObserves.line.Goals as goal

pub returns : goal.returns
returns c = λ from lines few is h.
    let old : Seen = c.args.self.now in
    let mid : Seen = c.mark.new.self in
    let new : Seen = record { first = mid.first; diagnosis = c.note.new.self; sites = c.note-2.new.self; notes = c.note-3.new.self; waits = c.note_waits.new.waits } in
    let lints = from.diagnosis.limits.lints in
    let tables = c.args.tables.now in
    let shown = tables_of lines in
    let now : Timed = (tables, c.args._times.now) in
    let follows = c.in_ok-note.ensures.follows shown (leads lines now c.args.change.now is) (subst (λ (d : Diagnosis). Follows shown d) (sym c.mark.ensures.diagnosis) h.follows) in
    let limits = c.note.ensures.limits ∙ ap (λ (d : Diagnosis). d.limits) c.mark.ensures.diagnosis in
    let sites = c.in_ok-note-2.ensures shown (leads lines now c.args.change.now is) (subst (λ (s : Sites). FollowsSites shown s) (sym c.mark.ensures.sites) h.sites) in
    seen_more (λ xs. Sees lints xs new) c.note-3.result lines now
    (sees_more lints shown tables old new c.note-3.result h follows limits (c.mark.ensures.first ∙ ap (first_or old.first) c.now.ensures) sites
    (c.in_ok-note_waits.ensures shown (c.mark.ensures.waits ∙ h.waits))
    (c.note-3.ensures lints (noted_of lints shown) (limits ∙ h.limits)
    (subst (λ (xs : List TablesView). Follows (xs ++ tables ∷ []) new.diagnosis) (sym (came_is lints shown)) follows)
    (subst (λ (xs : List TablesView). FollowsSites (xs ++ tables ∷ []) new.sites) (sym (came_is lints shown)) sites)
    (subst (λ (n : Notes). Keeps (noted_of lints shown) n) (sym c.mark.ensures.notes) h.notes)))
