use Rattle.std.proofs.Common.{ℕ, List, None, false, cond, map, nat_eq, ap, sym, ◌∙◌, subst}
use Rattle.std.specs.List.{IsDistinct}
use Rattle.indexmap.specs.IndexMap.{get}
use Rattle.tk_client.specs.Changes.{left_id}
use Rattle.tk_client.specs.declared.change.LeftTask.{LeftTask}
use Rattle.tk_stream.specs.Tables.{is_among}
use Rattle.tk_odd.specs.Keeping.{lasts_in, row_in}
use Rattle.tk_page.specs.Kept.{told_track}
use Rattle.tk_page.proofs.TrackLemmas.{tracks_more}
use Rattle.tk_page.proofs.tracks.Tracks.follow.Goals as goal

pub returns : goal.returns
returns c = λ shown few moments leads h.
    let tables = c.args.tables.now in
    let change = c.args.change.now in
    let old = c.args.self.now in
    let mid = c.forget_all.new.self in
    let new = c.tell_all.new.self in
    let once : IsDistinct nat_eq c.told.result.now = subst (λ (ns : List ℕ). IsDistinct nat_eq ns) (sym c.told.ensures) leads.is.once in
    tracks_more shown tables change old mid new few leads h
    (λ id. c.forget_all.ensures.tasks id ∙ ap (λ (xs : List LeftTask). cond (is_among (map left_id xs) id) None (get nat_eq old.tasks id)) c.left.ensures)
    (λ id. c.forget_all.ensures.lasting id ∙ ap (λ (xs : List LeftTask). cond (is_among (map left_id xs) id) false (is_among old.lasting.keys id)) c.left.ensures)
    (λ id.
    c.in_ok-tell_all.ensures.tasks once id
    ∙ ap (λ (ns : List ℕ). cond (is_among ns id) (told_track c.args.moments.now tables.now (row_in tables id) (get nat_eq mid.tasks id)) (get nat_eq mid.tasks id)) c.told.ensures
    ∙ ap (λ (ms : List ℕ). cond (is_among change.told id) (told_track ms tables.now (row_in tables id) (get nat_eq mid.tasks id)) (get nat_eq mid.tasks id)) moments)
    (λ id. c.in_ok-tell_all.ensures.lasting id ∙ ap (λ (ns : List ℕ). cond (is_among ns id) (lasts_in tables id) (is_among mid.lasting.keys id)) c.told.ensures)
