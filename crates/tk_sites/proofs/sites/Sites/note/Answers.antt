use Rattle.std.proofs.Common.{◌≡◌, List, [], ◌∷◌, ◌++◌, map, refl, ap, ◌∙◌}
use Rattle.tk_stream.specs.Tables.{empty_tables}
use Rattle.tk_stream.specs.declared.tables.task.Task.{Task}
use Rattle.tk_client.specs.Changes.{Timed}
use Rattle.tk_client.specs.declared.change.LeftTask.{LeftTask}
use Rattle.tk_reading.specs.Shown.{last_shown}
use Rattle.tk_series.specs.Limited.{limited}
use Rattle.tk_sites.specs.Adding.{left_as_shown}
use Rattle.tk_odd.specs.Places.{place_of}
use Rattle.tk_sites.specs.Site.{room}
use Rattle.tk_sites.specs.Sums.{plus}
use Rattle.tk_sites.specs.declared.sites.Sites.{Sites}
use Rattle.tk_sites.specs.declared.sums.Sums.{Sums}
use Rattle.tk_sites.proofs.ChangeLemmas.{noted}
use Rattle.tk_sites.proofs.sites.Sites.note.Goals as goal

pub returns : goal.returns
returns c = λ shown leads h.
    let new : Sites = record { alloc = c.args.self.now.alloc; changes = c.add_left.new.sites } in
    let before : Timed = (last_shown empty_tables shown, leads.times_before) in
    let now : Timed = (c.args.tables.now, leads.times_after) in
    noted shown before now c.args.change.now leads.is refl c.task_count.ensures.distinct.tasks c.args.self.now new c.add_came.new.sites h
    (λ bs tasks e ids there. c.in_ok-add_came.ensures bs tasks e (c.came.ensures ∙ ids) there
    ∙ ap (λ (v : Sums). limited room plus (bs ++ map (λ (t : Task). (place_of t.info, v)) tasks)) c.came-one.ensures)
    (λ bs e. c.in_ok-add_left.ensures bs e ∙ ap (λ (xs : List LeftTask). limited room plus (bs ++ map left_as_shown xs)) c.left.ensures)
