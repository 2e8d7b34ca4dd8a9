use Rattle.std.proofs.Common.{◌≡◌, List, ◌++◌, map, ap, ◌∙◌}
use Rattle.tk_stream.specs.declared.tables.task.Task.{Task}
use Rattle.tk_client.specs.Changes.{Timed}
use Rattle.tk_client.specs.declared.change.LeftTask.{LeftTask}
use Rattle.tk_series.specs.Limited.{limited}
use Rattle.tk_odd.specs.Places.{place_of}
use Rattle.tk_sites.specs.Site.{room}
use Rattle.tk_sites.specs.TimedSites.{left_times}
use Rattle.tk_sites.specs.Times.{plus_times}
use Rattle.tk_sites.specs.declared.times.SiteTimes.{SiteTimes}
use Rattle.tk_sites.proofs.TimedLemmas.{timed_noted}
use Rattle.tk_sites.proofs.timed_sites.note.Goals as goal

pub returns : goal.returns
returns c = λ seen times is h.
    let now : Timed = (c.args.tables.now, times) in
    timed_noted seen now c.args.change.now is c.task_count.ensures.distinct.tasks c.args.changes.now c.add_came.new.sites c.add_left_times.new.sites h
    (λ bs tasks e ids there. c.in_ok-add_came.ensures bs tasks e (c.came.ensures ∙ ids) there
    ∙ ap (λ (v : SiteTimes). limited room plus_times (bs ++ map (λ (t : Task). (place_of t.info, v)) tasks)) c.untold-none.ensures)
    (λ bs e. c.in_ok-add_left_times.ensures bs e ∙ ap (λ (xs : List LeftTask). limited room plus_times (bs ++ map left_times xs)) c.left.ensures)
