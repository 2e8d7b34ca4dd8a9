use Rattle.std.proofs.Common.{◌∙◌, List, map, cond, ap}
use Rattle.tk_client.specs.Changes.{left_id}
use Rattle.tk_client.specs.declared.change.LeftTask.{LeftTask}
use Rattle.tk_stream.specs.Tables.{is_among, item_with}
use Rattle.tk_stream.specs.Times.{times_id}
use Rattle.tk_metrics.proofs.LatestLemmas.{agrees_more}
use Rattle.tk_metrics.proofs.latest.Latest.note.Goals as goal

pub returns : goal.returns
returns c = λ before tables is agrees.
    let times = c.args.times.now in
    let mid = c.forget.new.self.times in
    agrees_more before tables times c.args.change.now c.args.self.now.times mid c.learn.new.self.times is agrees
    (λ other away. c.forget.ensures other (ap (λ (ls : List LeftTask). is_among (map left_id ls) other) c.left.ensures ∙ away))
    (λ other. c.in_ok-learn.ensures other ∙ ap (λ ns. cond (is_among ns other) (item_with times_id other times) (item_with times_id other mid)) c.told.ensures)
