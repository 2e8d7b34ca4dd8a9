use Rattle.std.proofs.Common.{OnOk, subst}
use Rattle.std.specs.Option.{option_map_or}
use Rattle.tk_paper.specs.Pieces.{Writes}
use Rattle.tk_page.specs.PollTimes.{dash_cell, time_cell}
use Rattle.tk_page.proofs.poll_times.put_percentile.Goals as goal

pub returns-in-Some : goal.returns-in-Some
returns-in-Some c =
    subst (λ o. OnOk c.put_time.result (Writes c.args.paper.now c.put_time.new.paper (option_map_or time_cell o dash_cell))) c.in-Some.ensures c.put_time.ensures

pub returns-in-None : goal.returns-in-None
returns-in-None c =
    subst (λ o. OnOk c.put_dash.result (Writes c.args.paper.now c.put_dash.new.paper (option_map_or time_cell o dash_cell))) c.in-None.ensures c.put_dash.ensures
