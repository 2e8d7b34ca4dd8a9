use Rattle.std.proofs.Common.{◌≡◌, ◌∷◌, [], None, Some, ap, sym, ◌∙◌}
use Rattle.tk_stream.specs.Tables.{item_with, staying}
use Rattle.tk_stream.specs.Times.{TaskTimes, times_id}
use Rattle.tk_metrics.proofs.LatestLemmas.{learned_none, learned_some}
use Rattle.tk_metrics.proofs.latest.Latest.learn_one.Goals as goal

pub returns-in_ok-put-in-Some : goal.returns-in_ok-put-in-Some
returns-in_ok-put-in-Some c =
    let times = c.args.times.now in
    let e : TaskTimes = (c.in-Some.field-0.now.0, c.in-Some.field-0.now.1) in
    let found : item_with times_id c.args.id times ≡ Some e = sym (c.in-Some.ensures ∙ ap (λ n. item_with times_id n times) c.value.ensures.value) in
    learned_some c.args.id times c.args.self.now.times c.put.new.self e found c.in_ok-put-in-Some.ensures.ok

pub returns-in-None : goal.returns-in-None
returns-in-None c =
    let times = c.args.times.now in
    let old = c.args.self.now.times in
    let none : item_with times_id c.args.id times ≡ None = sym (c.in-None.ensures ∙ ap (λ n. item_with times_id n times) c.value.ensures.value) in
    learned_none c.args.id times old c.remove.new.self none (c.remove.ensures ∙ ap (λ n. staying times_id (n ∷ []) old) c.value-in-None.ensures.value)
