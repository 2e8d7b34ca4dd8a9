use Rattle.std.proofs.Common.{◌++◌, ◌∙◌, ap, refl, subst}
use Rattle.tk_client.specs.Changes.{untimed}
use Rattle.tk_reading.specs.Shown.{last_timed}
use Rattle.tk_metrics.specs.Histograms.{times_family}
use Rattle.tk_metrics.specs.Keys.{keys_after}
use Rattle.tk_metrics.specs.declared.keys.Keys.{Keys}
use Rattle.tk_metrics.specs.Timed.{AddsThere}
use Rattle.tk_metrics.specs.declared.family.Timing.TheVariants.{Polls, Waits}
use Rattle.tk_metrics.proofs.HistogramLemmas.{adds_same, all_polls, all_waits}
use Rattle.tk_metrics.proofs.following.histogram_text.Goals as goal

pub returns : goal.returns
returns c = λ by shown timed same n.
    let l = c.args.leavers.now in
    let t = c.args.tables.now in
    let last = last_timed untimed timed in
    let all = c.in_ok-all.all in
    let keys = keys_after by shown in
    let adds : AddsThere keys last l.histograms all =
    adds_same keys last t l.latest.times l.histograms all same n.latest (subst (λ (k : Keys). AddsThere k (t, l.latest.times) l.histograms all) n.keys c.in_ok-all.ensures) in
    let polls = all_polls keys timed last l.histograms all refl n.times adds in
    let waits = all_waits keys timed last l.histograms all refl n.times adds in
    c.in_ok-put_histograms.ensures.is
    ∙ ap (λ xs. xs ++ (times_family Polls all.polls ++ times_family Waits all.waits)) c.new-text.ensures.items
    ∙ (λ i. times_family Polls (polls i) ++ times_family Waits (waits i))
