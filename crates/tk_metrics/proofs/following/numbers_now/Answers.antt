use Rattle.std.proofs.Common.{◌≡◌, ◌∙◌, subst, sym}
use Rattle.std.specs.Prelude.{IfOk}
use Rattle.tk_metrics.specs.Blame.{blame_in}
use Rattle.tk_metrics.specs.Keys.{keys_after}
use Rattle.tk_metrics.specs.Leaving.{Holds, gone_in}
use Rattle.tk_metrics.specs.Metrics.{metrics_with}
use Rattle.tk_metrics.specs.Streams.{numbers_after}
use Rattle.tk_metrics.proofs.following.numbers_now.Goals as goal

pub returns : goal.returns
returns c = λ by shown timed last seen.
    let f = seen.0 in
    let gone = gone_in (keys_after by shown) shown in
    let held : Holds gone c.in_ok-left.left = subst (Holds gone) (sym c.in_ok-left.ensures) f.notes.held in
    let more = c.as_slice-2.ensures.value ∙ c.in_ok-more.ensures by shown timed (c.tables.ensures ∙ last) f.notes in
    let is : metrics_with c.keys.result.now c.tables-2.result.now c.as_slice.result.now gone (blame_in c.args.seen.now.diagnosis.limits shown c.tables-2.result.now) c.lines.result c.as_slice-2.result.now
    ≡ numbers_after by c.args.lints.now shown timed c.args.client.now.start.tables =
    λ i. metrics_with ((c.keys.ensures ∙ f.notes.keys) i) (c.tables-2.ensures i) ((c.as_slice.ensures.value ∙ c.in-Ok.ensures.ok) i) gone (blame_in (seen.1.1 i) shown (c.tables-2.ensures i)) ((c.lines.ensures ∙ f.lines) i) (more i) in
    subst (λ t. IfOk c.metrics_with.result (λ text. text.items ≡ t)) is (c.metrics_with.ensures gone shown held seen.1.0)
