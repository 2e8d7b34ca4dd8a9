use Rattle.std.proofs.Common.{◌≡◌, ap, ◌∙◌}
use Rattle.std.specs.Prelude.{option_map, unwrap_or}
use Rattle.std.specs.Option.{option_map_or}
use Rattle.tk_stream.specs.Lines.{GoneView, none_gone, with_times}
use Rattle.tk_aggregator.specs.Aggregates.{leaving_at}
use Rattle.tk_aggregator.specs.Timing.{told_by}
use Rattle.tk_aggregator.proofs.aggregator.Aggregator.next_line.Goals as goal

pub returns-clause-line : goal.returns-clause-line
returns-clause-line c =
    let gone : (unwrap_or (option_map (λ l. l.now) c.as_ref.result) none_gone).tasks ≡ (leaving_at c.args.snapshot c.args.self.now c.args.now).tasks =
    ap (λ o. (unwrap_or o none_gone).tasks) c.as_ref.ensures.value ∙ ap (λ (g : GoneView). g.tasks) c.in_ok-line.ensures.leaving in
    c.in_ok-line-2.ensures.ok
    ∙ (λ i. option_map_or (λ times. with_times times (c.in_ok-line.ensures.line i)) (told_by c.args.snapshot (c.self.view_is i).timing (gone i)) (c.in_ok-line.ensures.line i))
