use Rattle.std.proofs.Common.{ℕ, List, slice_get, ap, ap₂, ◌∙◌}
use Rattle.std.specs.Prelude.{fold}
use Rattle.std.specs.Option.{option_map_or}
use Rattle.tk_client.specs.Candidates.{places_by}
use Rattle.tk_odd.specs.Keeping.{may_gain}
use Rattle.tk_page.specs.Kept.{with_gain_by}
use Rattle.tk_page.specs.Samples.{nothing, plus}
use Rattle.tk_page.specs.declared.sample.Sample.{Sample}
use Rattle.tk_page.proofs.GainLemmas.{total_is}
use Rattle.tk_page.proofs.tracks.Tracks.total_after.Goals as goal

pub returns : goal.returns
returns c = λ shown leads h moment.
    let tables = c.args.tables.now in
    let tracks = c.args.self.now in
    let before = c.args.before in
    let step : Sample → ℕ → Sample = λ (sum : Sample) (place : ℕ). option_map_or (with_gain_by before.now tables tracks sum) (slice_get tables.tasks place) sum in
    c.with_gains.ensures
    ∙ ap₂ (λ (ps : List ℕ) (total : Sample). fold step total ps)
    (c.as_slice.ensures.value ∙ c.in_ok-places.ensures ∙ ap (λ (ns : List ℕ). places_by (may_gain ns tracks.lasting.keys) 0 tables.tasks) c.told.ensures)
    (c.with-total.ensures ∙ ap (λ (s : Sample). plus s before) (c.none.ensures ∙ ap nothing c.now.ensures))
    ∙ total_is shown tables c.args.change.now tracks before leads h moment c.task_count.ensures.distinct.tasks
