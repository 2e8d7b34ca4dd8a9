use Rattle.std.proofs.Common.{◌≡◌, [], Some, OnOk, ap, subst, ◌∙◌}
use Rattle.std.specs.Option.{option_map_or}
use Rattle.tk_stream.specs.Tables.{item_with}
use Rattle.tk_stream.specs.Times.{TaskTimes, times_id}
use Rattle.tk_screen.specs.Texts.{Puts}
use Rattle.tk_frame.specs.Histograms.{both_part}
use Rattle.tk_frame.proofs.histograms.push_times.Goals as goal

pub returns-in-Some : goal.returns-in-Some
returns-in-Some c =
    let found : Some c.in-Some.entry.now ≡ item_with times_id c.args.id c.args.times.now = c.in-Some.ensures ∙ ap (λ id. item_with times_id id c.args.times.now) c.value.ensures.value in
    subst (λ o. OnOk c.push_both.result (Puts c.args.lines.now.items c.push_both.new.lines.items (option_map_or (λ (t : TaskTimes). both_part t.1) o []))) found c.push_both.ensures
