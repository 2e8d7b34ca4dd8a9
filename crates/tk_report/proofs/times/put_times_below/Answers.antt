use Rattle.std.proofs.Common.{◌≡◌, [], Some, OnOk, ap, string_bytes, subst, ◌∙◌}
use Rattle.std.specs.Option.{option_map_or}
use Rattle.tk_stream.specs.Tables.{item_with}
use Rattle.tk_stream.specs.Times.{TaskTimes, times_id}
use Rattle.tk_report.specs.Pieces.{Puts}
use Rattle.tk_report.specs.Timed.{times_line}
use Rattle.tk_report.proofs.times.put_times_below.Goals as goal

pub returns-in-Some : goal.returns-in-Some
returns-in-Some c =
    let found : Some c.in-Some.entry.now ≡ item_with times_id c.args.task c.args.times.now = c.in-Some.ensures ∙ ap (λ id. item_with times_id id c.args.times.now) c.value.ensures.value in
    subst (λ o. OnOk c.put_times.result (Puts (string_bytes c.args.out.now) (string_bytes c.put_times.new.out) (option_map_or (λ (t : TaskTimes). times_line t.1) o []))) found c.put_times.ensures
