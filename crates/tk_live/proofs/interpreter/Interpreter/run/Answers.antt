use Rattle.std.proofs.Common.{[], inl, refl, ap, ◌∙◌, ◌++◌, ◌||◌}
use Rattle.std.specs.Prelude.{not}
use Rattle.std.proofs.KnownBytes.{Appends-nil}
use Rattle.tk_script.specs.Commands.{view, is_setting}
use Rattle.tk_script.specs.declared.stop.Stop.TheVariants.{TooManyPolls}
use Rattle.tk_live.proofs.Lines.{begun, few_enough, many_is_no_write, no_front, stops_still, too_many}
use Rattle.tk_live.proofs.interpreter.Interpreter.run.Goals as goal

pub returns-then-polled-gt-MOST_POLLS : goal.returns-then-polled-gt-MOST_POLLS
returns-then-polled-gt-MOST_POLLS g c settings k kept sent stands =
    let s = view c.args.command in
    (inl (too_many k s _ _ _ stands.polled c.polls.ensures c.saturating_add-polled.ensures c.if-polled-gt-MOST_POLLS.true), [], no_front sent s TooManyPolls many_is_no_write, Appends-nil _)

pub returns-in-Ok : goal.returns-in-Ok
returns-in-Ok g c settings k kept sent stands =
    let p = c.in-Ok.ensures settings k kept sent stands in
    let b = c.begun_by-begun.result in
    let s = view c.args.command in
    let few = few_enough k s _ _ _ stands.polled c.polls.ensures c.saturating_add-polled.ensures c.if-polled-gt-MOST_POLLS.false in
    (few.0 ∙ p.0, p.1, p.2, begun c.apply.new.self (record c.apply.new.self { polled = c.saturating_add-polled.result; begun = b }) settings k c.args.line s (kept ++ p.1) (sent ++ p.2) p.3 c.saturating_add-polled.result b refl few.1 (c.begun_by-begun.ensures ∙ ap (λ b. not (is_setting s) || b) stands.begun), p.4)

pub returns-in-Err : goal.returns-in-Err
returns-in-Err g c settings k kept sent stands =
    let p = c.in-Err.ensures settings k kept sent stands in
    let s = view c.args.command in
    let few = few_enough k s _ _ _ stands.polled c.polls.ensures c.saturating_add-polled.ensures c.if-polled-gt-MOST_POLLS.false in
    (stops_still k s _ few.0 p.0, p.1, p.2, p.3)
