-- How many tasks of a place are warned of, and the first of them.
use Rattle.std.specs.Prelude.{ℕ, ◌+◌, Some, None}
use Rattle.std.specs.Option.{option_map_or}
use Rattle.tk_core.specs.Lists.{capped}
use Rattle.tk_client.specs.declared.any_warnings.AnyWarning.{AnyWarning}
use Rattle.tk_client.specs.declared.any_warnings.AnyWarning.TheVariants as any
use Rattle.tk_client.specs.declared.warning.WarningKind.{WarningKind}
use Rattle.tk_client.specs.declared.warning.WarningKind.TheVariants.{SelfWakes, LostWaker, NeverYielded}
use Rattle.tk_sites.specs.declared.warned.Warned.{Warned}
use Rattle.tk_sites.specs.declared.warned.Warnings.{Warnings}

-- no task
abbrev pub none_warned : Warned
none_warned = record { tasks = 0; first = None }

-- one task
abbrev pub one_warned : ℕ → Warned
one_warned task = record { tasks = 1; first = Some task }

-- both, of which one comes first. A number that passes 2^64 - 1 stays there
abbrev pub both_warned : Warned → Warned → Warned
both_warned a b = record { tasks = capped (a.tasks + b.tasks); first = option_map_or (λ task. Some task) a.first b.first }

-- no task is warned of
abbrev pub no_warnings : Warnings
no_warnings = record {
  self_wakes = none_warned;
  lost_waker = none_warned;
  never_yielded = none_warned;
  long_poll = none_warned;
  long_wait = none_warned;
}

-- both, kind by kind
abbrev pub both_warnings : Warnings → Warnings → Warnings
both_warnings a b = record {
  self_wakes = both_warned a.self_wakes b.self_wakes;
  lost_waker = both_warned a.lost_waker b.lost_waker;
  never_yielded = both_warned a.never_yielded b.never_yielded;
  long_poll = both_warned a.long_poll b.long_poll;
  long_wait = both_warned a.long_wait b.long_wait;
}

-- one warning of a task, of a kind that tables have
abbrev pub usual_warning : WarningKind → ℕ → Warnings
usual_warning SelfWakes task = record no_warnings { self_wakes = one_warned task }
usual_warning LostWaker task = record no_warnings { lost_waker = one_warned task }
usual_warning NeverYielded task = record no_warnings { never_yielded = one_warned task }

-- one warning
abbrev pub one_warning : AnyWarning → Warnings
one_warning (any.Usual w) = usual_warning w.kind w.task
one_warning (any.LongPoll p) = record no_warnings { long_poll = one_warned p.task }
one_warning (any.LongWait w) = record no_warnings { long_wait = one_warned w.task }

-- the task that a warning is about
abbrev pub warned_task : AnyWarning → ℕ
warned_task (any.Usual w) = w.task
warned_task (any.LongPoll p) = p.task
warned_task (any.LongWait w) = w.task
