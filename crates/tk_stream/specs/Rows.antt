-- When two rows are the same, and when two poll counts are.
use Rattle.std.specs.Prelude.{List, ◌==◌, nat_eq, Bool, false, ◌&&◌}
use Rattle.std.specs.Bool.{beq}
use Rattle.std.specs.Cmp.Lexicographic.{pointwise}
use Rattle.std.specs.Ordering.{int_eq}
use Rattle.std.specs.Option.{option_eq}
use Rattle.tk_core.specs.declared.op.row.OpRow.{OpRow}
use Rattle.tk_core.specs.declared.resource.row.ResourceRow.{ResourceRow}
use Rattle.tk_core.specs.declared.task.row.TaskRow.{TaskRow}
use Rattle.tk_core.specs.declared.task.wait.Waits.{Waits}
use Rattle.tk_ids.specs.declared.attr.AttrValue.{AttrValue}
use Rattle.tk_ids.specs.declared.attr.AttrValue.TheVariants.{U64, Bool as Flag, I64}
use Rattle.tk_stream.specs.Tables.{PollCounts}

-- whether what is counted of waits agrees
abbrev pub same_waits : Waits → Waits → Bool
same_waits a b = a.total == b.total && nat_eq a.so_far b.so_far

-- whether two rows of tasks agree in each of their fields
abbrev pub same_row : TaskRow → TaskRow → Bool
same_row a b =
    a.created == b.created
    && option_eq nat_eq a.dropped b.dropped
    && a.polls == b.polls
    && option_eq nat_eq a.first_poll b.first_poll
    && option_eq nat_eq a.last_started b.last_started
    && option_eq nat_eq a.last_ended b.last_ended
    && a.busy == b.busy
    && a.wakes == b.wakes
    && a.self_wakes == b.self_wakes
    && option_eq nat_eq a.last_wake b.last_wake
    && a.clones == b.clones
    && a.drops == b.drops
    && a.handles == b.handles
    && a.sched == b.sched
    && option_eq same_waits a.waits b.waits
    && beq a.polling b.polling
    && beq a.scheduled b.scheduled

-- whether two attribute values are equal: of one kind, and the same there
abbrev pub same_value : AttrValue → AttrValue → Bool
same_value (U64 m) (U64 n) = m == n
same_value (Flag b) (Flag c) = beq b c
same_value (I64 m) (I64 n) = int_eq m n
same_value _ _ = false

-- whether two lists of attribute values are as long, and agree at each place
abbrev pub same_values : List AttrValue → List AttrValue → Bool
same_values = pointwise same_value

-- whether two rows of resources agree in each of their fields
abbrev pub same_resource_row : ResourceRow → ResourceRow → Bool
same_resource_row a b =
    a.created == b.created
    && option_eq nat_eq a.dropped b.dropped
    && a.handles == b.handles
    && same_values a.attrs b.attrs

-- whether two rows of async operations agree in each of their fields
abbrev pub same_op_row : OpRow → OpRow → Bool
same_op_row a b =
    a.created == b.created
    && option_eq nat_eq a.dropped b.dropped
    && a.polls == b.polls
    && option_eq nat_eq a.first_poll b.first_poll
    && option_eq nat_eq a.last_started b.last_started
    && option_eq nat_eq a.last_ended b.last_ended
    && a.busy == b.busy
    && a.handles == b.handles
    && option_eq nat_eq a.task b.task
    && beq a.polling b.polling
    && same_values a.attrs b.attrs

-- whether two poll counts agree
abbrev pub same_counts : PollCounts → PollCounts → Bool
same_counts a b = a.0 == b.0 && a.1 == b.1 && a.2 == b.2
