-- Two rows agree in each of their fields exactly where they are equal.
use Rattle.std.proofs.Common.{◌≡◌, ℕ, List, [], ◌∷◌, Bool, true, false, Option, Some, None, nat_eq, refl, ap, ap₂, sym, ◌∙◌, ◌↔◌}
use Rattle.std.specs.Bool.{beq}
use Rattle.std.specs.Option.{option_eq}
use Rattle.std.proofs.lemmas.Bool.{and_parts, eqb-true, eq-eqb}
use Rattle.std.proofs.lemmas.Bool.Decides.{Decides-int_eq}
use Rattle.tk_core.specs.declared.op.row.OpRow.{OpRow}
use Rattle.tk_core.specs.declared.resource.row.ResourceRow.{ResourceRow}
use Rattle.tk_core.specs.declared.task.row.TaskRow.{TaskRow}
use Rattle.tk_core.specs.declared.task.wait.Waits.{Waits}
use Rattle.tk_ids.specs.declared.attr.AttrValue.{AttrValue}
use Rattle.tk_ids.specs.declared.attr.AttrValue.TheVariants.{U64, Bool as Flag, I64}
use Rattle.tk_stream.specs.Tables.{PollCounts}
use Rattle.tk_stream.specs.Rows.{same_waits, same_row, same_value, same_values, same_resource_row, same_op_row, same_counts}

flags_agree : (a b : Bool) → beq a b ≡ true → a ≡ b
flags_agree true true h = refl
flags_agree true false h = absurd (cc)
flags_agree false true h = absurd (cc)
flags_agree false false h = refl

same_flag : (a : Bool) → beq a a ≡ true
same_flag true = refl
same_flag false = refl

moments_agree : (a b : Option ℕ) → option_eq nat_eq a b ≡ true → a ≡ b
moments_agree (Some m) (Some n) h = ap Some (eqb-true m n h)
moments_agree (Some m) None h = absurd (cc)
moments_agree None (Some n) h = absurd (cc)
moments_agree None None h = refl

same_moment : (a : Option ℕ) → option_eq nat_eq a a ≡ true
same_moment (Some m) = eq-eqb m m refl
same_moment None = refl

same_number : (n : ℕ) → nat_eq n n ≡ true
same_number n = eq-eqb n n refl

waits_agree : (a b : Option Waits) → option_eq same_waits a b ≡ true → a ≡ b
waits_agree (Some v) (Some w) h =
    let both = and_parts (nat_eq v.total w.total) (nat_eq v.so_far w.so_far) h in
    let total : v.total ≡ w.total = eqb-true _ _ both.0 in
    let so_far : v.so_far ≡ w.so_far = eqb-true _ _ both.1 in
    λ i. Some (record { total = total i; so_far = so_far i })
waits_agree (Some v) None h = absurd (cc)
waits_agree None (Some w) h = absurd (cc)
waits_agree None None h = refl

same_waiting : (a : Option Waits) → option_eq same_waits a a ≡ true
same_waiting (Some w) = rw (same_number w.total, same_number w.so_far) refl
same_waiting None = refl

same_fields : (a b : TaskRow) → a.created ≡ b.created → a.dropped ≡ b.dropped → a.polls ≡ b.polls → a.first_poll ≡ b.first_poll
    → a.last_started ≡ b.last_started → a.last_ended ≡ b.last_ended → a.busy ≡ b.busy → a.wakes ≡ b.wakes → a.self_wakes ≡ b.self_wakes
    → a.last_wake ≡ b.last_wake → a.clones ≡ b.clones → a.drops ≡ b.drops → a.handles ≡ b.handles → a.sched ≡ b.sched → a.waits ≡ b.waits
    → a.polling ≡ b.polling → a.scheduled ≡ b.scheduled → a ≡ b
same_fields a b created dropped polls first_poll last_started last_ended busy wakes self_wakes last_wake clones drops handles sched waits polling scheduled =
    λ i. record { created = created i; dropped = dropped i; polls = polls i; first_poll = first_poll i; last_started = last_started i; last_ended = last_ended i; busy = busy i; wakes = wakes i; self_wakes = self_wakes i; last_wake = last_wake i; clones = clones i; drops = drops i; handles = handles i; sched = sched i; waits = waits i; polling = polling i; scheduled = scheduled i }

fields_agree : (a b : TaskRow) → same_row a b ≡ true → a ≡ b
fields_agree a b h =
    let p16 = and_parts _ (beq a.scheduled b.scheduled) h in
    let p15 = and_parts _ (beq a.polling b.polling) p16.0 in
    let p14 = and_parts _ (option_eq same_waits a.waits b.waits) p15.0 in
    let p13 = and_parts _ (nat_eq a.sched b.sched) p14.0 in
    let p12 = and_parts _ (nat_eq a.handles b.handles) p13.0 in
    let p11 = and_parts _ (nat_eq a.drops b.drops) p12.0 in
    let p10 = and_parts _ (nat_eq a.clones b.clones) p11.0 in
    let p9 = and_parts _ (option_eq nat_eq a.last_wake b.last_wake) p10.0 in
    let p8 = and_parts _ (nat_eq a.self_wakes b.self_wakes) p9.0 in
    let p7 = and_parts _ (nat_eq a.wakes b.wakes) p8.0 in
    let p6 = and_parts _ (nat_eq a.busy b.busy) p7.0 in
    let p5 = and_parts _ (option_eq nat_eq a.last_ended b.last_ended) p6.0 in
    let p4 = and_parts _ (option_eq nat_eq a.last_started b.last_started) p5.0 in
    let p3 = and_parts _ (option_eq nat_eq a.first_poll b.first_poll) p4.0 in
    let p2 = and_parts _ (nat_eq a.polls b.polls) p3.0 in
    let p1 = and_parts (nat_eq a.created b.created) (option_eq nat_eq a.dropped b.dropped) p2.0 in
    let created : a.created ≡ b.created = eqb-true _ _ p1.0 in
    let dropped : a.dropped ≡ b.dropped = moments_agree _ _ p1.1 in
    let polls : a.polls ≡ b.polls = eqb-true _ _ p2.1 in
    let first_poll : a.first_poll ≡ b.first_poll = moments_agree _ _ p3.1 in
    let last_started : a.last_started ≡ b.last_started = moments_agree _ _ p4.1 in
    let last_ended : a.last_ended ≡ b.last_ended = moments_agree _ _ p5.1 in
    let busy : a.busy ≡ b.busy = eqb-true _ _ p6.1 in
    let wakes : a.wakes ≡ b.wakes = eqb-true _ _ p7.1 in
    let self_wakes : a.self_wakes ≡ b.self_wakes = eqb-true _ _ p8.1 in
    let last_wake : a.last_wake ≡ b.last_wake = moments_agree _ _ p9.1 in
    let clones : a.clones ≡ b.clones = eqb-true _ _ p10.1 in
    let drops : a.drops ≡ b.drops = eqb-true _ _ p11.1 in
    let handles : a.handles ≡ b.handles = eqb-true _ _ p12.1 in
    let sched : a.sched ≡ b.sched = eqb-true _ _ p13.1 in
    let waits : a.waits ≡ b.waits = waits_agree _ _ p14.1 in
    let polling : a.polling ≡ b.polling = flags_agree _ _ p15.1 in
    let scheduled : a.scheduled ≡ b.scheduled = flags_agree _ _ p16.1 in
    same_fields a b created dropped polls first_poll last_started last_ended busy wakes self_wakes last_wake clones drops handles sched waits polling scheduled

pub agrees : (a : TaskRow) → same_row a a ≡ true
agrees a =
    rw (same_number a.created, same_moment a.dropped, same_number a.polls, same_moment a.first_poll, same_moment a.last_started, same_moment a.last_ended, same_number a.busy, same_number a.wakes, same_number a.self_wakes, same_moment a.last_wake, same_number a.clones, same_number a.drops, same_number a.handles, same_number a.sched, same_waiting a.waits, same_flag a.polling, same_flag a.scheduled)
    refl

pub same_rows : (a b : TaskRow) → (same_row a b ≡ true) ↔ (a ≡ b)
same_rows a b = (fields_agree a b, λ e. ap (same_row a) (sym e) ∙ agrees a)

-- ---- resources, async operations and poll counts

value_agrees : (a b : AttrValue) → same_value a b ≡ true → a ≡ b
value_agrees (U64 m) (U64 n) h = ap U64 (eqb-true m n h)
value_agrees (U64 m) (Flag c) h = absurd (cc)
value_agrees (U64 m) (I64 z) h = absurd (cc)
value_agrees (Flag b) (U64 n) h = absurd (cc)
value_agrees (Flag b) (Flag c) h = ap Flag (flags_agree b c h)
value_agrees (Flag b) (I64 z) h = absurd (cc)
value_agrees (I64 z) (U64 n) h = absurd (cc)
value_agrees (I64 z) (Flag c) h = absurd (cc)
value_agrees (I64 y) (I64 z) h = ap I64 ((Decides-int_eq y z).0 h)

same_one : (a : AttrValue) → same_value a a ≡ true
same_one (U64 n) = same_number n
same_one (Flag b) = same_flag b
same_one (I64 z) = (Decides-int_eq z z).1 refl

values_agree : (vs ws : List AttrValue) → same_values vs ws ≡ true → vs ≡ ws
values_agree [] [] h = refl
values_agree [] (b ∷ ws) h = absurd (cc)
values_agree (a ∷ vs) [] h = absurd (cc)
values_agree (a ∷ vs) (b ∷ ws) h =
    let p = and_parts (same_value a b) (same_values vs ws) h in
    ap₂ (λ x xs. x ∷ xs) (value_agrees a b p.0) (values_agree vs ws p.1)

same_list : (vs : List AttrValue) → same_values vs vs ≡ true
same_list [] = refl
same_list (a ∷ vs) = rw (same_one a, same_list vs) refl

resource_fields_agree : (a b : ResourceRow) → same_resource_row a b ≡ true → a ≡ b
resource_fields_agree a b h =
    let p3 = and_parts _ (same_values a.attrs b.attrs) h in
    let p2 = and_parts _ (nat_eq a.handles b.handles) p3.0 in
    let p1 = and_parts (nat_eq a.created b.created) (option_eq nat_eq a.dropped b.dropped) p2.0 in
    let created : a.created ≡ b.created = eqb-true _ _ p1.0 in
    let dropped : a.dropped ≡ b.dropped = moments_agree _ _ p1.1 in
    let handles : a.handles ≡ b.handles = eqb-true _ _ p2.1 in
    let attrs : a.attrs ≡ b.attrs = values_agree _ _ p3.1 in
    λ i. record { created = created i; dropped = dropped i; handles = handles i; attrs = attrs i }

pub resource_agrees : (a : ResourceRow) → same_resource_row a a ≡ true
resource_agrees a = rw (same_number a.created, same_moment a.dropped, same_number a.handles, same_list a.attrs) refl

pub same_resource_rows : (a b : ResourceRow) → (same_resource_row a b ≡ true) ↔ (a ≡ b)
same_resource_rows a b = (resource_fields_agree a b, λ e. ap (same_resource_row a) (sym e) ∙ resource_agrees a)

op_fields_agree : (a b : OpRow) → same_op_row a b ≡ true → a ≡ b
op_fields_agree a b h =
    let p10 = and_parts _ (same_values a.attrs b.attrs) h in
    let p9 = and_parts _ (beq a.polling b.polling) p10.0 in
    let p8 = and_parts _ (option_eq nat_eq a.task b.task) p9.0 in
    let p7 = and_parts _ (nat_eq a.handles b.handles) p8.0 in
    let p6 = and_parts _ (nat_eq a.busy b.busy) p7.0 in
    let p5 = and_parts _ (option_eq nat_eq a.last_ended b.last_ended) p6.0 in
    let p4 = and_parts _ (option_eq nat_eq a.last_started b.last_started) p5.0 in
    let p3 = and_parts _ (option_eq nat_eq a.first_poll b.first_poll) p4.0 in
    let p2 = and_parts _ (nat_eq a.polls b.polls) p3.0 in
    let p1 = and_parts (nat_eq a.created b.created) (option_eq nat_eq a.dropped b.dropped) p2.0 in
    let created : a.created ≡ b.created = eqb-true _ _ p1.0 in
    let dropped : a.dropped ≡ b.dropped = moments_agree _ _ p1.1 in
    let polls : a.polls ≡ b.polls = eqb-true _ _ p2.1 in
    let first_poll : a.first_poll ≡ b.first_poll = moments_agree _ _ p3.1 in
    let last_started : a.last_started ≡ b.last_started = moments_agree _ _ p4.1 in
    let last_ended : a.last_ended ≡ b.last_ended = moments_agree _ _ p5.1 in
    let busy : a.busy ≡ b.busy = eqb-true _ _ p6.1 in
    let handles : a.handles ≡ b.handles = eqb-true _ _ p7.1 in
    let task : a.task ≡ b.task = moments_agree _ _ p8.1 in
    let polling : a.polling ≡ b.polling = flags_agree _ _ p9.1 in
    let attrs : a.attrs ≡ b.attrs = values_agree _ _ p10.1 in
    λ i. record { created = created i; dropped = dropped i; polls = polls i; first_poll = first_poll i; last_started = last_started i; last_ended = last_ended i; busy = busy i; handles = handles i; task = task i; polling = polling i; attrs = attrs i }

pub op_agrees : (a : OpRow) → same_op_row a a ≡ true
op_agrees a =
    rw (same_number a.created, same_moment a.dropped, same_number a.polls, same_moment a.first_poll, same_moment a.last_started, same_moment a.last_ended, same_number a.busy, same_number a.handles, same_moment a.task, same_flag a.polling, same_list a.attrs)
    refl

pub same_op_rows : (a b : OpRow) → (same_op_row a b ≡ true) ↔ (a ≡ b)
same_op_rows a b = (op_fields_agree a b, λ e. ap (same_op_row a) (sym e) ∙ op_agrees a)

counts_agree : (a b : PollCounts) → same_counts a b ≡ true → a ≡ b
counts_agree a b h =
    let p2 = and_parts _ (nat_eq a.2 b.2) h in
    let p1 = and_parts (nat_eq a.0 b.0) (nat_eq a.1 b.1) p2.0 in
    let id : a.0 ≡ b.0 = eqb-true _ _ p1.0 in
    let ready : a.1 ≡ b.1 = eqb-true _ _ p1.1 in
    let pending : a.2 ≡ b.2 = eqb-true _ _ p2.1 in
    λ i. (id i, ready i, pending i)

pub all_counts_agree : (a : PollCounts) → same_counts a a ≡ true
all_counts_agree a = rw (same_number a.0, same_number a.1, same_number a.2) refl

pub same_poll_counts : (a b : PollCounts) → (same_counts a b ≡ true) ↔ (a ≡ b)
same_poll_counts a b = (counts_agree a b, λ e. ap (same_counts a) (sym e) ∙ all_counts_agree a)
