use Rattle.std.proofs.Common.{◌≡◌, sym, ap, arith, rules, true}
use Rattle.std.specs.Prelude.{slice_index_or, is_some}
use Rattle.std.specs.List.{slice_get}
use Rattle.std.specs.Map.{values_of}
use Rattle.tk_exec.specs.Seats.{Seat, Tasks, PolledAt}
use Rattle.tk_exec.proofs.PlaceLemmas.{within, key_kept, of_key, write_there}
use Rattle.tk_exec.proofs.OrderLemmas.{key_at, long_values, polled_counted, polled_ordered}
use Rattle.tk_exec.proofs.executor.Executor.poll_at.Goals as goal

pub index-key-requires : goal.index-key-requires
index-key-requires g c =
    let less = within c.self.inside.tasks.slots (values_of c.self.inside.order.entries) c.self.invariant.kept c.self.inside.next c.args.self.now c.args.place c.self.view_is c.requires.within in
    omega (arith, less, long_values c.self.inside.order.entries)

pub index-requires : goal.index-requires
index-requires g c =
    let less = within c.self.inside.tasks.slots (values_of c.self.inside.order.entries) c.self.invariant.kept c.self.inside.next c.args.self.now c.args.place c.self.view_is c.requires.within in
    let is : c.index-key.result.now ≡ slice_index_or (values_of c.self.inside.order.entries) c.args.place 0 = key_at c.self.inside.order.entries c.args.place c.index-key.result.now c.index-key.ensures in
    key_kept c.self.inside.tasks.slots (values_of c.self.inside.order.entries) c.self.invariant.kept c.args.place less c.index-key.result.now is

pub poll-ready-requires : goal.poll-ready-requires
poll-ready-requires g c =
    let less = within c.self.inside.tasks.slots (values_of c.self.inside.order.entries) c.self.invariant.kept c.self.inside.next c.args.self.now c.args.place c.self.view_is c.requires.within in
    let is : c.index-key.result.now ≡ slice_index_or (values_of c.self.inside.order.entries) c.args.place 0 = key_at c.self.inside.order.entries c.args.place c.index-key.result.now c.index-key.ensures in
    of_key c.self.inside.tasks.slots (values_of c.self.inside.order.entries) c.self.invariant.kept c.args.place less c.index-key.result.now is c.index_mut.result.now
    (λ (seat : Seat g.row.W.Denot g.row.W-Out.Denot). is_some seat.task.owner ≡ true) c.index_mut.ensures.value
    (slice_get c.args.self.now.seats c.args.place) (ap (λ (t : Tasks g.row.W.Denot g.row.W-Out.Denot). slice_get t.seats c.args.place) (sym c.self.view_is)) c.requires.going

pub overflow_add-self : goal.overflow_add-self
overflow_add-self g c =
    let less = within c.self.inside.tasks.slots (values_of c.self.inside.order.entries) c.self.invariant.kept c.self.inside.next c.args.self.now c.args.place c.self.view_is c.requires.within in
    omega (arith, less, long_values c.self.inside.order.entries, c.len-held.ensures.len, c.len-held.ensures.small)

pub invariant_of-self : goal.invariant_of-self
invariant_of-self g c =
    let less = within c.self.inside.tasks.slots (values_of c.self.inside.order.entries) c.self.invariant.kept c.self.inside.next c.args.self.now c.args.place c.self.view_is c.requires.within in
    let is : c.index-key.result.now ≡ slice_index_or (values_of c.self.inside.order.entries) c.args.place 0 = key_at c.self.inside.order.entries c.args.place c.index-key.result.now c.index-key.ensures in
    polled_ordered c.self.inside.tasks.slots c.self.inside.order.entries c.self.inside.next c.self.inside.unfinished c.self.invariant c.args.place less c.index-key.result.now is c.index_mut.result.now c.index_mut.ensures.value
    g.C.Clock.reads g.W.Work.polls g.W.Work.gives c.poll-ready.result c.poll-ready.new.self c.args.clock.now c.poll-ready.new.clock c.poll-ready.ensures c.unfinished_after-self-inside.result c.unfinished_after-self-inside.ensures

pub returns-clause-polled : goal.returns-clause-polled
returns-clause-polled g c =
    let less = within c.self.inside.tasks.slots (values_of c.self.inside.order.entries) c.self.invariant.kept c.self.inside.next c.args.self.now c.args.place c.self.view_is c.requires.within in
    let is : c.index-key.result.now ≡ slice_index_or (values_of c.self.inside.order.entries) c.args.place 0 = key_at c.self.inside.order.entries c.args.place c.index-key.result.now c.index-key.ensures in
    let named : c.id-id.result ≡ c.index_mut.result.now.task.id = search rules in
    let there =
    write_there c.self.inside.tasks.slots (values_of c.self.inside.order.entries) c.self.invariant.kept c.args.place less c.index-key.result.now is c.self.inside.next c.args.self.now c.self.view_is c.index_mut.result.now c.poll-ready.new.self
    (λ (before after : Seat g.row.W.Denot g.row.W-Out.Denot). (c.id-id.result ≡ before.task.id) × PolledAt g.C.Clock.reads g.W.Work.polls g.W.Work.gives before c.poll-ready.result after c.args.clock.now c.poll-ready.new.clock) c.index_mut.ensures.value (named, c.poll-ready.ensures) in
    record { change = there.0; named = there.1.0; polled = there.1.1 }

pub unfinished_after-self-inside-requires : goal.unfinished_after-self-inside-requires
unfinished_after-self-inside-requires g c =
    let less = within c.self.inside.tasks.slots (values_of c.self.inside.order.entries) c.self.invariant.kept c.self.inside.next c.args.self.now c.args.place c.self.view_is c.requires.within in
    let is : c.index-key.result.now ≡ slice_index_or (values_of c.self.inside.order.entries) c.args.place 0 = key_at c.self.inside.order.entries c.args.place c.index-key.result.now c.index-key.ensures in
    polled_counted c.self.inside.tasks.slots c.self.inside.order.entries c.self.inside.next c.self.inside.unfinished c.self.invariant c.args.place less c.index-key.result.now is c.index_mut.result.now c.index_mut.ensures.value
    g.C.Clock.reads g.W.Work.polls g.W.Work.gives c.poll-ready.result c.poll-ready.new.self c.args.clock.now c.poll-ready.new.clock c.poll-ready.ensures
