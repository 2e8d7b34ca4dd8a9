use Rattle.std.proofs.Common.{◌≡◌, arith}
use Rattle.std.specs.Prelude.{slice_index_or}
use Rattle.std.specs.Map.{values_of}
use Rattle.tk_exec.specs.Seats.{Seat}
use Rattle.tk_exec.specs.Futures.{Lent, SeatHears}
use Rattle.tk_exec.proofs.PlaceLemmas.{within, key_kept, write_there}
use Rattle.tk_exec.proofs.OrderLemmas.{key_at, long_values, heard_ordered}
use Rattle.tk_exec.proofs.executor.Executor+FutureWork+F.hear_at.Goals as goal

pub index-key-requires : goal.index-key-requires
index-key-requires g c =
    let less = within c.self.inside.tasks.slots (values_of c.self.inside.order.entries) c.self.invariant.kept c.self.inside.next c.args.self.now c.args.place c.self.view_is c.requires in
    omega (arith, less, long_values c.self.inside.order.entries)

pub index_mut-requires : goal.index_mut-requires
index_mut-requires g c =
    let less = within c.self.inside.tasks.slots (values_of c.self.inside.order.entries) c.self.invariant.kept c.self.inside.next c.args.self.now c.args.place c.self.view_is c.requires in
    let is : c.index-key.result.now ≡ slice_index_or (values_of c.self.inside.order.entries) c.args.place 0 = key_at c.self.inside.order.entries c.args.place c.index-key.result.now c.index-key.ensures in
    key_kept c.self.inside.tasks.slots (values_of c.self.inside.order.entries) c.self.invariant.kept c.args.place less c.index-key.result.now is

pub returns-clause-heard : goal.returns-clause-heard
returns-clause-heard g c =
    let less = within c.self.inside.tasks.slots (values_of c.self.inside.order.entries) c.self.invariant.kept c.self.inside.next c.args.self.now c.args.place c.self.view_is c.requires in
    let is : c.index-key.result.now ≡ slice_index_or (values_of c.self.inside.order.entries) c.args.place 0 = key_at c.self.inside.order.entries c.args.place c.index-key.result.now c.index-key.ensures in
    write_there c.self.inside.tasks.slots (values_of c.self.inside.order.entries) c.self.invariant.kept c.args.place less c.index-key.result.now is c.self.inside.next c.args.self.now c.self.view_is c.index_mut.result.now c.hear.new.self
    (λ (before after : Seat (Lent g.row.F.Denot) g.row.F-Output.Denot). SeatHears before c.args.moment c.hear.result after) c.index_mut.ensures.value c.hear.ensures

pub invariant_of-self : goal.invariant_of-self
invariant_of-self g c =
    let less = within c.self.inside.tasks.slots (values_of c.self.inside.order.entries) c.self.invariant.kept c.self.inside.next c.args.self.now c.args.place c.self.view_is c.requires in
    let is : c.index-key.result.now ≡ slice_index_or (values_of c.self.inside.order.entries) c.args.place 0 = key_at c.self.inside.order.entries c.args.place c.index-key.result.now c.index-key.ensures in
    heard_ordered c.self.inside.tasks.slots c.self.inside.order.entries c.self.inside.next c.self.inside.unfinished c.self.invariant c.args.place less c.index-key.result.now is c.index_mut.result.now c.index_mut.ensures.value c.hear.new.self c.hear.ensures.task.id c.hear.ensures.out
