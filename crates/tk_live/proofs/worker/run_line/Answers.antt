use Rattle.std.proofs.Common.{sym, ◌∙◌}
use Rattle.tk_live.proofs.Ran.{ran_line, ran_nothing}
use Rattle.tk_live.proofs.Seating.{place_left}
use Rattle.tk_live.proofs.worker.run_line.Goals as goal

pub put_seat-requires : goal.put_seat-requires
put_seat-requires g c =
    place_left c.args.line.waker c.args.wakers.now.items c.take_seat.new.seats.items c.in-Some.waker (sym c.take_seat.ensures.taken ∙ c.in-Some.is) c.in-Some.ensures.left

pub returns-in-Some : goal.returns-in-Some
returns-in-Some g c = λ first ls was.
    ran_line first c.args.wakers.now.items ls c.args.line was c.take_seat.new.seats.items c.put_seat.new.seats.items c.in-Some.waker c.make_call-called.result (sym c.take_seat.ensures.taken ∙ c.in-Some.is) c.make_call-called.ensures c.in-Some.ensures.left c.put_seat.ensures

pub returns-in_default : goal.returns-in_default
returns-in_default g c = λ first ls was.
    ran_nothing first c.args.wakers.now.items ls c.args.line was c.take_seat.new.seats.items (sym c.take_seat.ensures.taken ∙ c.in_default.is) c.in_default.ensures.same
