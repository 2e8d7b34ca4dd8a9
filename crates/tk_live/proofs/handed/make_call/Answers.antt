use Rattle.std.proofs.Common.{refl}
use Rattle.tk_core.specs.declared.reply.Reply.TheVariants.{Woken}
use Rattle.tk_live.specs.Handed.{MakesCall}
use Rattle.tk_live.specs.declared.handed.Handed.TheVariants.{Live, Spent}
use Rattle.tk_script.specs.declared.block.WakerCall.TheVariants as calls
use Rattle.tk_live.proofs.handed.make_call.Goals as goal

pub returns-in-WakeRef : goal.returns-in-WakeRef
returns-in-WakeRef g c =
    let e = c.wake_by_ref_from_outside.ensures in
    let made : MakesCall (calls.WakeRef c.in-WakeRef.moment) c.in-Live.waker.token (Live c.wake_by_ref_from_outside.new.self) =
    record { ledger = e.ledger; reply = Woken c.wake_by_ref_from_outside.result; accepted = refl; draws_none = refl; made = e.entry; spent = refl } in
    rw (c.in-Live.is, c.in-WakeRef.is) made

pub returns-in-Wake : goal.returns-in-Wake
returns-in-Wake g c =
    let e = c.wake_from_outside-found.ensures in
    let found = c.wake_from_outside-found.result in
    let made : MakesCall (calls.Wake c.in-Wake.moment) c.in-Live.waker.token (Spent found.1) =
    record { ledger = e.ledger; reply = Woken found.0; accepted = refl; draws_none = refl; made = e.entry; spent = refl } in
    rw (c.in-Live.is, c.in-Wake.is) made
