use Rattle.std.proofs.Common.{Some}
use Rattle.tk_events.specs.Offers.{offer_of}
use Rattle.tk_events.proofs.buffer.offer.Given as goal

abbrev pub ghosts-note : goal.ghosts-note
ghosts-note g a = record { picked = Some (offer_of a.item.now) }
