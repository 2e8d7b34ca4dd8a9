use Rattle.std.proofs.Common.{refl}
use Rattle.tk_watch.specs.Keyed.{key, standing}
use Rattle.tk_watch.specs.Odd.{seen_in}
use Rattle.tk_watch.proofs.KeyLemmas.{goes_by, stops_keys}
use Rattle.tk_watch.proofs.keyed.turn_to.Goals as goal

pub returns-in-Ok-clause-goes : goal.returns-in-Ok-clause-goes
returns-in-Ok-clause-goes c = λ given left new old wrote byte asks lost w.
    goes_by c.args.screen.now given left c.args.session.now old wrote w new byte lost _ (asks (standing c.args.screen.now w.events) w.stands.shows) c.turn.ensures.course c.turn.ensures.lines
    (c.in-Ok.ensures.held c.args.screen.now.lints (seen_in (standing c.args.screen.now w.events).bytes) w.stands.shows.seen) c.args.asked.quits refl

pub returns-in-Err-clause-goes : goal.returns-in-Err-clause-goes
returns-in-Err-clause-goes c = λ given left new old wrote byte asks lost w.
    stops_keys c.args.screen.now given left c.args.session.now old wrote w new (key byte) lost
