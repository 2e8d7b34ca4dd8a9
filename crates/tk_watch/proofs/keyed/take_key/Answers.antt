use Rattle.tk_watch.specs.Keyed.{key}
use Rattle.tk_watch.proofs.KeyLemmas.{stops_keys}
use Rattle.tk_watch.proofs.keyed.take_key.Goals as goal

pub returns-in-Ok-clause-goes : goal.returns-in-Ok-clause-goes
returns-in-Ok-clause-goes c = λ given left new old wrote lost w.
    c.turn_to.ensures.goes given left new old wrote c.args.byte c.in-Ok.ensures lost w

pub returns-in-Err-clause-goes : goal.returns-in-Err-clause-goes
returns-in-Err-clause-goes c = λ given left new old wrote lost w.
    stops_keys c.args.screen.now given left c.args.session.now old wrote w new (key c.args.byte) lost
