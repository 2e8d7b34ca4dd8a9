use Rattle.tk_events_tests.proofs.tests.threads.keeps_one.Goals as goal

pub finish-requires : goal.finish-requires
finish-requires g c = c.offer_in_threads-retired.ensures c.args.taker.now.console c.requires
