use Rattle.std.proofs.Common.{◌≡◌, All, sym, subst}
use Rattle.tk_events_tests.proofs.tests.threads.offer_and_take.Goals as goal

pub finish-requires : goal.finish-requires
finish-requires g c = c.join-retired.ensures.first c.join-retired.result.1.console
    (subst (λ place. All (λ r. r.console ≡ place) c.args.recorders.items) (sym c.join-retired.ensures.second) c.requires)
