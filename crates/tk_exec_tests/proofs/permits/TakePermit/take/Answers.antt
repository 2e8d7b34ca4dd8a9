use Rattle.std.proofs.Common.{ap, sym, ◌∙◌, subst, ◌⊎◌, ◌≡◌}
use Rattle.tk_events.specs.declared.event.PollOp.{PollOp}
use Rattle.tk_ledgers.specs.Resources.{ResourceSight}
use Rattle.tk_exec_tests.specs.Permits.{OffersPoll, TakesOne}
use Rattle.tk_exec_tests.proofs.PermitLemmas.{took}
use Rattle.tk_exec_tests.proofs.permits.TakePermit.take.Goals as goal

pub returns : goal.returns
returns g c =
    let told = c.tell.ensures in record {
      stays = record {
        resource = ap (λ u. u.id) told.user ∙ c.sub.ensures.id;
        ledger = ap (λ u. u.token.ledger) told.user ∙ c.sub.ensures.ledger;
        op = told.op;
        task = told.task;
        name = told.name;
      };
      taken = subst (λ (u : ResourceSight). TakesOne c.is_ok-taken.result c.args.self.now.user u) (sym told.user) (took c.sub.result c.is_ok-taken.result c.args.self.now.user c.sub.new.self c.is_ok-taken.ensures.value c.sub.ensures.ok c.sub.ensures.err);
      recorded =
          subst (λ (op : PollOp). OffersPoll c.args.self.now.recorder op c.tell.new.self.recorder ⊎ (c.tell.new.self.recorder ≡ c.args.self.now.recorder))
          (λ i. record { resource = c.sub.ensures.id i; name = c.args.self.now.name; task = c.args.self.now.task; op = c.args.self.now.op; ready = c.is_ok-taken.result })
          told.told;
    }
