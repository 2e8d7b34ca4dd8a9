use Rattle.std.proofs.Common.{◌≡◌, ◌++◌, ◌∷◌, [], subst}
use Rattle.tk_ledgers.specs.Times.{TimesSight, added_times}
use Rattle.tk_ledgers.proofs.TimedLemmas.{added_then}
use Rattle.tk_ledgers.proofs.times.owner.TimesOwner.add.Goals as goal

pub returns-clause-added : goal.returns-clause-added
returns-clause-added g c =
    subst (λ (h : TimesSight). added_times c.done.new.self ≡ added_times h.token ++ c.args.time ∷ []) c.self.view_is
    (added_then c.self.inside.handle c.done.new.self c.args.time c.done.ensures.role.caller c.done.ensures.entry)
