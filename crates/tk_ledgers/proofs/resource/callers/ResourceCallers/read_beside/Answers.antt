use Rattle.std.proofs.Common.{◌≡◌, refl, subst}
use Rattle.tk_core.specs.declared.resource.call.ResourceCall.TheVariants.{Read}
use Rattle.tk_core.specs.ResourceMeaning.{resource_meaning}
use Rattle.tk_core.specs.declared.reply.Reply.TheVariants.{Shown}
use Rattle.tk_cell.specs.Ours.{ours}
use Rattle.tk_ledgers.specs.Beside.{AllRead, ShowsCallsOf}
use Rattle.tk_ledgers.specs.Callers.{HoldsAllBut}
use Rattle.tk_ledgers.specs.Resources.{ResourceSight}
use Rattle.tk_ledgers.proofs.BesideLemmas.{resources_show}
use Rattle.tk_ledgers.proofs.CallersLemmas.{same_held, reader_held}
use Rattle.tk_ledgers.proofs.HeldLemmas.{read_of_hand}
use Rattle.tk_ledgers.proofs.ResourceLemmas.{reads_silent}
use Rattle.tk_ledgers.proofs.resource.callers.ResourceCallers.read_beside.Goals as goal

pub returns-clause-row : goal.returns-clause-row
returns-clause-row g c =
    let reader = c.args.inspector.now.token.view in
    subst (λ (h : ResourceSight). HoldsAllBut resource_meaning c.args.inspector.now.token.view.held h.token.view → AllRead resource_meaning Read (ours c.args.inspector.now.token.view)
    → ShowsCallsOf resource_meaning Read h.token.view c.read_beside.new.callers.view c.read_beside.new.self.token.view c.read_beside.result) c.self.view_is
    (λ all reads. read_of_hand resource_meaning Read reads_silent resources_show c.self.inside.callers.view reader c.read_beside.new.callers.view c.read_beside.new.self.token.view c.read_beside.result c.read_beside.ensures.beside c.read_beside.ensures.hand.owner_held all reads)

pub returns-clause-held : goal.returns-clause-held
returns-clause-held g c =
    let v = c.self.inside.callers.view in let q = c.args.inspector.now.token.view in let w = c.read_beside.new.callers.view in let u = c.read_beside.new.self.token.view in
    subst (λ (h : ResourceSight). (c.read_beside.new.callers.view.held ≡ h.token.view.held) × (c.read_beside.new.self.token.view.held ≡ c.args.inspector.now.token.view.held)) c.self.view_is
    (same_held resource_meaning v q w u Read (Shown c.read_beside.result) c.read_beside.ensures.beside, reader_held resource_meaning v q w u Read (Shown c.read_beside.result) c.read_beside.ensures.beside refl)
