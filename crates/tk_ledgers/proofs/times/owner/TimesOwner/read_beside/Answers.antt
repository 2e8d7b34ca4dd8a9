use Rattle.std.proofs.Common.{subst}
use Rattle.tk_core.specs.declared.reply.Reply.TheVariants.{Shown}
use Rattle.tk_core.specs.declared.times.call.TimesCall.TheVariants.{Read}
use Rattle.tk_core.specs.TimesMeaning.{times_meaning}
use Rattle.tk_ledgers.specs.Times.{TimesSight, added_times, ShowsTimes}
use Rattle.tk_ledgers.proofs.BesideLemmas.{beside_is_call}
use Rattle.tk_ledgers.proofs.TimesReadingLemmas.{shows_added}
use Rattle.tk_ledgers.proofs.times.owner.TimesOwner.read_beside.Goals as goal

pub returns-clause-read : goal.returns-clause-read
returns-clause-read g c =
    let k = c.read_beside in
    beside_is_call times_meaning c.self.inside.handle.view c.args.inspector.now.token.view k.new.owner.view k.new.self.token.view Read (Shown k.result) k.ensures.beside

pub returns-clause-shows : goal.returns-clause-shows
returns-clause-shows g c =
    let k = c.read_beside in
    subst (λ (h : TimesSight). ShowsTimes k.result (added_times h.token)) c.self.view_is
    (shows_added c.self.inside.handle.view c.args.inspector.now.token.view k.new.owner.view k.new.self.token.view k.result k.ensures.caller k.ensures.beside)
