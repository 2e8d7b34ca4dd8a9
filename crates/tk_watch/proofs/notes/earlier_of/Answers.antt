use Rattle.std.proofs.Common.{ap, ◌∙◌}
use Rattle.tk_odd.specs.Diagnosis.{standing_of}
use Rattle.tk_odd.specs.declared.limits.Limits.{Limits}
use Rattle.tk_watch.proofs.OddLemmas.{earlier_same}
use Rattle.tk_watch.proofs.notes.earlier_of.Goals as goal

pub returns : goal.returns
returns c = λ lints shown limits follows sites.
    earlier_same _ _ _ _ _ _ c.now-moment.ensures (c.in_ok-sites.ensures shown sites)
    (c.in_ok-held.ensures ∙ c.held.ensures shown follows ∙ ap (λ (l : Limits). (standing_of l shown).places.0) limits)
