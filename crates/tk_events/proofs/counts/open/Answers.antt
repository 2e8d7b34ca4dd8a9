use Rattle.std.proofs.Common.{◌∙◌, rules}
use Rattle.tk_events.proofs.CountRuleLemmas.{begins}
use Rattle.tk_events.proofs.counts.open.Goals as goal

pub of_words-requires : goal.of_words-requires
of_words-requires c = begins _ _ (c.as_slice.ensures.value ∙ search rules)
