use Rattle.std.proofs.Common.{◌≤◌, ◌++◌, ◌∷◌, [], subst}
use Rattle.tk_metrics.specs.Keys.{keys_after}
use Rattle.tk_metrics.specs.Rising.{shown_after}
use Rattle.tk_metrics.proofs.KeysLemmas.{shown_same}
use Rattle.tk_metrics.proofs.RisingLemmas.{no_fall}
use Rattle.tk_metrics.proofs.laws.no_count_falls_past_the_end.Goals as goal

pub returns : goal.returns
returns c = λ apart count labels shown tables stay is distinct on known fits fit.
    let now = keys_after apart (shown ++ tables ∷ []) in
    subst (λ n. n ≤ shown_after now count labels (shown ++ tables ∷ [])) (shown_same apart shown tables known count labels)
    (no_fall now stay count labels is shown tables distinct on fits fit)
