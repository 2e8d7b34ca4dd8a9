use Rattle.std.proofs.Common.{◌≡◌, ℕ, List, Option, ap₂, subst}
use Rattle.std.specs.Prelude.{IfOk}
use Rattle.tk_client.specs.AnyWarnings.{no_limits}
use Rattle.tk_client.specs.declared.any_warnings.AnyWarning.{AnyWarning}
use Rattle.tk_client.specs.declared.any_warnings.TimeLimits.{TimeLimits}
use Rattle.tk_report.proofs.TimedLemmas.{usual_warned}
use Rattle.tk_report.proofs.view.warned_by.Goals as goal

abbrev limits_of : Option ℕ → Option ℕ → TimeLimits
limits_of p w = record { poll_ms = p; wait_ms = w }

pub returns-in-None : goal.returns-in-None
returns-in-None c = λ shown.
    let start = c.args.client.now.start in
    let none : c.args.options.now.limits ≡ no_limits = ap₂ (λ (p w : Option ℕ). limits_of p w) c.requires c.in-None.is in
    subst (λ (warnings : List AnyWarning). IfOk c.usual_by.result (λ list. list.items ≡ warnings))
    (usual_warned c.args.lints.now c.args.options.now shown start.tables start.times none) c.usual_by.ensures
