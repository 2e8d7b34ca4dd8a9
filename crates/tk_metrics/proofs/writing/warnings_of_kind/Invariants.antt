use Rattle.std.proofs.Common.{◌≡◌, ◌≤◌, filter, length, take}
use Rattle.tk_client.specs.declared.warning.Warning.{Warning}
use Rattle.tk_metrics.specs.Metrics.{is_kind}
use Rattle.tk_metrics.proofs.writing.warnings_of_kind.Given as goal

-- those so far are counted
abbrev pub invariant-loop-warning : goal.invariant-loop-warning
invariant-loop-warning l = record {
  counted : l.count ≡ length (filter (λ (w : Warning). is_kind l.kind w.kind) (take l.warning-index l.warnings));
  few : l.count ≤ l.warning-index;
}
