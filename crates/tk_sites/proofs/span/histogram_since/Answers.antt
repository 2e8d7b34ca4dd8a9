use Rattle.std.proofs.Common.{◌≡◌, ℕ, List, ap, ap₂, ◌∙◌}
use Rattle.tk_sites.specs.Span.{counts_since, longest_since}
use Rattle.tk_sites.specs.declared.span.Longest.{Longest}
use Rattle.tk_sites.specs.declared.span.SpanHistogram.{SpanHistogram}
use Rattle.tk_sites.proofs.span.histogram_since.Goals as goal

pub returns : goal.returns
returns c =
    let old = c.args.old.now in
    let now = c.args.now.now in
    let counts : c.counts_since-counts.result ≡ counts_since old.counts now.counts = c.counts_since-counts.ensures in
    let longest : c.longest_since.result ≡ longest_since old.longest now.longest (counts_since old.counts now.counts) =
    c.longest_since.ensures ∙ ap (longest_since old.longest now.longest) counts in
    let made : Longest → List ℕ → SpanHistogram = λ l k. record { tasks = now.tasks; longest = l; counts = k } in
    ap₂ made longest counts
