use Rattle.std.proofs.Common.{ℕ, List, length, Some, subst}
use Rattle.tk_stream.specs.Tables.{TablesView}
use Rattle.tk_client.specs.Meaning.{greatest_line}
use Rattle.tk_live.specs.Ran.{written_by}
use Rattle.tk_report.specs.Uninterrupted.{ShowsTables}
use Rattle.tk_report.specs.Views.{Views}
use Rattle.tk_report.proofs.OutcomeLemmas.{uninterrupted}
use Rattle.tk_app.proofs.Shown.{cut_goes, shown, line_front}
use Rattle.tk_app.proofs.Wrote.{ran_lines, wrote, stop_few}
use Rattle.tk_app.proofs.laws.what_a_script_writes_is_viewed.Goals as goal

pub returns-clause-ran : goal.returns-clause-ran
returns-clause-ran g c gate script written done view lints left old new viewed short (sent, ran, bytes) v =
    let are = ran_lines (g.G.Gate.answers gate) script written short sent ran bytes in
    (sent, ran, bytes, c.what_goes_on_is_viewed.ensures sent view lints left old new viewed are.on are.short (subst (λ (b : List ℕ). Views view lints (Some b) left viewed old new) bytes v))

pub returns-clause-stopped : goal.returns-clause-stopped
returns-clause-stopped g c gate script written run view lints left old new viewed short writes whole v =
    let are = wrote (g.G.Gate.answers gate) script written short run writes whole in
    (are.0, are.1.bytes, c.what_goes_on_is_viewed.ensures are.0 view lints left old new viewed are.1.on are.1.short (subst (λ (b : List ℕ). Views view lints (Some b) left viewed old new) are.1.bytes v))

pub returns-clause-cut_off : goal.returns-clause-cut_off
returns-clause-cut_off g c gate script written name number view lints left old new viewed short at front_short v =
    let few = stop_few (g.G.Gate.answers gate) script written short number name at in
    let taken = c.streams_are_taken.ensures.whole greatest_line at.sent (uninterrupted at.sent at.came.stream) few in
    let comes = cut_goes (written_by at.sent) at.front taken.0 (length at.sent) taken.1 taken.3 (line_front at.sent at.line at.stop at.front at.fronts) front_short in
    subst (λ (t : TablesView). ShowsTables view lints t viewed old new) taken.2
    (shown _ _ _ comes view lints left old new viewed (subst (λ (bytes : List ℕ). Views view lints (Some bytes) left viewed old new) at.all v))
