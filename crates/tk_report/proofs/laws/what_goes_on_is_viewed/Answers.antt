use Rattle.std.proofs.Common.{ℕ, length, subst}
use Rattle.tk_stream.specs.Streams.{lines_sent, bytes_sent}
use Rattle.tk_stream.specs.Tables.{TablesView, empty_tables}
use Rattle.tk_client.specs.Meaning.{greatest_line}
use Rattle.tk_report.specs.Uninterrupted.{ShowsTables}
use Rattle.tk_report.proofs.OutcomeLemmas.{uninterrupted, shows_tables}
use Rattle.tk_report.proofs.laws.what_goes_on_is_viewed.Goals as goal

pub returns : goal.returns
returns c sent view lints left old new result on short v =
    let stream = uninterrupted sent on in
    let taken = c.streams_are_taken.ensures.whole greatest_line sent stream short in
    let none = λ (k : ℕ). c.streams_are_taken.ensures.fronts greatest_line sent k stream short in
    let same = taken.2 in
    subst (λ (t : TablesView). ShowsTables view lints t result old new) same
    (shows_tables (bytes_sent (lines_sent empty_tables sent)) taken.0 (length sent) taken.1 none view lints left old new result v)
