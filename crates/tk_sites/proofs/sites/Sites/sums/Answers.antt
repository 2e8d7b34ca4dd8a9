use Rattle.std.proofs.Common.{◌∙◌, ap, ◌++◌, map, append_assoc}
use Rattle.std.specs.Prelude.{flat_map}
use Rattle.tk_stream.specs.Tables.{empty_tables}
use Rattle.tk_series.specs.Limited.{limited}
use Rattle.tk_sites.specs.Sites.{changes_since, there_entry, warned_entries}
use Rattle.tk_sites.specs.Site.{room}
use Rattle.tk_sites.specs.Sums.{plus}
use Rattle.tk_sites.proofs.sites.Sites.sums.Goals as goal

pub returns : goal.returns
returns c = λ shown h.
    let since = changes_since empty_tables shown in
    let there = map there_entry c.args.tables.now.tasks in
    c.in_ok-add_warnings.ensures (since ++ there) (c.in_ok-add_there.ensures since (c.in_ok-sites.ensures ∙ h.changes))
    ∙ ap (limited room plus) (append_assoc since there (flat_map (warned_entries c.args.tables.now) c.args.warnings.now))
