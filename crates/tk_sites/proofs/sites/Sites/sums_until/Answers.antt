use Rattle.std.proofs.Common.{◌∙◌}
use Rattle.tk_stream.specs.Tables.{empty_tables}
use Rattle.tk_sites.specs.Sites.{changes_since}
use Rattle.tk_sites.proofs.sites.Sites.sums_until.Goals as goal

pub returns : goal.returns
returns c = λ shown h. c.in_ok-add_until.ensures (changes_since empty_tables shown) (c.in_ok-sites.ensures ∙ h.changes)
