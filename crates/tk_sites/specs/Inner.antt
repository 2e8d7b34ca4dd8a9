-- Inner: how what is kept of a stream's lines shows what the definitions say.
use Rattle.std.specs.Prelude.{◌≡◌, Bool, List, Some, None, if◌then◌else◌}
use Rattle.tk_stream.specs.Tables.{TablesView, empty_tables}
use Rattle.tk_client.specs.Changes.{Timed, untimed}
use Rattle.tk_series.specs.Limited.{limited}
use Rattle.tk_sites.specs.Site.{room}
use Rattle.tk_sites.specs.Sites.{changes_since}
use Rattle.tk_sites.specs.Sums.{plus}
use Rattle.tk_sites.specs.TimedSites.{timed_changes_since}
use Rattle.tk_sites.specs.Times.{plus_times}
use Rattle.tk_sites.specs.declared.sites.Sites.{Sites}
use Rattle.tk_sites.specs.declared.timed_sites.TimedSites.{TimedSites}

-- what came and left in these lines is added up
pub record Follows (shown : List TablesView) (s : Sites) : Type 0 where
  pub changes : s.changes ≡ limited room plus (changes_since empty_tables shown)

-- so are the histograms of those that came and left, where they are shown
pub record FollowsTimes (shown : Bool) (seen : List Timed) (s : TimedSites) : Type 0 where
  pub changes : s.changes ≡ (if shown then Some (limited room plus_times (timed_changes_since untimed seen)) else None)
