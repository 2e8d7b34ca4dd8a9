use Rattle.tk_json.proofs.Kept.{scalars_kept, members_kept, items_kept}
use Rattle.tk_json.proofs.laws.small_values_keep.Goals as goal

pub returns : goal.returns
returns c = record { scalars = scalars_kept; members = members_kept; items = items_kept }
