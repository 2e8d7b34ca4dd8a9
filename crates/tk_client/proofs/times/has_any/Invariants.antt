use Rattle.std.proofs.Common.{◌≡◌, drop}
use Rattle.std.specs.List.{list_any}
use Rattle.tk_stream.specs.Tables.{is_among}
use Rattle.tk_client.proofs.times.has_any.Given as goal

-- what is left decides
abbrev pub invariant-loop-id : goal.invariant-loop-id
invariant-loop-id l = list_any (is_among l.told) (drop l.id-index l.gone) ≡ list_any (is_among l.told) l.gone
