use Rattle.std.proofs.Common.{◌≡◌, drop}
use Rattle.std.specs.List.{list_all}
use Rattle.tk_stream.specs.Applied.{resource_kind}
use Rattle.tk_client.specs.Taking.{fits_resource}
use Rattle.tk_client.specs.Applying.{fits_told}
use Rattle.tk_client.proofs.attrs.resources_fit.Given as goal

-- what is left decides
abbrev pub invariant-loop-told : goal.invariant-loop-told
invariant-loop-told l =
    list_all (fits_told resource_kind fits_resource l.tables.resources) (drop l.told-index l.stats) ≡ list_all (fits_told resource_kind fits_resource l.tables.resources) l.stats
