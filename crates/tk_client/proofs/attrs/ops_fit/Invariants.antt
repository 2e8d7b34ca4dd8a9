use Rattle.std.proofs.Common.{◌≡◌, drop}
use Rattle.std.specs.List.{list_all}
use Rattle.tk_stream.specs.Applied.{op_kind}
use Rattle.tk_client.specs.Taking.{fits_op}
use Rattle.tk_client.specs.Applying.{fits_told}
use Rattle.tk_client.proofs.attrs.ops_fit.Given as goal

-- what is left decides
abbrev pub invariant-loop-told : goal.invariant-loop-told
invariant-loop-told l =
    list_all (fits_told op_kind fits_op l.tables.ops) (drop l.told-index l.stats) ≡ list_all (fits_told op_kind fits_op l.tables.ops) l.stats
