use Rattle.std.proofs.Common.{◌≡◌, take}
use Rattle.std.specs.Prelude.{flat_map}
use Rattle.tk_client.specs.AnyWarnings.{all_warnings_of}
use Rattle.tk_client.proofs.any_warnings.all_warnings_in.Given as goal

-- the warnings of the tasks so far
abbrev pub invariant-loop-place : goal.invariant-loop-place
invariant-loop-place l = l.list.items ≡ flat_map (all_warnings_of l.lints l.limits l.tables.now l.times) (take l.place l.tables.tasks)
