use Rattle.std.proofs.Common.{◌≡◌, take, false}
use Rattle.tk_client.specs.Taking.{has_twice}
use Rattle.tk_client.proofs.ids.Ids.new.Given as goal

-- the ids so far, of which none stands twice
abbrev pub invariant-loop-id : goal.invariant-loop-id
invariant-loop-id l = record {
  keys : l.set.keys ≡ take l.id-index l.ids;
  once : has_twice (take l.id-index l.ids) ≡ false;
}
