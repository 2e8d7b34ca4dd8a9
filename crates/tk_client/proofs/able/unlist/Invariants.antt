use Rattle.std.proofs.Common.{◌≡◌, ℕ, nat_eq, take}
use Rattle.std.specs.Prelude.{◌&&◌, not}
use Rattle.indexmap.specs.IndexSet.{contains}
use Rattle.tk_stream.specs.Tables.{is_among}
use Rattle.tk_client.proofs.able.unlist.Given as goal

-- the ids so far are out of the list
abbrev pub invariant-loop-id : goal.invariant-loop-id
invariant-loop-id l = (other : ℕ) → contains nat_eq l.able other ≡ (contains nat_eq l.fn.able other && not (is_among (take l.id-index l.gone) other))
