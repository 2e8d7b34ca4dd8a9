use Rattle.std.proofs.Common.{◌≡◌, false}
use Rattle.std.specs.Prelude.{map}
use Rattle.std.specs.List.{list_any}
use Rattle.std.specs.Vec.Iter.{into_iter_items}
use Rattle.tk_stream.specs.Applied.{new_items}
use Rattle.tk_client.specs.Taking.{has_twice}
use Rattle.tk_client.specs.Applying.{has_info, info_id_by, with_new, Grown}
use Rattle.tk_client.proofs.taking.add_each.Given as goal

abbrev pub invariant-loop-info : goal.invariant-loop-info
invariant-loop-info g l = record {
  same : with_new g.T.Listed.with_items l.tables (g.T.Listed.items l.tables) (new_items g.T.Listed.kind l.stats (into_iter_items l.info-iterator))
      ≡ with_new g.T.Listed.with_items l.fn.tables (g.T.Listed.items l.fn.tables) (new_items g.T.Listed.kind l.stats l.fn.infos.items);
  absent : list_any (has_info g.T.Listed.kind (g.T.Listed.items l.tables)) (into_iter_items l.info-iterator) ≡ false;
  once : has_twice (map (info_id_by g.T.Listed.kind) (into_iter_items l.info-iterator)) ≡ false;
  grown : Grown l.fn.tables l.tables;
}
