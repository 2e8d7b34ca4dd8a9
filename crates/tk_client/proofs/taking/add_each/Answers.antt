use Rattle.std.proofs.Common.{◌≡◌, ◌++◌, ◌∷◌, [], Some, false, ap, sym, ◌∙◌}
use Rattle.std.specs.Prelude.{map, ◌||◌}
use Rattle.std.specs.List.{list_any}
use Rattle.std.specs.Vec.Iter.{into_iter_items}
use Rattle.std.proofs.lemmas.Bool.{or_parts}
use Rattle.tk_stream.specs.Applied.{new_items}
use Rattle.tk_stream.specs.Tables.{TablesView}
use Rattle.tk_client.specs.Taking.{has_twice}
use Rattle.tk_client.specs.Applying.{has_info, info_id_by, stats_id_by, told_of, made, with_new, begins_same}
use Rattle.tk_client.proofs.TakeLemmas.{adds, absent_next, once_next}
use Rattle.tk_client.proofs.CutLemmas.{begins-more, grown-same, grown-on}
use Rattle.tk_client.proofs.taking.add_each.Goals as goal

pub loop-info-init : goal.loop-info-init
loop-info-init g c =
    let k = g.T.Listed.kind in
    let xs = g.T.Listed.items c.args.tables.now in
    let infos = c.args.infos.items in
    let twice = has_twice (map (info_id_by k) infos) || has_twice (map (stats_id_by k) c.args.stats.now) in
    let p = or_parts (list_any (has_info k xs) infos) twice c.requires.once in
    let e : into_iter_items c.into_iter-info-iterator.result ≡ infos = c.into_iter-info-iterator.ensures.into_iter_gives.0 in
    let put = g.T.Listed.with_items in
    record {
      same = ap (λ l. with_new put c.args.tables.now xs (new_items k c.args.stats.now l)) e;
      absent = ap (list_any (has_info k xs)) e ∙ p.0;
      once = ap (λ l. has_twice (map (info_id_by k) l)) e ∙ (or_parts (has_twice (map (info_id_by k) infos)) (has_twice (map (stats_id_by k) c.args.stats.now)) p.1).0;
      grown = grown-same c.args.tables.now;
    }

pub loop-info-preserved : goal.loop-info-preserved
loop-info-preserved g c =
    let k = g.T.Listed.kind in
    let items = g.T.Listed.items in
    let put = g.T.Listed.with_items in
    let stats = c.args.stats.now in
    let v : TablesView = c.loop-info.tables in
    let w : TablesView = c.add.new.tables in
    let info = c.in-Some.info in
    let s = c.in-Some-told_of.own in
    let rest = into_iter_items c.next.new.self in
    let step : into_iter_items c.loop-info.info-iterator ≡ info ∷ rest = c.in-Some.ensures.steps.0 in
    let new : w ≡ put v (items v ++ made k info s ∷ []) = c.in_ok-add.ensures.ok in
    let is : Some s ≡ told_of k stats (info_id_by k info) = c.in-Some-told_of.ensures ∙ ap (told_of k stats) c.info_id.ensures in
    let now : items w ≡ items v ++ made k info s ∷ [] = ap items new ∙ g.met.T.Listed.reads v (items v ++ made k info s ∷ []) in
    let absent : list_any (has_info k (items v)) (info ∷ rest) ≡ false = ap (list_any (has_info k (items v))) (sym step) ∙ c.loop-info.invariant.absent in
    let once : has_twice (map (info_id_by k) (info ∷ rest)) ≡ false = ap (λ l. has_twice (map (info_id_by k) l)) (sym step) ∙ c.loop-info.invariant.once in
    record {
      same = adds k items put g.met.T.Listed.reads g.met.T.Listed.writes v w stats info s rest is new
          ∙ ap (λ l. with_new put v (items v) (new_items k stats l)) (sym step) ∙ c.loop-info.invariant.same;
      absent = ap (λ xs. list_any (has_info k xs) rest) now ∙ absent_next k g.met.T.Listed.same_id (items v) info s rest absent once;
      once = once_next k info rest once;
      grown = grown-on c.args.tables.now v w c.loop-info.invariant.grown (rw new (g.met.T.Listed.grows v (items v ++ made k info s ∷ []) (begins-more (items v) (items v) (made k info s ∷ []) (begins_same (items v)))));
    }
