use Rattle.std.proofs.Common.{◌≡◌, ◌++◌, ◌∷◌, ◌+◌, [], nat_eq, take, map, cond, ap, sym, ◌∙◌, arith}
use Rattle.indexmap.specs.IndexSet.{contains}
use Rattle.std.proofs.lemmas.List.{map-append}
use Rattle.tk_stream.specs.Applied.{task_kind}
use Rattle.tk_stream.specs.Tables.{is_among}
use Rattle.tk_stream.proofs.SlotLemmas.{taken_more}
use Rattle.tk_client.specs.Candidates.{is_able}
use Rattle.tk_client.specs.Applying.{stats_id_by}
use Rattle.tk_client.proofs.AbleLemmas.{relisted-next}
use Rattle.tk_client.proofs.able.relist.Goals as goal

pub loop-id-preserved : goal.loop-id-preserved
loop-id-preserved c =
    let told = c.args.told.now in
    let i = c.loop-id.id-index in
    let able = is_able c.args.tables.now.tasks in
    let one = c.loop-id-item.result in
    let more : take (i + 1) told ≡ take i told ++ one ∷ [] = taken_more i told one c.loop-id-test.true ∙ ap (λ x. take i told ++ x ∷ []) (sym c.loop-id-item.is) in
    let ids : map (stats_id_by task_kind) (take (i + 1) told) ≡ map (stats_id_by task_kind) (take i told) ++ one.0 ∷ [] = ap (map (stats_id_by task_kind)) more ∙ map-append (stats_id_by task_kind) (take i told) (one ∷ []) in
    record {
      room = omega arith;
      listed = λ other.
          let was = contains nat_eq c.args.able.now other in
          c.relist_one.ensures.listed other
          ∙ ap (cond (nat_eq one.0 other) (able one.0)) (c.loop-id.invariant.listed other)
          ∙ relisted-next able was (map (stats_id_by task_kind) (take i told)) one.0 other
          ∙ ap (λ ns. cond (is_among ns other) (able other) was) (sym ids);
    }
