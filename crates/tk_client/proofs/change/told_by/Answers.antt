use Rattle.std.proofs.Common.{◌≡◌, ℕ, List, [], ◌∷◌, ◌++◌, ◌+◌, Bool, true, false, refl, ap, sym, ◌∙◌, take, nat_eq}
use Rattle.std.specs.Prelude.{map, ◌||◌}
use Rattle.std.proofs.lemmas.List.{map-append}
use Rattle.tk_core.specs.declared.task.row.TaskRow.{TaskRow}
use Rattle.tk_stream.specs.Applied.{task_kind}
use Rattle.tk_stream.specs.Tables.{is_among}
use Rattle.tk_stream.specs.Times.{TaskTimes, times_id}
use Rattle.tk_stream.proofs.SlotLemmas.{taken_more}
use Rattle.tk_client.specs.Applying.{stats_id_by}
use Rattle.tk_client.proofs.NotedLemmas.{among-next}
use Rattle.tk_client.proofs.change.told_by.Goals as goal

grouped : (a b c : Bool) → ((a || b) || c) ≡ (a || (b || c))
grouped true b c = refl
grouped false b c = refl

pub loop-task-preserved : goal.loop-task-preserved
loop-task-preserved c =
    let told : List (ℕ × TaskRow) = c.task_stats-task-items.result.now in
    let i = c.loop-task.task-index in
    let one : ℕ × TaskRow = c.loop-task-item.result in
    let more : take (i + 1) told ≡ take i told ++ one ∷ [] = taken_more i told one c.loop-task-test.true ∙ ap (λ x. take i told ++ x ∷ []) (sym c.loop-task-item.is) in
    let ids : map (stats_id_by task_kind) (take (i + 1) told) ≡ map (stats_id_by task_kind) (take i told) ++ one.0 ∷ [] =
    ap (map (stats_id_by task_kind)) more ∙ map-append (stats_id_by task_kind) (take i told) (one ∷ []) in
    record {
      told = λ id.
          c.in_ok-add_told.ensures.told id
          ∙ ap (λ b. b || nat_eq id one.0) (c.loop-task.invariant.told id)
          ∙ among-next (map (stats_id_by task_kind) (take i told)) one.0 id
          ∙ ap (λ ns. is_among ns id) (sym ids);
      once = c.in_ok-add_told.ensures.once;
    }

pub loop-timed-preserved : goal.loop-timed-preserved
loop-timed-preserved c =
    let rows = map (stats_id_by task_kind) c.args.line.now.task_stats in
    let told : List TaskTimes = c.task_times-timed-items.result.now in
    let i = c.loop-timed.timed-index in
    let one : TaskTimes = c.loop-timed-item.result in
    let more : take (i + 1) told ≡ take i told ++ one ∷ [] = taken_more i told one c.loop-timed-test.true ∙ ap (λ x. take i told ++ x ∷ []) (sym c.loop-timed-item.is) in
    let ids : map times_id (take (i + 1) told) ≡ map times_id (take i told) ++ one.0 ∷ [] =
    ap (map times_id) more ∙ map-append times_id (take i told) (one ∷ []) in
    record {
      told = λ id.
          c.in_ok-add_told-2.ensures.told id
          ∙ ap (λ b. b || nat_eq id one.0) (c.loop-timed.invariant.told id)
          ∙ grouped (is_among rows id) (is_among (map times_id (take i told)) id) (nat_eq id one.0)
          ∙ ap (λ b. is_among rows id || b) (among-next (map times_id (take i told)) one.0 id ∙ ap (λ ns. is_among ns id) (sym ids));
      once = c.in_ok-add_told-2.ensures.once;
    }
