use Rattle.std.proofs.Common.{ℕ, List, Option, None, false, cond, ap, ◌∙◌}
use Rattle.std.specs.Prelude.{map, option_map}
use Rattle.std.specs.Option.{option_map_or}
use Rattle.tk_client.specs.Changes.{left_id}
use Rattle.tk_client.specs.declared.change.LeftTask.{LeftTask}
use Rattle.tk_stream.specs.Tables.{is_among}
use Rattle.tk_stream.specs.declared.tables.task.Task.{Task}
use Rattle.tk_odd.specs.Keeping.{kept_row, lasts, lasts_in, row_in}
use Rattle.tk_odd.proofs.RowLemmas.{after_line}
use Rattle.tk_odd.proofs.rows.Rows.follow.Goals as goal

pub returns : goal.returns
returns c = λ before leads k.
    let after = c.args.tables.now in
    let change = c.args.change.now in
    let old = c.args.self.now in
    record {
      moment = c.now-self.ensures;
      rows = λ id.
          c.in_ok-keep_all.ensures.rows id
          ∙ ap (λ (ns : List ℕ). cond (is_among ns id) (row_in after id) (kept_row c.forget_all.new.self.rows.entries id)) c.told.ensures
          ∙ ap (cond (is_among change.told id) (row_in after id))
          (c.forget_all.ensures.rows id
          ∙ ap (λ (xs : List LeftTask). cond (is_among (map left_id xs) id) None (kept_row old.rows.entries id)) c.left.ensures
          ∙ ap (cond (is_among (map left_id change.left) id) None) (k.rows id))
          ∙ after_line (option_map (λ (t : Task). t.row)) before after change leads id;
      lasting = λ id.
          c.in_ok-keep_all.ensures.lasting id
          ∙ ap (λ (ns : List ℕ). cond (is_among ns id) (lasts_in after id) (is_among c.forget_all.new.self.lasting.keys id)) c.told.ensures
          ∙ ap (cond (is_among change.told id) (lasts_in after id))
          (c.forget_all.ensures.lasting id
          ∙ ap (λ (xs : List LeftTask). cond (is_among (map left_id xs) id) false (is_among old.lasting.keys id)) c.left.ensures
          ∙ ap (cond (is_among (map left_id change.left) id) false) (k.lasting id))
          ∙ after_line (λ (o : Option Task). option_map_or lasts (option_map (λ (t : Task). t.row) o) false) before after change leads id;
    }
