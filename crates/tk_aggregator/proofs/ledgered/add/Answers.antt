use Rattle.std.proofs.Common.{◌≡◌, ◌++◌, ◌∷◌, [], length, ap, sym, ◌∙◌, arith}
use Rattle.std.proofs.lemmas.List.{length-append}
use Rattle.tk_stream.specs.Tables.{changed_at}
use Rattle.tk_aggregator.proofs.ReadingLemmas.{changed_here}
use Rattle.tk_aggregator.proofs.ledgered.add.Given.{Over}
use Rattle.tk_aggregator.proofs.ledgered.add.Goals as goal

table_is : (g : Over) (c : goal.In-Ok-push-2 g) → c.set.new.self ≡ c.args.table.now ++ g.T.Item.with_row c.args.item c.read-row.result ∷ []
table_is g c =
    c.set.ensures ∙ ap (λ xs. changed_at (λ x. g.T.Item.with_row x c.read-row.result) xs c.len-place.result) c.in-Ok-push.ensures.ok
    ∙ changed_here (λ x. g.T.Item.with_row x c.read-row.result) c.args.table.now c.args.item [] c.len-place.result (sym c.len-place.ensures.count)

pub returns-clause-ok : goal.returns-clause-ok
returns-clause-ok g c = (
  c.read-row.result,
  c.read-row.new.handle,
  c.read-row.ensures,
  table_is g c,
  c.in-Ok-push-2.ensures.items ∙ ap (λ xs. xs ++ c.read-row.new.handle ∷ []) c.in-Ok-reserve.ensures.items,
)

pub returns-clause-room : goal.returns-clause-room
returns-clause-room g c =
    omega (arith, ap length (table_is g c), length-append c.args.table.now (g.T.Item.with_row c.args.item c.read-row.result ∷ []), c.in-Ok.ensures.room, c.len-place.ensures.count)
