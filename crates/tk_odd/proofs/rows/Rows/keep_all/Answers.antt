use Rattle.std.proofs.Common.{ℕ, List, cond, nat_eq, ap, sym, ◌∙◌, take, arith}
use Rattle.std.proofs.lemmas.List.{take_all}
use Rattle.tk_client.proofs.TimesLemmas.{take_next}
use Rattle.tk_stream.specs.Tables.{is_among}
use Rattle.tk_odd.specs.Keeping.{kept_row, lasts_in, row_in}
use Rattle.tk_odd.proofs.RowLemmas.{set_next}
use Rattle.tk_odd.proofs.rows.Rows.keep_all.Goals as goal

pub loop-id-preserved : goal.loop-id-preserved
loop-id-preserved c =
    let told : List ℕ = c.args.told.now in
    let tables = c.args.tables.now in
    let i = c.loop-id.id-index in
    let id : ℕ = c.id-item.result in
    let next = take_next told i id c.loop-id-test.true c.id-item.is in
    record {
      rows = λ other.
          c.in_ok-keep_shown.ensures.rows other
          ∙ ap (cond (nat_eq id other) (row_in tables id)) (c.loop-id.invariant.rows other)
          ∙ set_next (row_in tables) (kept_row c.args.self.now.rows.entries other) (take i told) id other
          ∙ ap (λ (ns : List ℕ). cond (is_among ns other) (row_in tables other) (kept_row c.args.self.now.rows.entries other)) (sym next);
      lasting = λ other.
          c.in_ok-keep_shown.ensures.lasting other
          ∙ ap (cond (nat_eq id other) (lasts_in tables id)) (c.loop-id.invariant.lasting other)
          ∙ set_next (lasts_in tables) (is_among c.args.self.now.lasting.keys other) (take i told) id other
          ∙ ap (λ (ns : List ℕ). cond (is_among ns other) (lasts_in tables other) (is_among c.args.self.now.lasting.keys other)) (sym next);
    }

pub returns-clause-rows : goal.returns-clause-rows
returns-clause-rows c = λ other.
    c.loop-id.invariant.rows other
    ∙ ap (λ (ns : List ℕ). cond (is_among ns other) (row_in c.args.tables.now other) (kept_row c.args.self.now.rows.entries other)) (take_all c.loop-id.id-index c.args.told.now (omega (arith, c.loop-id-test.false)))

pub returns-clause-lasting : goal.returns-clause-lasting
returns-clause-lasting c = λ other.
    c.loop-id.invariant.lasting other
    ∙ ap (λ (ns : List ℕ). cond (is_among ns other) (lasts_in c.args.tables.now other) (is_among c.args.self.now.lasting.keys other)) (take_all c.loop-id.id-index c.args.told.now (omega (arith, c.loop-id-test.false)))
