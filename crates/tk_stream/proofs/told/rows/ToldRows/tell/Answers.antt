use Rattle.std.proofs.Common.{ap, sym, ◌∙◌, arith}
use Rattle.std.proofs.lemmas.List.{length-set}
use Rattle.std.specs.Prelude.{is_some}
use Rattle.tk_stream.proofs.FrontLemmas.{goes_on_told, marked, marks_stay}
use Rattle.tk_stream.proofs.told.rows.ToldRows.tell.Goals as goal

pub loop-i-preserved : goal.loop-i-preserved
loop-i-preserved g c =
    let rows = c.loop-i.self-inside.rows.items in (
      length-set rows c.loop-i.i c.forget.new.row ∙ c.loop-i.invariant.0,
      marks_stay rows c.loop-i.self-inside.marks.items c.loop-i.i c.forget.new.mark c.forget.new.row c.loop-i.invariant.1 (c.forget.ensures.mark ∙ sym (ap is_some c.forget.ensures.row)),
      goes_on_told rows c.args.table.now c.loop-i.i c.forget.new.row c.forget.ensures.row (omega (arith, c.loop-i-test.true, c.len-count.ensures.count)) (omega (arith, c.loop-i-test.true, c.len-count.ensures.count, c.requires, c.loop-i.invariant.0)) c.loop-i.invariant.2,
    )

pub forget-requires : goal.forget-requires
forget-requires g c =
    marked c.loop-i.self-inside.rows.items c.loop-i.self-inside.marks.items c.loop-i.i c.index_mut-in-loop-i.result.now c.index_mut.result.now c.loop-i.invariant.1
    (omega (arith, c.loop-i-test.true, c.len-count.ensures.count, c.requires, c.loop-i.invariant.0)) c.index_mut-in-loop-i.ensures.value c.index_mut.ensures.value

pub invariant_of-self : goal.invariant_of-self
invariant_of-self g c = (omega (arith, c.len-count.ensures.count, c.requires, c.loop-i.invariant.0), c.loop-i.invariant.1)
