use Rattle.std.proofs.Common.{List, OnOk, subst, sym}
use Rattle.tk_paper.specs.Parts.{Bit}
use Rattle.tk_paper.specs.Pieces.{Writes}
use Rattle.tk_page.proofs.CardLemmas.{holds_its_thread}
use Rattle.tk_page.proofs.banner.put_doing_of.Goals as goal

pub returns : goal.returns
returns c =
    subst (λ (bits : List Bit). OnOk c.put.result (Writes c.args.paper.now c.put.new.self bits))
    (sym (holds_its_thread c.args.now c.args.is_now c.args.kind c.args.task.now c.if-not-row.false)) (rw c.runs_for-time.ensures at c.put.ensures)
