use Rattle.std.proofs.Common.{refl}
use Rattle.tk_page.proofs.HistoryLemmas.{tells_none}
use Rattle.tk_page.proofs.history.History.new.Goals as goal

pub returns : goal.returns
returns c =
    tells_none (record { alloc = c.args.alloc; moments = c.new.result; tracks = c.new-2.result; sums = c.new-3.result; last = c.none.result; gone = 0 }) c.new.ensures.items c.new-2.ensures refl
    c.new-3.ensures.course c.none.ensures
