use Rattle.std.proofs.Common.{◌≡◌, subst}
use Rattle.std.specs.Prelude.{IfOk}
use Rattle.tk_watch.specs.Odd.{odd_after}
use Rattle.tk_watch.proofs.seen.Course.odd.Goals as goal

pub returns : goal.returns
returns c = λ lints shown s.
    subst (λ tables. IfOk c.odd.result (λ odd. odd ≡ odd_after lints shown tables)) c.tables.ensures (c.odd.ensures lints shown s)
