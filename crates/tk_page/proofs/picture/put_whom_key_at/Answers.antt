use Rattle.std.proofs.Common.{OnOk, [], subst, sym}
use Rattle.std.specs.Option.{option_map_or}
use Rattle.tk_paper.specs.Pieces.{Writes}
use Rattle.tk_page.specs.Picture.{whom_key}
use Rattle.tk_page.proofs.LoopLemmas.{item_at}
use Rattle.tk_page.proofs.picture.put_whom_key_at.Goals as goal

pub returns-in-Some : goal.returns-in-Some
returns-in-Some c =
    let found = c.in-Some.ensures.lookup in
    let at = item_at c.args.blamed.now c.args.i c.in-Some.one.now found.3.0 found.1 in
    subst (λ o. OnOk c.put_whom_key.result (Writes c.args.paper.now c.put_whom_key.new.paper (option_map_or (whom_key c.args.class.now) o []))) (sym at) c.put_whom_key.ensures
