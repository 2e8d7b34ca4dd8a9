use Rattle.std.proofs.Common.{◌++◌, ◌∷◌, []}
use Rattle.std.specs.Prelude.{codes, decimal}
use Rattle.std.proofs.KnownBytes.{Appends-trans}
use Rattle.std.proofs.lemmas.Result.{on_ok_weaker}
use Rattle.tk_explain.specs.Telling.{shown}
use Rattle.tk_explain.proofs.shown.show_numbered.Goals as goal

pub returns : goal.returns
returns g c =
    let old = g.W.Write.contents c.args.out.now in
    let first = g.W.Write.contents c.write.new.self in
    let second = g.W.Write.contents c.show_line.new.out in
    let new = g.W.Write.contents c.write_all.new.self in
    let line = shown c.args.line.now in
    on_ok_weaker c.write_all.result
    (λ end. Appends-trans old first new (codes "  " ++ (decimal c.args.number ++ codes " | ")) (line ++ 10 ∷ []) c.in_ok-write.ensures.bytes
    (Appends-trans first second new line (10 ∷ []) c.in_ok-show_line.ensures end))
    c.write_all.ensures.bytes
