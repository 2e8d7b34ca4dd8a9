use Rattle.std.proofs.Common.{◌≡◌, ap, ap₂, subst, ◌∙◌, ◌++◌, List, ℕ}
use Rattle.std.specs.Prelude.{map, take}
use Rattle.std.specs.Io.KnownBytes.{Appends}
use Rattle.std.proofs.KnownBytes.{Appends-trans}
use Rattle.std.proofs.lemmas.List.{take_min}
use Rattle.std.proofs.lemmas.Result.{on_ok_weaker}
use Rattle.tk_explain.specs.Telling.{dots, shown, shown_byte}
use Rattle.tk_explain.proofs.shown.show_line.Goals as goal

pub returns : goal.returns
returns g c =
    let old = g.W.Write.contents c.args.out.now in
    let front = map shown_byte (take c.min.result c.args.line.now) in
    let same : front ++ c.dots.result.now ≡ shown c.args.line.now =
    ap₂ (λ (n : ℕ) (d : List ℕ). map shown_byte (take n c.args.line.now) ++ d) c.min.ensures c.dots.ensures
    ∙ ap (λ (xs : List ℕ). map shown_byte xs ++ dots c.args.line.now) (take_min 72 c.args.line.now) in
    on_ok_weaker c.write_all.result
    (λ more. subst (Appends old (g.W.Write.contents c.write_all.new.self)) same
    (Appends-trans old (g.W.Write.contents c.show_front.new.out) (g.W.Write.contents c.write_all.new.self) front c.dots.result.now c.in_ok-show_front.ensures more))
    c.write_all.ensures.bytes
