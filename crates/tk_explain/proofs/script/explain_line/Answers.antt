use Rattle.std.proofs.Common.{◌≡◌, ◌-◌, Some, ℕ, List, ap, sym, ◌∙◌}
use Rattle.std.specs.Borrow.{Bor}
use Rattle.std.specs.Option.{option_map}
use Rattle.std.proofs.lemmas.Result.{on_ok_weaker}
use Rattle.tk_explain.specs.Rules.{rule_text}
use Rattle.tk_explain.specs.Telling.{line_after}
use Rattle.tk_explain.proofs.Told.{tells}
use Rattle.tk_explain.proofs.script.explain_line.Goals as goal

pub returns : goal.returns
returns g c =
    let there : line_after c.args.script.now (c.args.number - 1) ≡ Some c.in-Some.line.now =
    ap (line_after c.args.script.now) (sym c.saturating_sub-before.ensures) ∙ sym c.line_after.ensures ∙ ap (option_map (λ (l : Bor (List ℕ)). l.now)) c.in-Some.is in
    on_ok_weaker c.tell_rule.result
    (λ ruled. tells c.args.number (line_after c.args.script.now (c.args.number - 1)) c.in-Some.line.now (rule_text c.rule_of.result.before.now c.rule_of.result.word.now c.rule_of.result.after.now)
    (g.W.Write.contents c.args.out.now) (g.W.Write.contents c.show_numbered.new.out) (g.W.Write.contents c.tell_rule.new.out) there c.in_ok-show_numbered.ensures ruled)
    c.tell_rule.ensures
