use Rattle.std.proofs.Common.{◌≡◌, ◌+◌, ◌-◌, ◌++◌, arith, subst}
use Rattle.std.specs.Io.Iter.{u64_saturate}
use Rattle.std.specs.Io.KnownBytes.{Appends}
use Rattle.std.specs.Prelude.{codes}
use Rattle.std.proofs.KnownBytes.{Appends-trans}
use Rattle.std.proofs.lemmas.Result.{on_ok_weaker}
use Rattle.tk_explain.specs.Rules.{rule_text}
use Rattle.tk_explain.specs.Telling.{line_after, line_text}
use Rattle.tk_explain.proofs.Told.{found, tells}
use Rattle.tk_explain.proofs.stream.explain_fault.Goals as goal

pub returns-then-is_of_script : goal.returns-then-is_of_script
returns-then-is_of_script g c =
    let old = g.W.Write.contents c.args.out.now in
    let told = g.W.Write.contents c.show_numbered.new.out in
    let ruled = g.W.Write.contents c.tell_rule.new.out in
    let new = g.W.Write.contents c.write_all.new.self in
    let kept = c.args.stream.now.lines in
    let number : c.saturating_add.result ≡ u64_saturate (c.args.lines + 1) = omega (arith, c.saturating_add.ensures) in
    let there = found c.bytes.result.now kept.bytes c.args.lines kept.before c.lines_before.result c.saturating_sub-place.result c.line_after.result c.in-Some.line
    c.bytes.ensures c.lines_before.ensures c.saturating_sub-place.ensures c.line_after.ensures c.in-Some.is in
    let rule = rule_text c.plain.result.before.now c.plain.result.word.now c.plain.result.after.now in
    let hint = codes "  it looks like a script, which `taskscope run` takes\n" in
    on_ok_weaker c.write_all.result
    (λ more. tells (u64_saturate (c.args.lines + 1)) (line_after kept.bytes (c.args.lines - kept.before)) c.in-Some.line.now (rule ++ hint) old told new there
    (subst (λ n. Appends old told (line_text n c.in-Some.line.now)) number c.in_ok-show_numbered.ensures) (Appends-trans told ruled new rule hint c.in_ok-tell_rule.ensures more))
    c.write_all.ensures.bytes

pub returns : goal.returns
returns g c =
    let old = g.W.Write.contents c.args.out.now in
    let told = g.W.Write.contents c.show_numbered.new.out in
    let kept = c.args.stream.now.lines in
    let number : c.saturating_add.result ≡ u64_saturate (c.args.lines + 1) = omega (arith, c.saturating_add.ensures) in
    let there = found c.bytes.result.now kept.bytes c.args.lines kept.before c.lines_before.result c.saturating_sub-place.result c.line_after.result c.in-Some.line
    c.bytes.ensures c.lines_before.ensures c.saturating_sub-place.ensures c.line_after.ensures c.in-Some.is in
    tells (u64_saturate (c.args.lines + 1)) (line_after kept.bytes (c.args.lines - kept.before)) c.in-Some.line.now (rule_text c.plain.result.before.now c.plain.result.word.now c.plain.result.after.now)
    old told (g.W.Write.contents c.tell_rule.new.out) there (subst (λ n. Appends old told (line_text n c.in-Some.line.now)) number c.in_ok-show_numbered.ensures) c.in_ok-tell_rule.ensures
