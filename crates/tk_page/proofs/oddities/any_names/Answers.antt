use Rattle.std.proofs.Common.{◌∙◌, ap, false, sym, arith}
use Rattle.std.specs.Option.{option_map_or}
use Rattle.tk_page.specs.Odd.{names}
use Rattle.tk_page.proofs.LoopLemmas.{item_at, none_more, some_passes}
use Rattle.tk_page.proofs.oddities.any_names.Goals as goal

pub returns-then-names : goal.returns-then-names
returns-then-names c =
    let xs = c.args.findings.now in
    let i = c.loop-found.found-index in
    let one = names c.args.task.now in
    let at = item_at xs i c.found-item.result (omega arith) c.found-item.is in
    sym (some_passes one xs i (ap (λ o. option_map_or one o false) at ∙ sym c.names.ensures ∙ c.if-names.true))

pub loop-found-preserved : goal.loop-found-preserved
loop-found-preserved c =
    let xs = c.args.findings.now in
    let i = c.loop-found.found-index in
    let one = names c.args.task.now in
    let at = item_at xs i c.found-item.result (omega arith) c.found-item.is in
    none_more one xs i c.loop-found.invariant (ap (λ o. option_map_or one o false) at ∙ sym c.names.ensures ∙ c.if-names.false)
