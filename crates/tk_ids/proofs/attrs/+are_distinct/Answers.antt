use Rattle.std.proofs.Common.{◌-◌, ◌&&◌, not, length, map, take, drop, refl, sym, ap, ◌∙◌, arith}
use Rattle.tk_ids.specs.Attributes.{are_distinct}
use Rattle.tk_ids.proofs.AttributesLemmas.{are_distinct-front}
use Rattle.tk_ids.proofs.attrs.+are_distinct.Goals as goal

pub returns-then-not-is_used : goal.returns-then-not-is_used
returns-then-not-is_used g t c =
    let xs = c.args.list.now in
    let h = are_distinct-front g.T.Named.name_of xs c.first-item.result c.name.result.now (take (length xs - 1) (drop 1 xs)) c.is_used.result c.are_distinct.result
    (omega arith) c.first-item.is c.name.ensures refl c.is_used.ensures c.are_distinct.ensures in
    sym (ap (λ used. not used && c.are_distinct.result) c.if-not-is_used.true) ∙ h

pub returns-else-not-is_used : goal.returns-else-not-is_used
returns-else-not-is_used g t c =
    let xs = c.args.list.now in
    let rest = take (length xs - 1) (drop 1 xs) in
    let others = are_distinct (map g.T.Named.name_of rest) in
    let h = are_distinct-front g.T.Named.name_of xs c.first-item.result c.name.result.now rest c.is_used.result others
    (omega arith) c.first-item.is c.name.ensures refl c.is_used.ensures refl in
    ap not c.if-not-is_used.false ∙ sym (ap (λ used. not used && others) c.if-not-is_used.false) ∙ h
