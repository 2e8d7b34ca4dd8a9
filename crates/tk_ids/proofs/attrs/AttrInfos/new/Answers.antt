use Rattle.std.proofs.Common.{false, true, sym, ◌∙◌}
use Rattle.tk_ids.specs.declared.attr.AttrInfo.{AttrInfo}
use Rattle.tk_ids.proofs.AttributesLemmas.{are_attributes-rule}
use Rattle.tk_ids.proofs.attrs.AttrInfos.new.Goals as goal

pub returns-then-are_attributes-clause-rule : goal.returns-then-are_attributes-clause-rule
returns-then-are_attributes-clause-rule c =
    are_attributes-rule (λ (a : AttrInfo). a.name) c.args.list.items true
    (sym c.if-are_attributes.true ∙ (rw c.as_slice.ensures.value at c.are_attributes.ensures))

pub returns-else-are_attributes-clause-rule : goal.returns-else-are_attributes-clause-rule
returns-else-are_attributes-clause-rule c =
    are_attributes-rule (λ (a : AttrInfo). a.name) c.args.list.items false
    (sym c.if-are_attributes.false ∙ (rw c.as_slice.ensures.value at c.are_attributes.ensures))
