use Rattle.std.proofs.Common.{◌≡◌, List, sym, ◌∙◌, subst}
use Rattle.tk_ids.specs.Attributes.{HaveKinds}
use Rattle.tk_ids.specs.declared.attr.AttrInfo.{AttrInfo}
use Rattle.tk_ids.specs.declared.attr.AttrValue.{AttrValue}
use Rattle.tk_core.specs.Resource.{opening_row}
use Rattle.tk_events.specs.Items.{first_values, infos_of}
use Rattle.tk_events.proofs.AttrLemmas.{same_kinds}
use Rattle.tk_events.proofs.new_item.new_resource.Goals as goal

pub returns-clause-agrees : goal.returns-clause-agrees
returns-clause-agrees g c =
    let row = opening_row c.args.created c.as_slice.result.now in
    let values : c.as_slice.result.now ≡ first_values c.args.spec.attrs = c.as_slice.ensures.value ∙ c.in-Some.ensures.values in (
      c.in-Some-resource_ledger.ensures.ids.1,
      (
        row,
        c.in-Some-resource_ledger.ensures.inspector,
        subst (λ (l : List AttrInfo). HaveKinds l row.attrs) (sym c.in-Some.ensures.infos) (subst (λ (l : List AttrValue). HaveKinds (infos_of c.args.spec.attrs) l) (sym values) (same_kinds c.args.spec.attrs)),
      ),
    )
