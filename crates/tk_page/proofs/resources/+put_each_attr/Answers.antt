use Rattle.tk_ids.specs.declared.attr.AttrValue.TheVariants.{U64}
use Rattle.tk_page.specs.Items.{attr}
use Rattle.tk_page.proofs.DrawLemmas.{attrs_put}
use Rattle.tk_page.proofs.resources.+put_each_attr.Goals as goal

pub returns : goal.returns
returns t c =
    attrs_put attr c.args.attrs.now c.args.values.now c.attr-item.result (U64 0) c.in-len1-up.len_at_least c.in-len1-up-values.len_at_least c.attr-item.is
    c.in_ok-put_attr.ensures c.in_ok-put_each_attr.ensures
