use Rattle.std.proofs.Common.{sym}
use Rattle.tk_client.proofs.AttrLemmas.{other_lengths}
use Rattle.tk_client.proofs.attrs.fit_attrs.Goals as goal

pub returns-then-attrs-values : goal.returns-then-attrs-values
returns-then-attrs-values c = sym (other_lengths c.args.attrs.now c.args.values.now (λ e. c.if-attrs-values.true e))
