use Rattle.std.proofs.Common.{◌≡◌, subst, ◌∙◌}
use Rattle.tk_stream.specs.Sent.{IsCut}
use Rattle.tk_compare.specs.Views.{text_of}
use Rattle.tk_compare.proofs.view.compare_recorded.Goals as goal

pub returns-clause-compares : goal.returns-clause-compares
returns-clause-compares g c =
    let is : c.as_slice.result.now ≡ text_of c.args.margin c.args.before.now c.args.after.now = c.as_slice.ensures.value ∙ c.in-Ok.ensures.text in
    let sent = c.in-Err.ensures in
    record {
      front = sent.0;
      cut = subst (λ t. IsCut t sent.0) is sent.1;
      wrote = sent.2;
    }
