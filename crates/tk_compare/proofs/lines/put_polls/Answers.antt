use Rattle.std.proofs.Common.{ap₂, codes, subst, OnOk, ◌∙◌}
use Rattle.tk_report.specs.Pieces.{Puts, spaced}
use Rattle.tk_compare.specs.Lines.{words_in_hundredths}
use Rattle.tk_compare.proofs.lines.put_polls.Goals as goal

pub returns : goal.returns
returns c =
    subst (λ text. OnOk c.put.result (Puts c.args.out.now.items c.put.new.out.items text))
    (c.as_bytes.ensures.value ∙ c.in_ok-words_in_hundredths.ensures ∙ ap₂ (λ a b. spaced (words_in_hundredths (codes "polls") a b)) c.rate_in_hundredths-old.ensures c.rate_in_hundredths-new.ensures)
    c.put.ensures
