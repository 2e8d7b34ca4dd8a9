use Rattle.std.proofs.Common.{ap₂, subst, OnOk, ◌∙◌}
use Rattle.tk_report.specs.Pieces.{Puts, spaced}
use Rattle.tk_compare.specs.Lines.{words_of}
use Rattle.tk_compare.proofs.lines.put_rates.Goals as goal

pub returns : goal.returns
returns c =
    subst (λ text. OnOk c.put.result (Puts c.args.out.now.items c.put.new.out.items text))
    (c.as_bytes.ensures.value ∙ c.in_ok-words_of.ensures ∙ ap₂ (λ a b. spaced (words_of c.args.word.now a b)) c.rate-old.ensures c.rate-new.ensures)
    c.put.ensures
