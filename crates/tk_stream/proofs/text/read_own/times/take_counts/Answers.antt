use Rattle.std.proofs.Common.{◌≡◌, sym, ap, ◌∙◌}
use Rattle.tk_stream.specs.Times.{filled_from, counts_from}
use Rattle.tk_stream.proofs.TimesLemmas.{all_of_filled}
use Rattle.tk_stream.proofs.text.read_own.times.take_counts.Goals as goal

pub returns : goal.returns
returns c =
    let filled = c.in-Some.value.0.items in
    let all : filled_from 0 c.in-Some-counts_of.value ≡ filled =
    all_of_filled 0 14 filled c.in-Some-counts_of.value (ap (counts_from 0 14) (sym c.as_slice.ensures.value) ∙ sym c.counts_of.ensures ∙ c.in-Some-counts_of.is) in
    rw all (rw c.in-Some.is at c.in_ok-value.ensures)
