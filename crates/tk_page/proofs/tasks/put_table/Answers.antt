use Rattle.std.proofs.Common.{◌≡◌, ◌∙◌, ap, take}
use Rattle.tk_page.specs.Picture.{splits_of}
use Rattle.tk_page.specs.Strips.{most_waited, steps_of}
use Rattle.tk_paper.proofs.PutLemmas.{then}
use Rattle.tk_page.proofs.tasks.put_table.Goals as goal

pub returns : goal.returns
returns c =
    let history = c.args.history.now in
    let start = c.args.scale.start in
    let sums : c.as_slice-list.result.now ≡ steps_of start history.sums.kept history.last =
    c.as_slice-list.ensures.value ∙ c.in_ok-sums.ensures ∙ ap (λ xs. steps_of start xs c.last.result) c.sums.ensures ∙ ap (λ l. steps_of start history.sums.kept l) c.last.ensures in
    let blamed = c.args.blamed.now in
    let splits : c.as_slice-2.result.now ≡ splits_of blamed (steps_of start history.sums.kept history.last) =
    c.as_slice-2.ensures.value ∙ c.in_ok-splits.ensures ∙ ap (splits_of blamed) sums in
    let shown : c.front-shown.result.now ≡ take 200 c.in_ok-ranks.ranks.items = c.front-shown.ensures ∙ ap (take 200) c.as_slice.ensures.value in
    record {
      ranks = c.in_ok-ranks.ranks.items;
      ranked = record { all = c.in_ok-ranks.ensures.all; sorted = c.in_ok-ranks.ensures.sorted };
      height = c.height_of-height.result;
      most = c.height_of-height.ensures ∙ ap most_waited sums;
      wrote = rw (splits, shown) at (then c.in_ok-put_table_head.ensures (then c.in_ok-put_rows.ensures c.in_ok-put.ensures));
    }
