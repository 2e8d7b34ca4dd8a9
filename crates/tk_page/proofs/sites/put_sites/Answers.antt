use Rattle.tk_page.proofs.sites.put_sites.Goals as goal

pub returns : goal.returns
returns c = record {
  ranks = c.in_ok-ranks.ranks.items;
  ranked = c.in_ok-ranks.ensures;
  wrote = rw c.as_slice.ensures.value at c.in_ok-put_ranked.ensures;
}
