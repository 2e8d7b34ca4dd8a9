use Rattle.tk_paper.proofs.PutLemmas.{then}
use Rattle.tk_page.proofs.drawing.put_page.Goals as goal

pub returns : goal.returns
returns c =
    let s = c.in_ok-put_sites.ensures in
    let t = c.in_ok-put_tasks.ensures in
    record {
      site_ranks = s.ranks;
      sites_ranked = s.ranked;
      ranks = t.ranks;
      ranked = t.ranked;
      height = t.height;
      most = t.most;
      wrote = rw (c.watched.ensures, c.lines-lines.ensures, c.gone.ensures, c.came.ensures) at
          (then c.in_ok-put_banner.ensures (then c.in_ok-put_header.ensures (then c.in_ok-put.ensures (then c.in_ok-put_odd.ensures (then s.wrote (then t.wrote (then c.in_ok-put_resources.ensures c.in_ok-put-2.ensures)))))));
    }
