use Rattle.tk_paper.proofs.PutLemmas.{then}
use Rattle.tk_page.proofs.tasks.put_tasks.Goals as goal

pub returns : goal.returns
returns c =
    let t = c.in_ok-put_table.ensures in
    record {
      ranks = t.ranks;
      ranked = t.ranked;
      height = t.height;
      most = t.most;
      wrote = rw c.task_count.ensures.count at (then c.in_ok-put_tasks_head.ensures (then t.wrote (then c.in_ok-put_more.ensures c.in_ok-put.ensures)));
    }
