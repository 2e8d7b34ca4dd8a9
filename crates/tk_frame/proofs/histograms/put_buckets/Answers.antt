use Rattle.tk_screen.proofs.PutLemmas.{both}
use Rattle.tk_frame.proofs.histograms.put_buckets.Goals as goal

pub returns : goal.returns
returns c = rw (← c.greatest.ensures) (both c.in_ok-put_marks.ensures c.in_ok-put_text.ensures)
