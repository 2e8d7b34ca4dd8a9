use Rattle.tk_screen.proofs.PutLemmas.{both}
use Rattle.tk_frame.proofs.shown.put_asked.Goals as goal

pub returns : goal.returns
returns c = rw (← c.by_word.ensures, ← c.tells_recent.ensures, ← c.sorted_by.ensures, ← c.column_word.ensures, ← c.order_word.ensures)
    (both c.in_ok-put_text.ensures
    (both c.in_ok-put_recent.ensures
    (both c.in_ok-put_text-2.ensures
    (both c.in_ok-put_text-3.ensures
    (both c.in_ok-put_text-4.ensures
    (both c.in_ok-put_filter.ensures
    (both c.in_ok-put_paused.ensures
    (both c.in_ok-put_silent.ensures
    c.in_ok-put_text-5.ensures))))))))
