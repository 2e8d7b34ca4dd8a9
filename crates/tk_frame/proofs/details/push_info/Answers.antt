use Rattle.tk_screen.proofs.PutLemmas.{both}
use Rattle.tk_frame.proofs.details.push_info.Goals as goal

pub returns : goal.returns
returns c = rw (← c.as_str.ensures.text, ← c.kind_word.ensures, ← c.task_state.ensures)
    (both c.in_ok-push_title.ensures
    (both c.in_ok-push_text.ensures
    (both c.in_ok-push_text-2.ensures
    (both c.in_ok-push_location.ensures
    c.in_ok-push_text-3.ensures))))
