use Rattle.tk_screen.proofs.PutLemmas.{both}
use Rattle.tk_frame.proofs.pages.put_places.Goals as goal

pub returns : goal.returns
returns c = both c.in_ok-put_place_counts.ensures c.in_ok-put_from.ensures
