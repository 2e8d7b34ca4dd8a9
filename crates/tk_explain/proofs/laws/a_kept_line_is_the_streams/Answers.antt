use Rattle.tk_explain.proofs.Found.{found_in_kept}
use Rattle.tk_explain.proofs.laws.a_kept_line_is_the_streams.Goals as goal

pub returns : goal.returns
returns c = found_in_kept
