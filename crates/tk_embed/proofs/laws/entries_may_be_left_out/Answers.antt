use Rattle.tk_embed.proofs.LeftOutLemmas.{same_line, same_gone_line}
use Rattle.tk_embed.proofs.laws.entries_may_be_left_out.Goals as goal

pub returns : goal.returns
returns c = record { changes = same_line; leaving = same_gone_line }
