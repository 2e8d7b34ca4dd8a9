use Rattle.tk_stream.proofs.Decoded.{text_reads}
use Rattle.tk_stream.proofs.laws.lines_read_back.Goals as goal

pub returns : goal.returns
returns c = text_reads
