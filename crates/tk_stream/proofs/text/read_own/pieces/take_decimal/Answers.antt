use Rattle.tk_stream.proofs.Pieces.{first_taken, zero_taken, first_one}
use Rattle.tk_stream.proofs.text.read_own.pieces.take_decimal.Goals as goal

pub returns-then-first-eq0 : goal.returns-then-first-eq0
returns-then-first-eq0 c =
    zero_taken c.args.bytes.now _ _ c.in_ok-first.first (first_one c.args.bytes.now c.in-len1-up.len_at_least) c.in_ok-first.ensures.digit c.in_ok-first.ensures.small c.if-first-eq0.true

pub returns : goal.returns
returns c =
    first_taken c.args.bytes.now _ _ _ c.in_ok-first.first _ (first_one c.args.bytes.now c.in-len1-up.len_at_least) c.in_ok-first.ensures.digit c.in_ok-first.ensures.small c.in_ok-n.ensures
