use Rattle.std.proofs.lemmas.Result.{err_from_is_err_and}
use Rattle.tk_until.proofs.LeftLemmas.{kept_left, passes, reads_held}
use Rattle.tk_until.proofs.until.UntilRead.read.Goals as goal

pub returns-in_default-clause-bytes : goal.returns-in_default-clause-bytes
returns-in_default-clause-bytes g c =
    passes c.args.self.now.until c.args.self.now.held c.args.self.now.held (g.R.Read.remaining c.args.self.now.reader) (g.R.Read.remaining c.read.new.self) c.read.result c.read.new.buf
    c.in_default.is c.read.ensures.bytes

pub returns-in_err-ready-clause-bytes : goal.returns-in_err-ready-clause-bytes
returns-in_err-ready-clause-bytes g c =
    let p = err_from_is_err_and c.from_residual.result c.from_residual.ensures.1 in
    rw (p.1) (kept_left c.args.self.now.until c.in-Some.until c.args.self.now.held c.ready.new.self c.ready.new.self (g.R.Read.remaining c.args.self.now.reader) (g.R.Read.remaining c.ready.new.reader)
    c.in-Some.is c.in_err-ready.ensures.keeps)

pub returns-clause-bytes : goal.returns-clause-bytes
returns-clause-bytes g c =
    reads_held c.args.self.now.until c.in-Some.until c.args.self.now.held c.ready.new.self c.give.new.self (g.R.Read.remaining c.args.self.now.reader) (g.R.Read.remaining c.ready.new.reader)
    c.in-Some.is c.in_ok-ready.ensures.keeps c.give.result c.give.new.buf c.in_ok-ready.ensures.end c.give.ensures.bytes c.give.ensures.rest c.give.ensures.none
