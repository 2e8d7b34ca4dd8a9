use Rattle.std.proofs.Common.{Some}
use Rattle.std.proofs.KnownBytes.{Keeps-trans}
use Rattle.tk_until.specs.Held.{left_until}
use Rattle.tk_until.proofs.LeftLemmas.{after_later, at_end, same_left}
use Rattle.tk_until.proofs.held.Held.ready.Goals as goal

pub returns-in_err-judge-clause-keeps : goal.returns-in_err-judge-clause-keeps
returns-in_err-judge-clause-keeps g c =
    same_left c.args.until c.args.self.now c.judge.new.self (g.R.Read.remaining c.args.reader.now) c.in_err-judge.ensures.same

pub reads-init : goal.reads-init
reads-init g c = record {
  keeps = same_left c.args.until c.args.self.now c.judge.new.self (g.R.Read.remaining c.args.reader.now) c.in_ok-judge.ensures.same;
  all = c.in_ok-judge.ensures.all;
}

pub reads-preserved : goal.reads-preserved
reads-preserved g c = record {
  keeps = Keeps-trans (left_until (Some c.args.until) c.args.self.now (g.R.Read.remaining c.args.reader.now))
      (left_until (Some c.args.until) c.reads.self (g.R.Read.remaining c.reads.reader))
      (left_until (Some c.args.until) c.read_on.new.self (g.R.Read.remaining c.read_on.new.reader)) c.reads.invariant.keeps c.in_ok-count.ensures.keeps;
  all = c.in_ok-count.ensures.all;
}

pub returns-in_err-count-clause-keeps : goal.returns-in_err-count-clause-keeps
returns-in_err-count-clause-keeps g c =
    Keeps-trans (left_until (Some c.args.until) c.args.self.now (g.R.Read.remaining c.args.reader.now))
    (left_until (Some c.args.until) c.reads.self (g.R.Read.remaining c.reads.reader))
    (left_until (Some c.args.until) c.read_on.new.self (g.R.Read.remaining c.read_on.new.reader)) c.reads.invariant.keeps c.in_err-count.ensures.keeps

pub returns-then-count-eq0-clause-keeps : goal.returns-then-count-eq0-clause-keeps
returns-then-count-eq0-clause-keeps g c =
    Keeps-trans (left_until (Some c.args.until) c.args.self.now (g.R.Read.remaining c.args.reader.now))
    (left_until (Some c.args.until) c.reads.self (g.R.Read.remaining c.reads.reader))
    (left_until (Some c.args.until) c.read_on.new.self (g.R.Read.remaining c.read_on.new.reader)) c.reads.invariant.keeps c.in_ok-count.ensures.keeps

pub returns-then-count-eq0-clause-end : goal.returns-then-count-eq0-clause-end
returns-then-count-eq0-clause-end g c = λ none.
    at_end c.args.until c.read_on.new.self (g.R.Read.remaining c.read_on.new.reader) none (c.in_ok-count.ensures.end c.if-count-eq0.true) c.in_ok-count.ensures.all

pub returns-clause-end : goal.returns-clause-end
returns-clause-end g c = λ none.
    after_later c.args.until c.reads.self (g.R.Read.remaining c.reads.reader) none (c.waits.ensures.done c.reads-test.false none)
