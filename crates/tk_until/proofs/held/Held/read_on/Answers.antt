use Rattle.std.proofs.Common.{Some, ◌∙◌}
use Rattle.std.proofs.KnownBytes.{Keeps-trans}
use Rattle.tk_until.specs.Held.{left_until}
use Rattle.tk_until.proofs.LeftLemmas.{added, added_len, same_left, unread}
use Rattle.tk_until.proofs.held.Held.read_on.Goals as goal

pub returns-in_err-count-clause-keeps : goal.returns-in_err-count-clause-keeps
returns-in_err-count-clause-keeps g c =
    unread c.args.until c.args.self.now c.fill.new.self (g.R.Read.remaining c.args.reader.now) (g.R.Read.remaining c.fill.new.reader) c.in_err-count.ensures.same c.in_err-count.ensures.err

pub returns-in_err-judge-clause-keeps : goal.returns-in_err-judge-clause-keeps
returns-in_err-judge-clause-keeps g c =
    let a = g.R.Read.remaining c.args.reader.now in
    let b = g.R.Read.remaining c.fill.new.reader in
    Keeps-trans (left_until (Some c.args.until) c.args.self.now a) (left_until (Some c.args.until) c.fill.new.self b) (left_until (Some c.args.until) c.judge.new.self b)
    (added c.args.until c.in_ok-count.count c.args.self.now c.fill.new.self a b c.in_ok-count.ensures.adds)
    (same_left c.args.until c.fill.new.self c.judge.new.self b c.in_err-judge.ensures.same)

pub returns-clause-keeps : goal.returns-clause-keeps
returns-clause-keeps g c =
    let a = g.R.Read.remaining c.args.reader.now in
    let b = g.R.Read.remaining c.fill.new.reader in
    Keeps-trans (left_until (Some c.args.until) c.args.self.now a) (left_until (Some c.args.until) c.fill.new.self b) (left_until (Some c.args.until) c.judge.new.self b)
    (added c.args.until c.in_ok-count.count c.args.self.now c.fill.new.self a b c.in_ok-count.ensures.adds)
    (same_left c.args.until c.fill.new.self c.judge.new.self b c.in_ok-judge.ensures.same)

pub returns-clause-grows : goal.returns-clause-grows
returns-clause-grows g c =
    c.in_ok-judge.ensures.len
    ∙ added_len c.in_ok-count.count c.args.self.now c.fill.new.self (g.R.Read.remaining c.args.reader.now) (g.R.Read.remaining c.fill.new.reader) c.in_ok-count.ensures.adds
