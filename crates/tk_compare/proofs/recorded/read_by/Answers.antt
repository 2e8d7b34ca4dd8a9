use Rattle.std.proofs.Common.{◌≡◌, [], true, is_some, refl, subst, sym}
use Rattle.tk_sites.specs.Inner.{FollowsTimes}
use Rattle.tk_sites.proofs.TimedLemmas.{is_shown}
use Rattle.tk_compare.proofs.RecordedLemmas.{records_all}
use Rattle.tk_compare.proofs.recorded.read_by.Goals as goal

pub read_stream-requires-clause-observer : goal.read_stream-requires-clause-observer
read_stream-requires-clause-observer g c =
    let timed = c.args.watched.now.first.second in
    let shown : is_some timed.changes ≡ true = is_shown true timed c.requires.times in
    ((c.requires.sites, subst (λ b. FollowsTimes b [] timed) (sym shown) c.requires.times), (c.requires.findings, refl))

pub returns-in-Ok : goal.returns-in-Ok
returns-in-Ok g c =
    let it = c.read_stream.new.observer in
    let timed = c.args.watched.now.first.second in
    let shown : is_some timed.changes ≡ true = is_shown true timed c.requires.times in
    records_all c.in_ok-read_stream.ensures c.args.watched.now.second.limits it.first.first it.first.second it.second c.in-Ok.recorded
    (λ seen h. (h.0.0, subst (λ b. FollowsTimes b seen it.first.second) shown h.0.1, h.1.0, h.1.1)) c.in-Ok.ensures.span c.in-Ok.ensures.sites c.in-Ok.ensures.times c.in-Ok.ensures.held c.in-Ok.ensures.findings
