use Rattle.std.proofs.Common.{◌≡◌, [], is_some, sym, subst}
use Rattle.std.proofs.lemmas.Result.{err_from_is_err_and}
use Rattle.tk_sites.specs.Inner.{FollowsTimes}
use Rattle.tk_sites.proofs.SpanViewLemmas.{keeps_all, keeps_none}
use Rattle.tk_sites.proofs.TimedLemmas.{is_shown}
use Rattle.tk_sites.proofs.places_then.read_by.Goals as goal

pub read_stream-requires-clause-observer : goal.read_stream-requires-clause-observer
read_stream-requires-clause-observer g c =
    let seen = c.args.seen.now in
    let shown : is_some seen.second.changes ≡ c.args.times = is_shown c.args.times seen.second c.requires.times in
    (c.requires.sites, subst (λ b. FollowsTimes b [] seen.second) (sym shown) c.requires.times)

pub returns-in-Ok : goal.returns-in-Ok
returns-in-Ok g c =
    let seen = c.args.seen.now in
    let shown : is_some seen.second.changes ≡ c.args.times = is_shown c.args.times seen.second c.requires.times in
    keeps_all seen c.args.times shown (g.R.Read.remaining c.args.reader.now) (g.R.Read.remaining c.read_stream.new.reader) c.read_stream.new.client c.read_stream.new.observer
    c.in_ok-read_stream.ensures c.in-Ok.old c.in-Ok.ensures.moment c.in-Ok.ensures.sites c.in-Ok.ensures.times
