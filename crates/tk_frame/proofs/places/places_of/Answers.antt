use Rattle.std.proofs.Common.{◌≤◌, [], ◌∙◌, ap, length, sym, slice_get, arith}
use Rattle.std.specs.Prelude.{fold}
use Rattle.std.specs.Option.{option_map_or}
use Rattle.std.proofs.lemmas.List.{take_all}
use Rattle.tk_sites.specs.Lines.{more_site}
use Rattle.tk_frame.specs.Places.{numbered_from, place_at, put_in}
use Rattle.tk_frame.proofs.PlaceLemmas.{place_more, place_rest}
use Rattle.tk_frame.proofs.places.places_of.Goals as goal

pub loop-i-preserved : goal.loop-i-preserved
loop-i-preserved c =
    let sites = c.args.sites.now.first in
    let held = c.args.held.now in
    let i = c.loop-i.i in
    c.in_ok-put_at.ensures
    ∙ ap (λ ps. option_map_or (λ x. put_in ps (place_at held i x)) (slice_get sites i) ps) c.loop-i.invariant
    ∙ sym (place_more held sites i)

pub returns : goal.returns
returns c =
    let sites = c.args.sites.now in
    let held = c.args.held.now in
    let count = c.len-i-end.ensures.len in
    let past = c.loop-i-test.false in
    let all : length sites.first ≤ c.loop-i.i = omega arith in
    c.in_ok-put_more.ensures
    ∙ ap (λ ps. option_map_or (λ s. put_in ps (place_at held (length sites.first) (more_site, s))) sites.rest ps)
    (c.loop-i.invariant ∙ ap (λ xs. fold put_in [] (numbered_from held 0 xs)) (take_all c.loop-i.i sites.first all))
    ∙ place_rest held sites
