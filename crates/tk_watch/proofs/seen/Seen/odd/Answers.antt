use Rattle.std.proofs.Common.{ap, map, option_map, ◌∙◌}
use Rattle.tk_frame.specs.Places.{recent_since, row_of}
use Rattle.tk_watch.specs.Course.{span_to}
use Rattle.tk_watch.specs.Recent.{last_old}
use Rattle.tk_watch.proofs.OddLemmas.{odd_is, recent_is}
use Rattle.tk_watch.proofs.seen.Seen.odd.Goals as goal

pub returns : goal.returns
returns c = λ lints shown s.
    let seen = c.args.self.now in
    let tables = c.args.tables.now in
    let placed = c.in_ok-places.ensures lints shown s in
    let rows = map row_of c.as_slice.result.now in
    c.new.ensures
    ∙ odd_is lints shown seen tables _ _ _ _ _ _ s (c.in_ok-findings.ensures shown s.follows) placed
    (c.in_ok-recent.ensures
    ∙ ap (λ now. option_map (λ e. recent_since e now rows) (last_old now seen.notes.list.items)) c.now-now.ensures
    ∙ recent_is lints shown seen tables.now rows _ s (ap (map row_of) c.as_slice.ensures.value ∙ placed))
    (c.in_ok-waits.ensures.items ∙ c.as_slice-2.ensures.value) c.again-again.ensures
    (c.span_to-span.ensures ∙ ap (λ now. span_to now seen.first) c.now-now.ensures)
