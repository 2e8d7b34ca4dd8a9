use Rattle.std.proofs.Common.{Option, Some, cond, nat_eq, ap, sym, ◌∙◌, true≢false}
use Rattle.std.specs.Cmp.{nat_eq_equiv}
use Rattle.std.proofs.lemmas.Option.{slice_get_within}
use Rattle.indexmap.specs.IndexMap.{get}
use Rattle.indexmap.proofs.CallerLemmas.{updates-with_value_at}
use Rattle.tk_page.specs.Kept.{told_track}
use Rattle.tk_page.specs.declared.track.Track.{Track}
use Rattle.tk_page.proofs.TrackLemmas.{same_track, so_on_ok}
use Rattle.tk_page.proofs.tracks.tell_at.Goals as goal

pub returns-in-Some : goal.returns-in-Some
returns-in-Some c =
    let m = c.args.tasks.now in
    let s = c.requires in
    let is = same_track m.entries c.args.i c.args.id s c.in-Some.track.now c.in-Some.ensures.value in
    let up = updates-with_value_at m c.args.i c.tell.new.self nat_eq_equiv c.get_index_mut.ensures.unique c.args.id s.0 s.1 in
    so_on_ok c.tell.result
    (λ told other.
    up.0 other
    ∙ ap (λ (k : Option Track). cond (nat_eq c.args.id other) k (get nat_eq m other))
    (ap Some told ∙ ap (told_track c.args.moments.now c.args.now (Some c.args.row.now)) (sym is)))
    c.tell.ensures

pub returns-in-None : goal.returns-in-None
returns-in-None c = absurd (true≢false (sym (c.in-None.ensures.found.1 (slice_get_within c.args.tasks.now.entries c.args.i _ c.requires.1))))
