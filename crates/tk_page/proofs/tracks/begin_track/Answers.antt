use Rattle.std.proofs.Common.{Option, Some, cond, nat_eq, ap, sym, ◌∙◌}
use Rattle.indexmap.specs.IndexMap.{get}
use Rattle.tk_page.specs.Kept.{told_track}
use Rattle.tk_page.specs.declared.track.Track.{Track}
use Rattle.tk_page.proofs.tracks.begin_track.Goals as goal

pub returns : goal.returns
returns c = λ other.
    c.in_ok-insert.ensures.updates.0 other
    ∙ ap (λ (k : Option Track). cond (nat_eq c.args.id other) k (get nat_eq c.args.tasks.now other))
    (ap Some c.in_ok-track.ensures ∙ ap (told_track c.args.moments.now c.args.now (Some c.args.row.now)) (sym c.requires))
