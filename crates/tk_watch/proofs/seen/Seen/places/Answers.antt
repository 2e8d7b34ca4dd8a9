use Rattle.std.proofs.Common.{◌≡◌, ap, ◌∙◌}
use Rattle.tk_odd.specs.Diagnosis.{standing_of}
use Rattle.tk_odd.specs.declared.limits.Limits.{Limits}
use Rattle.tk_frame.specs.Places.{places_in}
use Rattle.tk_sites.specs.Sites.{sites_until}
use Rattle.tk_watch.specs.Recent.{limits_of}
use Rattle.tk_watch.proofs.seen.Seen.places.Goals as goal

pub returns : goal.returns
returns c = λ lints shown s.
    let held_is : c.held.result.now ≡ (standing_of (limits_of lints) shown).places.0 =
    c.held.ensures shown s.follows ∙ ap (λ (l : Limits). (standing_of l shown).places.0) s.limits in
    c.in_ok-places.ensures
    ∙ ap (λ sites. places_in sites c.held.result.now) (c.in_ok-sites.ensures shown s.sites)
    ∙ ap (places_in (sites_until shown c.args.tables.now)) held_is
