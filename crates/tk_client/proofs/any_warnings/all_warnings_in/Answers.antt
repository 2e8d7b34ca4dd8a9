use Rattle.std.proofs.Common.{ap, sym, ◌∙◌, ◌++◌, slice_get, []}
use Rattle.std.specs.Option.{option_map_or}
use Rattle.tk_client.specs.AnyWarnings.{all_warnings_of}
use Rattle.tk_client.proofs.WarnLemmas.{flat_map-at}
use Rattle.tk_client.proofs.any_warnings.all_warnings_in.Goals as goal

pub loop-place-preserved : goal.loop-place-preserved
loop-place-preserved c =
    let f = all_warnings_of c.args.lints.now c.args.limits.now c.args.tables.now.now c.args.times.now in
    c.in_ok-warn_of_all_at.ensures
    ∙ ap (λ xs. xs ++ option_map_or f (slice_get c.args.tables.now.tasks c.loop-place.place) []) c.loop-place.invariant
    ∙ sym (flat_map-at f c.args.tables.now.tasks c.loop-place.place)
