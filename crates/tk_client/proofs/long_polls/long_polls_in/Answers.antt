use Rattle.std.proofs.Common.{ap, sym, ◌∙◌, ◌++◌, slice_get, []}
use Rattle.std.specs.Option.{option_map_or, option_to_list}
use Rattle.tk_stream.specs.declared.tables.task.Task.{Task}
use Rattle.tk_client.specs.LongPolls.{long_poll_of}
use Rattle.tk_client.proofs.WarnLemmas.{flat_map-at}
use Rattle.tk_client.proofs.long_polls.long_polls_in.Goals as goal

pub loop-place-preserved : goal.loop-place-preserved
loop-place-preserved c =
    let f = λ (t : Task). option_to_list (long_poll_of c.args.limit_ms c.args.tables.now.now c.args.times.now t) in
    c.in_ok-push_long_at.ensures
    ∙ ap (λ xs. xs ++ option_map_or f (slice_get c.args.tables.now.tasks c.loop-place.place) []) c.loop-place.invariant
    ∙ sym (flat_map-at f c.args.tables.now.tasks c.loop-place.place)
