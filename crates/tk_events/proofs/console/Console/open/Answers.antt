use Rattle.std.proofs.Common.{◌≡◌, ℕ, ◌*◌, ap, sym, ◌∙◌, subst}
use Rattle.std.specs.List.{All}
use Rattle.std.specs.Arc.{arc_value}
use Rattle.std.proofs.lemmas.List.Elements.{All-same}
use Rattle.crossbeam_queue.specs.Passes.{ruled_capacity}
use Rattle.tk_events.specs.Handles.{Place, place, Taking, Recording, new_recordings}
use Rattle.tk_events.specs.Parts.{totals_of}
use Rattle.atomic_table.specs.Table.{Me}
use Rattle.tk_events.specs.declared.counts.view.View.{View as Count}
use Rattle.tk_events.proofs.DropLemmas.{unread}
use Rattle.tk_events.proofs.AloneLemmas.{own_console}
use Rattle.tk_events.proofs.console.Console.open.Goals as goal

pub returns-clause-own : goal.returns-clause-own
returns-clause-own c =
    let buffer = arc_value c.in_ok-buffer.buffer in
    let console = place buffer.table.shared.table_id (arc_value c.in_ok-counts.counts).shared.table_id in
    let limits = c.args.limits in
    let items = c.in_ok-all.all.items in
    let all : All (λ (r : Recording). r.console ≡ console) items =
    All-same (λ (r : Recording). r.console ≡ console) items (new_recordings console (ruled_capacity buffer) limits.recorders limits.offers limits.recorders) c.in_ok-all.ensures.new
    (own_console console (ruled_capacity buffer) limits.recorders limits.offers limits.recorders) in
    subst (λ (t : Place). All (λ (r : Recording). r.console ≡ t) items) (sym (ap (λ (t : Taking). t.console) c.of-taker.ensures)) all

pub of-taker-requires-clause-unread : goal.of-taker-requires-clause-unread
of-taker-requires-clause-unread c =
    let n = c.args.limits.recorders in
    ap (λ (m : Me ℕ Count). totals_of n m.0.seen) c.in_ok-all.ensures.seat.1 ∙ unread n (3 * n)
