use Rattle.std.proofs.Common.{◌≡◌, ◌∷◌, [], ℕ, length, ap, sym, ◌∙◌, arith}
use Rattle.std.proofs.lemmas.List.{length-append}
use Rattle.tk_stream.specs.Fronts.{ToldView, as_told, with_rows, counts_at}
use Rattle.tk_stream.specs.Polls.{counted, one_more}
use Rattle.tk_stream.specs.Tables.{TablesView, PollCounts, changed_at, counts_id, put_item}
use Rattle.tk_aggregator.proofs.ReadingLemmas.{with_rows-more}
use Rattle.tk_aggregator.proofs.TakeInLemmas.{put_at, put_last, length-changed_at}
use Rattle.tk_aggregator.proofs.ledgered.put_poll.Goals as goal

-- ---- where the resource has counts

pub returns-in-Some-clause-ok : goal.returns-in-Some-clause-ok
returns-in-Some-clause-ok c =
    let row = c.one_more-ready.result in
    let counts = c.args.tables.now.counts in
    let counts_are : c.set.new.table ≡ counted c.args.resource c.args.ready counts =
    c.set.ensures.table ∙ ap (λ (t : TablesView). changed_at (λ x. counts_at x row) t.counts c.in-Some.place) c.tables.view_is
    ∙ put_at c.args.resource row counts c.in-Some.place (sym c.counts_place.ensures ∙ c.in-Some.is)
    ∙ ap (λ (r : ℕ × ℕ). put_item counts_id (c.args.resource, r.0, r.1) counts) (c.one_more-ready.ensures ∙ ap (λ (r : ℕ × ℕ). one_more c.args.ready r) c.poll_counts.ensures) in
    λ i. record (c.tables.view_is i) { counts = counts_are i }

pub returns-in-Some-clause-room : goal.returns-in-Some-clause-room
returns-in-Some-clause-room c =
    omega (
      arith,
      ap length c.set.ensures.table,
      length-changed_at (λ (x : PollCounts). counts_at x c.one_more-ready.result) c.tables.inside.counts c.in-Some.place,
      ap (λ (t : TablesView). length t.counts) c.tables.view_is,
      c.requires.near,
      c.set.ensures.room,
      ap (λ (t : ToldView). t.counts.room) c.told.view_is,
    )

pub returns-in-Some-clause-fit : goal.returns-in-Some-clause-fit
returns-in-Some-clause-fit c =
    omega (
      arith,
      ap length c.set.ensures.table,
      length-changed_at (λ (x : PollCounts). counts_at x c.one_more-ready.result) c.tables.inside.counts c.in-Some.place,
      ap (λ (t : TablesView). length t.counts) c.tables.view_is,
      c.requires.fits,
      c.set.ensures.count,
      ap (λ (t : ToldView). length t.counts.rows) c.told.view_is,
    )

-- ---- where it has none

pub returns-in_ok-set_counts-in-None-clause-room : goal.returns-in_ok-set_counts-in-None-clause-room
returns-in_ok-set_counts-in-None-clause-room c =
    let new : PollCounts = (c.args.resource, c.one_more-ready.result.0, c.one_more-ready.result.1) in
    let counts = c.args.tables.now.counts in
    omega (arith, ap (λ (t : TablesView). length t.counts) c.in_ok-set_counts-in-None.ensures.ok, ap length (put_last new counts (sym c.counts_place.ensures ∙ c.in-None.is)), length-append counts (new ∷ []), c.counted.ensures, c.in_ok-make_room-in-None.ensures.room)

pub returns-in_ok-set_counts-in-None-clause-fit : goal.returns-in_ok-set_counts-in-None-clause-fit
returns-in_ok-set_counts-in-None-clause-fit c =
    let new : PollCounts = (c.args.resource, c.one_more-ready.result.0, c.one_more-ready.result.1) in
    let counts = c.args.tables.now.counts in
    omega (
      arith,
      ap (λ (t : TablesView). length t.counts) c.in_ok-set_counts-in-None.ensures.ok,
      ap length (put_last new counts (sym c.counts_place.ensures ∙ c.in-None.is)),
      length-append counts (new ∷ []),
      c.requires.fits,
      ap length c.make_room.ensures.rows,
      ap (λ (t : ToldView). length t.counts.rows) c.told.view_is,
    )

pub returns-in_ok-set_counts-in-None-clause-told : goal.returns-in_ok-set_counts-in-None-clause-told
returns-in_ok-set_counts-in-None-clause-told c =
    let new : PollCounts = (c.args.resource, c.one_more-ready.result.0, c.one_more-ready.result.1) in
    let counts = c.args.tables.now.counts in
    let rows = c.args.told.now.counts.rows in
    ap (λ rs. with_rows (as_told counts_at) c.set_counts.new.self.counts rs) (c.make_room.ensures.rows ∙ ap (λ (t : ToldView). t.counts.rows) c.told.view_is)
    ∙ ap (λ (t : TablesView). with_rows (as_told counts_at) t.counts rows) c.in_ok-set_counts-in-None.ensures.ok
    ∙ ap (λ xs. with_rows (as_told counts_at) xs rows) (put_last new counts (sym c.counts_place.ensures ∙ c.in-None.is))
    ∙ with_rows-more (as_told counts_at) counts (new ∷ []) rows c.requires.fits
