-- A line that is published: from what an interpreter stood for to what it stands for.
use Rattle.std.proofs.Common.{◌≡◌, ℕ, Bool, List, [], ◌∷◌, ◌++◌, length, take, None, refl, sym, ap, ◌∙◌, subst}
use Rattle.std.specs.Prelude.{map}
use Rattle.std.specs.List.{AllByRecursion, items_where_true}
use Rattle.std.proofs.lemmas.List.{map-append}
use Rattle.tk_events.specs.Handles.{Recording, Taking}
use Rattle.tk_events.specs.declared.item.Offer.{Offer}
use Rattle.tk_ledgers.specs.Ops.{OpSight}
use Rattle.tk_ledgers.specs.Resources.{ResourceSight}
use Rattle.tk_ledgers.specs.Tasks.{TaskSight}
use Rattle.tk_ledgers.specs.Times.{TimesSight}
use Rattle.tk_stream.specs.Streams.{Sending, MaySend}
use Rattle.tk_aggregator.specs.Aggregates.{Aggregating, TookMore, IsSound, dropped_in, after_line, sending_at}
use Rattle.tk_aggregator.specs.Beside.{KnowsAllTaken, StaysRecorder}
use Rattle.tk_aggregator.specs.Contents.{Content}
use Rattle.tk_script.specs.Commands.{publish}
use Rattle.tk_script.specs.declared.settings.Settings.{Settings}
use Rattle.tk_live.specs.Course.{Course, due_at, step}
use Rattle.tk_live.specs.Ran.{dropped_of, kept_between, lost_first}
use Rattle.tk_live.specs.Read.{CollectsAll, MayRead, AreItemsRead}
use Rattle.tk_live.specs.Runs.{HaveTimes, Represents, IsTaskLedger, IsTimesLedger, IsResourceLedger, IsOpLedger, OffersLedger, AreLinked, offer_content, recorded_by}
use Rattle.tk_live.specs.declared.interpreter.Interpreter.{Interpreter}
use Rattle.tk_live.proofs.Between.{kept_after, kept_all}
use Rattle.tk_live.proofs.ItemsRead.{are_called, are_polled, dropped_stays, held_stays, infos_stay, still_holds, still_linked, stream_stays, times_stay}
use Rattle.tk_live.proofs.Leaving.{recorded_push, rise_push}
use Rattle.tk_live.proofs.Linking.{AreReaders, gathered_readers}
use Rattle.tk_live.proofs.Offers.{dropped_all, offered_still}
use Rattle.tk_live.proofs.Publishing.{HasGathered, came_line, gathered, readers_stay, still_gathered, told_line, told_totals, took_all, took_more}

module _ (i : Interpreter) (settings : Settings) (c : Course) (kept : List Bool) (sent : List Sending) (stands : Represents i settings c kept sent) (a : Aggregating) (u : Taking) (took : TookMore i.taker u) (all : CollectsAll i.recorder i.aggregator i.taker a u) where
  -- all was taken that was kept
  took_kept : u.taken ≡ i.recorder.kept
  took_kept = took_all i.recorder settings.capacity _ c.told kept stands.offered i.taker u stands.takes took all.named all.all

  same_taken : all.taker.taken ≡ i.recorder.kept
  same_taken = sym (ap (λ (x : Taking). x.taken) all.totals.same) ∙ took_kept

  none_held : all.gathered.held ≡ None
  none_held = sym (ap (λ (x : Aggregating). x.held) all.now) ∙ all.none_held

  abbrev since : List Content
  since = kept_between kept c.told (recorded_by 0 c.due) (length c.told)

  pub collected : HasGathered a settings c.now (length c.due) sent since
  collected =
      let told : map offer_content i.taker.taken ++ map offer_content all.gathers.offers ≡ items_where_true kept c.told =
      sym (map-append offer_content i.taker.taken all.gathers.offers) ∙ (ap (map offer_content) (sym (ap (λ (x : Taking). x.taken) all.gathers.taker) ∙ same_taken) ∙ stands.offered.picks) in
      let came : map offer_content all.gathers.offers ≡ since = kept_after (recorded_by 0 c.due) kept c.told (map offer_content all.gathers.offers) (map offer_content i.taker.taken) stands.came.one_each stands.taken told in
      subst (λ (x : Aggregating). HasGathered x settings c.now (length c.due) sent since) (sym all.now)
      (told_totals all.gathered (dropped_in u.last) settings c.now (length c.due) sent since
      (gathered i.aggregator all.gathered i.taker all.taker all.taken settings c.now (length c.due) sent since stands.has_told all.gathers none_held came (λ timed. subst HaveTimes (sym same_taken) (stands.timed timed))))

  -- the totals are those of what was lost
  totals_told : a.tables.dropped ≡ dropped_of (lost_first kept c.told (length c.told))
  totals_told =
      ap (λ (x : Aggregating). x.tables.dropped) all.now ∙ (ap dropped_in (all.exact stands.takes.recorders)
      ∙ dropped_all i.recorder settings.capacity _ c.told kept stands.offered stands.came.one_each)

  -- the items may be read
  module _ (sound : IsSound i.aggregator) (later : IsSound a) where
    readers : AreReaders i.tasks.items i.resources.items i.ops.items a
    readers =
        let now : IsSound (record all.gathered { tables = record all.gathered.tables { dropped = dropped_in u.last } }) = subst (λ (x : Aggregating). IsSound x) all.now later in
        subst (λ (x : Aggregating). AreReaders i.tasks.items i.resources.items i.ops.items x) (sym all.now)
        (gathered_readers i.tasks.items i.resources.items i.ops.items i.aggregator all.gathered i.taker all.taker all.taken all.gathers stands.has_told.none_held sound now.tasks now.resources now.ops now.times
        (subst (λ (os : List Offer). AllByRecursion (λ (o : Offer). OffersLedger i.tasks.items i.resources.items i.ops.items o.event) os) (sym same_taken) stands.linked.offers) (stands.linked.task_readers, stands.linked.resource_readers, stands.linked.op_readers, stands.linked.times_readers))

    pub may_read : (r : Recording) → MayRead (record i { recorder = r; taker = u; aggregator = a })
    may_read r = record { pasts = c.pasts; holds = stands.holds; tasks = readers.0; resources = readers.1; ops = readers.2; times = readers.3 }

  -- all items were read, and a line was sent
  module _ (r : Recording) (stays : StaysRecorder i.recorder r) (knows : KnowsAllTaken r) (m : Interpreter) (read : AreItemsRead (record i { recorder = r; taker = u; aggregator = a }) m) where
    pub now_gathered : HasGathered m.aggregator settings c.now (length c.due) sent since
    now_gathered = still_gathered a m.aggregator settings c.now (length c.due) sent since
        (stream_stays (record i { recorder = r; taker = u; aggregator = a }) m read) (infos_stay (record i { recorder = r; taker = u; aggregator = a }) m read) (held_stays (record i { recorder = r; taker = u; aggregator = a }) m read) (times_stay (record i { recorder = r; taker = u; aggregator = a }) m read) collected

    module _ (line now : ℕ) (whole : Bool) (sound : IsSound m.aggregator) (may : MaySend m.aggregator.told (sending_at whole m.aggregator now)) (later : IsSound (after_line whole m.aggregator now)) where
      now_linked : AreLinked m.tasks.items m.resources.items m.ops.items i.recorder.kept (after_line whole m.aggregator now)
      now_linked =
          let linked = still_linked (record i { recorder = r; taker = u; aggregator = a }) m read i.recorder.kept stands.linked.offers in
          let readers = readers_stay (λ (s : TaskSight). IsTaskLedger m.tasks.items s.id s.token.ledger) (λ (s : ResourceSight). IsResourceLedger m.resources.items s.id s.token.ledger) (λ (s : OpSight). IsOpLedger m.ops.items s.id s.token.ledger)
          (λ (s : TimesSight). IsTimesLedger m.tasks.items s.id s.token.ledger) whole m.aggregator now (linked.task_readers, linked.resource_readers, linked.op_readers, linked.times_readers) in
          record { offers = linked.offers; task_readers = readers.0; times_readers = readers.3; resource_readers = readers.1; op_readers = readers.2 }

      after_is : (z : Aggregating) → z ≡ after_line whole m.aggregator now → record m { aggregator = z } ≡ record i { recorder = record i.recorder { gone = r.gone }; taker = u; aggregator = after_line whole m.aggregator now; tasks = m.tasks; resources = m.resources; ops = m.ops }
      after_is z is =
          ap (λ (x : Interpreter). record x { aggregator = z }) read.rest
          ∙ (λ j. record i { recorder = stays j; taker = u; aggregator = is j; tasks = m.tasks; resources = m.resources; ops = m.ops })

      pub published : (z : Aggregating) → z ≡ after_line whole m.aggregator now → Represents (record m { aggregator = z }) settings (step c line (publish now whole)) kept (sent ++ sending_at whole m.aggregator now ∷ [])
      published z is = subst (λ (x : Interpreter). Represents x settings (step c line (publish now whole)) kept (sent ++ sending_at whole m.aggregator now ∷ [])) (sym (after_is z is)) (record {
        came = came_line m.aggregator settings c kept sent now whole now_gathered sound may later stands.came (are_called (record i { recorder = r; taker = u; aggregator = a }) m read c.pasts stands.holds sound)
            (are_polled (record i { recorder = r; taker = u; aggregator = a }) m read c.pasts stands.holds sound) (dropped_stays (record i { recorder = r; taker = u; aggregator = a }) m read ∙ totals_told);
        rise = rise_push (length c.told) 0 c.due (due_at c now whole) refl stands.rise;
        offered = offered_still i.recorder r.gone settings.capacity _ c.told kept stands.offered;
        takes = let t = took_more i.recorder i.taker u stands.takes took in record { console = t.console; recorders = t.recorders; unfinished = t.unfinished; known = t.known };
        taken = ap (map offer_content) took_kept ∙ (stands.offered.picks ∙ (sym (kept_all kept c.told stands.came.one_each)
            ∙ (λ k. items_where_true (take (sym (recorded_push 0 c.due (due_at c now whole)) k) kept) (take (sym (recorded_push 0 c.due (due_at c now whole)) k) c.told))));
        gone = knows ∙ (ap (λ (x : Recording). length x.kept) stays ∙ ap length (sym took_kept));
        has_told = told_line m.aggregator settings c kept sent now whole now_gathered sound may later;
        timed = stands.timed;
        holds = still_holds (record i { recorder = r; taker = u; aggregator = a }) m read c.pasts stands.holds;
        linked = now_linked;
        polled = stands.polled;
        capacity_said = stands.capacity_said;
        retention_said = stands.retention_said;
        times_said = stands.times_said;
        waits_said = stands.waits_said;
        begun = stands.begun;
        times_is = stands.times_is;
      })
