-- What an interpreter stands for after an offer.
use Rattle.std.proofs.Common.{◌≡◌, ◌≢◌, ℕ, ◌+◌, ◌≤◌, Bool, true, false, List, [], ◌∷◌, ◌++◌, length, Option, Some, None, refl, sym, ap, ◌∙◌, subst, arith, eq-eqb, length-append, true≢false}
use Rattle.std.specs.Prelude.{is_some, take}
use Rattle.std.specs.List.{AllByRecursion, items_where_true}
use Rattle.std.proofs.lemmas.List.{length-map}
use Rattle.std.proofs.lemmas.Bool.{ne_eqb}
use Rattle.atomic_table.specs.Seated.{TableId}
use Rattle.tk_ids.specs.IdBlocks.{last_number}
use Rattle.tk_events.specs.declared.event.Shown.{Shown}
use Rattle.tk_events.specs.declared.event.Shown.TheVariants.{MadeTask, MadeResource, MadeOp, Polled}
use Rattle.tk_events.specs.declared.item.Offer.{Offer}
use Rattle.tk_events.specs.declared.recorder.Recorded.{Recorded}
use Rattle.tk_events.specs.declared.recorder.Recorded.TheVariants.{Kept, DroppedFull}
use Rattle.tk_events.specs.Handles.{Recording, IsSameRecorder, offers_made, next_offer, with_kept, with_refused}
use Rattle.tk_ledgers.specs.Ops.{OpSight}
use Rattle.tk_ledgers.specs.Resources.{ResourceSight}
use Rattle.tk_ledgers.specs.Tasks.{TaskSight}
use Rattle.tk_ledgers.specs.Times.{TimesSight}
use Rattle.tk_stream.specs.Streams.{Sending}
use Rattle.tk_aggregator.specs.Aggregates.{Aggregating}
use Rattle.tk_aggregator.specs.Contents.{Content, content_of}
use Rattle.tk_live.specs.Course.{Course}
use Rattle.tk_live.specs.Items.{Holds}
use Rattle.tk_live.specs.Named.{made_item}
use Rattle.tk_live.specs.Pasts.{Pasts}
use Rattle.tk_live.specs.Runs.{Represents, Numbers, numbers_of, HasTimes, Offered, IsTakerOf, AreLinked, IsTaskLedger, IsTimesLedger, IsResourceLedger, IsOpLedger, OffersLedger, RiseTo, offer_content, recorded_by}
use Rattle.tk_live.specs.Stops.{offer_stop, if_there}
use Rattle.tk_live.specs.declared.interpreter.Interpreter.{Interpreter}
use Rattle.tk_live.specs.declared.items.OpItem.{OpItem}
use Rattle.tk_live.specs.declared.items.ResourceItem.{ResourceItem}
use Rattle.tk_live.specs.declared.items.TaskItem.{TaskItem}
use Rattle.tk_script.specs.declared.settings.Settings.{Settings}
use Rattle.tk_script.specs.declared.stop.Stop.{Stop}
use Rattle.tk_script.specs.declared.stop.Stop.TheVariants.{NoSuchItem, OffersSpent}
use Rattle.tk_live.proofs.Growing.{first_kept, recorded_low, rise_more, tells_more}
use Rattle.tk_live.proofs.Lists.{all_so}
use Rattle.tk_live.proofs.Offers.{one_more, recorded, all_kept, since_line}

-- ---- whether an offer is left

-- offers are left
pub unspent : (r : Recording) (capacity : ℕ) (numbers : Numbers) (c : Course) (kept : List Bool) → Offered r capacity numbers c.told kept → (offers_made r ≡ r.limit → ⊥) → offer_stop c ≡ None
unspent r capacity numbers c kept o left =
    let ne : length c.told ≢ last_number = λ e. left (o.made ∙ (e ∙ sym o.limit)) in
    rw (ne_eqb (length c.told) last_number ne) refl

-- no offer is left
pub spent : (r : Recording) (capacity : ℕ) (numbers : Numbers) (c : Course) (kept : List Bool) → Offered r capacity numbers c.told kept → offers_made r ≡ r.limit → offer_stop c ≡ Some OffersSpent
spent r capacity numbers c kept o e =
    let all : length c.told ≡ last_number = sym o.made ∙ (e ∙ o.limit) in
    rw (eq-eqb (length c.told) last_number all) refl

-- ---- longer lists of items

-- what a number names in a list it names in another
abbrev pub IsLonger : {X : Type 0} → List X → List X → Type 0
IsLonger {X} xs ys = (n : ℕ) (x : X) → made_item n xs ≡ Some x → made_item n ys ≡ Some x

module _ (tasks more_tasks : List TaskItem) (resources more_resources : List ResourceItem) (ops more_ops : List OpItem) (longer : IsLonger tasks more_tasks × IsLonger resources more_resources × IsLonger ops more_ops) where
  task_ledger : (id : ℕ) (ledger : TableId) → IsTaskLedger tasks id ledger → IsTaskLedger more_tasks id ledger
  task_ledger id ledger l = (l.0, l.1, l.2, longer.0 l.0 l.1 l.3, l.4)

  times_ledger : (id : ℕ) (ledger : TableId) → IsTimesLedger tasks id ledger → IsTimesLedger more_tasks id ledger
  times_ledger id ledger l = (l.0, l.1, l.2, longer.0 l.0 l.1 l.3, l.4)

  resource_ledger : (id : ℕ) (ledger : TableId) → IsResourceLedger resources id ledger → IsResourceLedger more_resources id ledger
  resource_ledger id ledger l = (l.0, l.1, l.2, longer.1 l.0 l.1 l.3, l.4)

  op_ledger : (id : ℕ) (ledger : TableId) → IsOpLedger ops id ledger → IsOpLedger more_ops id ledger
  op_ledger id ledger l = (l.0, l.1, l.2, longer.2 l.0 l.1 l.3, l.4)

  offers_ledger : (event : Shown) → OffersLedger tasks resources ops event → OffersLedger more_tasks more_resources more_ops event
  offers_ledger (MadeTask info ledger caller times) l = (task_ledger info.id ledger l.0, λ histogram of. times_ledger info.id histogram (l.1 histogram of))
  offers_ledger (MadeResource info ledger caller) l = resource_ledger info.id ledger l
  offers_ledger (MadeOp info ledger caller) l = op_ledger info.id ledger l
  offers_ledger (Polled op) l = tt

  -- what was linked is so, and the new offer is
  linked_more : (r new : Recording) (event : Shown) (became : Recorded) (a : Aggregating) → (became ≡ Kept → new ≡ with_kept r (next_offer r event)) → (became ≡ DroppedFull → new ≡ with_refused r (next_offer r event))
      → OffersLedger more_tasks more_resources more_ops event → AreLinked tasks resources ops r.kept a → AreLinked more_tasks more_resources more_ops new.kept a
  linked_more r new event became a keeps drops one linked = record {
    offers = all_kept (λ (o : Offer). OffersLedger more_tasks more_resources more_ops o.event) r new event became keeps drops one
        (all_so (λ (o : Offer). OffersLedger tasks resources ops o.event) (λ (o : Offer). OffersLedger more_tasks more_resources more_ops o.event) (λ (o : Offer). offers_ledger o.event) r.kept linked.offers);
    task_readers = all_so (λ (s : TaskSight). IsTaskLedger tasks s.id s.token.ledger) (λ (s : TaskSight). IsTaskLedger more_tasks s.id s.token.ledger) (λ (s : TaskSight). task_ledger s.id s.token.ledger) a.tasks linked.task_readers;
    times_readers = all_so (λ (s : TimesSight). IsTimesLedger tasks s.id s.token.ledger) (λ (s : TimesSight). IsTimesLedger more_tasks s.id s.token.ledger) (λ (s : TimesSight). times_ledger s.id s.token.ledger) a.timing.readers linked.times_readers;
    resource_readers = all_so (λ (s : ResourceSight). IsResourceLedger resources s.id s.token.ledger) (λ (s : ResourceSight). IsResourceLedger more_resources s.id s.token.ledger) (λ (s : ResourceSight). resource_ledger s.id s.token.ledger) a.resources linked.resource_readers;
    op_readers = all_so (λ (s : OpSight). IsOpLedger ops s.id s.token.ledger) (λ (s : OpSight). IsOpLedger more_ops s.id s.token.ledger) (λ (s : OpSight). op_ledger s.id s.token.ledger) a.ops linked.op_readers;
  }

-- ---- one offer more

-- a recorder knows what it knew of what was taken
knows_still : (r new : Recording) (event : Shown) (became : Recorded) → (became ≡ Kept → new ≡ with_kept r (next_offer r event)) → (became ≡ DroppedFull → new ≡ with_refused r (next_offer r event)) → new.gone ≡ r.gone
knows_still r new event Kept keeps drops = ap (λ (x : Recording). x.gone) (keeps refl)
knows_still r new event DroppedFull keeps drops = ap (λ (x : Recording). x.gone) (drops refl)

-- an offer was made, whatever became of it: an interpreter stands for one recording more, of these items
module _ (i new : Interpreter) (settings : Settings) (c : Course) (kept : List Bool) (sent : List Sending) (stands : Represents i settings c kept sent) (event : Shown) (became : Recorded) (ps : Pasts) (told : Content)
    (same : IsSameRecorder i.recorder new.recorder) (left : offers_made i.recorder ≡ i.recorder.limit → ⊥) (keeps : became ≡ Kept → new.recorder ≡ with_kept i.recorder (next_offer i.recorder event)) (drops : became ≡ DroppedFull → new.recorder ≡ with_refused i.recorder (next_offer i.recorder event))
    (full : became ≡ DroppedFull → i.recorder.recorders ≡ 1 → i.recorder.capacity + i.recorder.gone ≤ length i.recorder.kept)
    (rest : new ≡ record i { recorder = new.recorder; tasks = new.tasks; resources = new.resources; ops = new.ops }) where
  pub stands_more : one_more (numbers_of c.pasts) event ≡ numbers_of ps → content_of event ≡ told → (settings.times ≡ true → HasTimes event)
      → IsLonger i.tasks.items new.tasks.items × IsLonger i.resources.items new.resources.items × IsLonger i.ops.items new.ops.items
      → Holds new.tasks.items i.wakers.items new.resources.items new.ops.items ps → OffersLedger new.tasks.items new.resources.items new.ops.items event
      → (mark : Bool) × Represents new settings (record c { pasts = ps; told = c.told ++ told ∷ [] }) (kept ++ mark ∷ []) sent
  stands_more numbers told_is has longer holds ledger =
      let one = recorded i.recorder new.recorder settings.capacity (numbers_of c.pasts) c.told kept stands.offered stands.came.one_each same left event became keeps drops full in
      let taken_now : i.recorder.gone ≡ length (items_where_true (take (recorded_by 0 c.due) kept) (take (recorded_by 0 c.due) c.told)) =
      stands.gone ∙ (sym (length-map i.taker.taken offer_content) ∙ ap length stands.taken) in
      let low : recorded_by 0 c.due ≤ length c.told = recorded_low (length c.told) 0 c.due stands.rise in
      let late : one.0 ≡ false → recorded_by 0 c.due + settings.capacity ≤ length kept =
      λ no. since_line (recorded_by 0 c.due) settings.capacity i.recorder.gone kept c.told stands.came.one_each low taken_now (one.2 no) in
      let grown : length c.told + 1 ≡ length (c.told ++ told ∷ []) = sym (length-append c.told (told ∷ [])) in (
        one.0,
        subst (λ (x : Interpreter). Represents x settings (record c { pasts = ps; told = c.told ++ told ∷ [] }) (kept ++ one.0 ∷ []) sent) (sym rest) (record {
          came = tells_more settings c.told c.due kept sent one.0 told stands.came stands.rise late;
          rise = subst (λ n. RiseTo n 0 c.due) grown (rise_more (length c.told) 1 0 c.due stands.rise);
          offered = subst (λ (p : Numbers × Content). Offered new.recorder settings.capacity p.0 (c.told ++ p.1 ∷ []) (kept ++ one.0 ∷ [])) (λ j. (numbers j, told_is j)) one.1;
          takes = record {
            console = stands.takes.console ∙ sym same.console;
            recorders = stands.takes.recorders;
            unfinished = stands.takes.unfinished;
            known = stands.takes.known;
          };
          taken = stands.taken ∙ sym (first_kept settings kept (one.0 ∷ []) c.told (told ∷ []) stands.came.one_each (recorded_by 0 c.due) low);
          gone = knows_still i.recorder new.recorder event became keeps drops ∙ stands.gone;
          has_told = stands.has_told;
          timed = λ timed. all_kept (λ (o : Offer). HasTimes o.event) i.recorder new.recorder event became keeps drops (has timed) (stands.timed timed);
          holds = holds;
          linked = linked_more i.tasks.items new.tasks.items i.resources.items new.resources.items i.ops.items new.ops.items longer i.recorder new.recorder event became i.aggregator keeps drops ledger stands.linked;
          polled = stands.polled;
          capacity_said = stands.capacity_said;
          retention_said = stands.retention_said;
          times_said = stands.times_said;
          waits_said = stands.waits_said;
          begun = stands.begun;
          times_is = stands.times_is;
        }),
      )

-- ---- whether an item is there

pub is_there : {X : Type 0} (o : Option X) (stop : Option Stop) → is_some o ≡ true → if_there o stop ≡ stop
is_there None stop there = absurd (true≢false (sym there))
is_there (Some x) stop there = refl

pub isnt_there : {X : Type 0} (o : Option X) (stop : Option Stop) → is_some o ≡ false → if_there o stop ≡ Some NoSuchItem
isnt_there None stop missing = refl
isnt_there (Some x) stop missing = absurd (true≢false missing)
