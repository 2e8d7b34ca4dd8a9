-- What an interpreter stands for after a line.
use Rattle.std.proofs.Common.{◌≡◌, ℕ, ◌+◌, ◌<◌, ◌≤◌, Bool, true, false, List, [], ◌∷◌, ◌++◌, length, length-append, Option, Some, None, refl, sym, ap, ◌∙◌, subst, arith}
use Rattle.std.specs.Prelude.{map, is_some, if◌then◌else◌, ◌^◌}
use Rattle.std.specs.List.{All, AllByRecursion}
use Rattle.std.proofs.lemmas.Bool.{le-ltb, lt-ltb, lt-leb, le-leb, eq-eqb}
use Rattle.std.proofs.lemmas.List.{append-nil}
use Rattle.std.proofs.lemmas.List.Elements.{recursion_from_All}
use Rattle.tk_events.specs.Buffer.{IsNamed}
use Rattle.tk_events.specs.Handles.{Recording, Taking}
use Rattle.tk_events.specs.Offers.{by, shown}
use Rattle.tk_events.specs.declared.event.Event.{Event}
use Rattle.tk_events.specs.declared.item.Offer.{Offer}
use Rattle.tk_ledgers.specs.Ops.{OpSight}
use Rattle.tk_ledgers.specs.Resources.{ResourceSight}
use Rattle.tk_ledgers.specs.Tasks.{TaskSight}
use Rattle.tk_ledgers.specs.Times.{TimesSight}
use Rattle.tk_stream.specs.Spelling.{sent_text}
use Rattle.tk_stream.specs.Applied.{times_after}
use Rattle.tk_stream.specs.Streams.{Sending, MaySend, gone_by, tables_sent, times_sent, last_sent, line_sent}
use Rattle.tk_stream.specs.Tables.{TablesView, empty_tables, task_id}
use Rattle.tk_stream.specs.Times.{TaskTimes, times_id}
use Rattle.tk_aggregator.specs.Absorbing.{Infos, infos_of, infos_without}
use Rattle.tk_aggregator.specs.Aggregates.{Aggregating, Gathers, TookMore, IsSound, IsSameStream, held_events, pruned, left_at, tables_at, after_line, line_at, sending_at}
use Rattle.tk_aggregator.specs.Contents.{Content, content_of}
use Rattle.tk_aggregator.proofs.FollowLemmas.{gathered_is_absorbed, gathers_stays}
use Rattle.tk_aggregator.proofs.LeaveLemmas.{left_is}
use Rattle.tk_aggregator.proofs.SendLemmas.{leads_on}
use Rattle.tk_aggregator.proofs.TimingLemmas.{times_more}
use Rattle.tk_script.specs.Commands.{publish}
use Rattle.tk_script.specs.declared.settings.Settings.{Settings}
use Rattle.tk_script.specs.declared.stop.Stop.TheVariants.{Clock, NumbersSpent}
use Rattle.tk_live.specs.Course.{Course, due_at}
use Rattle.tk_live.specs.Pasts.{Pasts}
use Rattle.tk_live.specs.Ran.{infos_with, leaving, dropped_of, kept_between, lost_first, TellsTimes, IsCalledTask, IsCalledResource, IsCalledOp, AreCalled, IsPolledTask, TellOf, IsStreamOf}
use Rattle.tk_live.specs.Runs.{Numbers, Offered, IsTakerOf, HaveTimes, HasTold, offer_content, recorded_by, bytes_after}
use Rattle.tk_live.specs.Stops.{stop_by_text}
use Rattle.tk_live.proofs.Histograms.{gathered_times, line_one_each, line_tells}
use Rattle.tk_live.proofs.Growing.{before_push}
use Rattle.tk_live.proofs.Leaving.{absorb_told, dropped_stay, infos_leave, just_due, lines_push}
use Rattle.tk_live.proofs.Rows.{all_stay}
use Rattle.tk_live.proofs.Streams.{goes_push, tables_push, last_push}

-- ---- what is taken beside the one recorder

-- all offers are those of the one recorder
by_one : (os : List Offer) → AllByRecursion (IsNamed 1) os → by 1 os ≡ os
by_one [] named = refl
by_one (o ∷ os) named =
    let one : o.recorder ≡ 1 = omega (arith, named.0.0, named.0.1) in
    rw (eq-eqb o.recorder 1 one) (ap (λ l. o ∷ l) (by_one os named.1))

module _ (r : Recording) (capacity : ℕ) (numbers : Numbers) (told : List Content) (kept : List Bool) (offered : Offered r capacity numbers told kept) (t u : Taking) (takes : IsTakerOf r t) (took : TookMore t u) (named : All (IsNamed u.recorders) u.taken) where
  all_named : AllByRecursion (IsNamed 1) u.taken
  all_named = recursion_from_All (IsNamed 1) u.taken (subst (λ (n : ℕ). All (IsNamed n) u.taken) (took.recorders ∙ takes.recorders) named)

  -- what was taken is what was kept, where that is so of the recorder's
  pub took_all : by r.number u.taken ≡ r.kept → u.taken ≡ r.kept
  took_all all = sym (by_one u.taken all_named) ∙ (ap (λ n. by n u.taken) (sym offered.number) ∙ all)

pub took_more : (r : Recording) (t u : Taking) → IsTakerOf r t → TookMore t u → IsTakerOf r u
took_more r t u takes took = record {
  console = took.console ∙ takes.console;
  recorders = took.recorders ∙ takes.recorders;
  unfinished = took.finished ∙ takes.unfinished;
  known = took.known ∙ takes.known;
}

-- ---- what was gathered since the last line

-- an aggregator has gathered all since the line that it told last
pub record HasGathered (a : Aggregating) (settings : Settings) (now count : ℕ) (sent : List Sending) (since : List Content) : Type 0 where
  pub retention_is : a.retention ≡ settings.retention
  pub reads : a.timing.reads ≡ settings.times
  pub told : a.told ≡ tables_sent empty_tables sent
  pub times_told : a.timing.told ≡ times_sent [] empty_tables sent
  pub last : a.last ≡ last_sent 0 sent
  pub none_held : a.held ≡ None
  pub infos : infos_of a.tables ≡ infos_with (infos_of a.told) since
  pub times : settings.times ≡ true → map times_id a.timing.shown ≡ map task_id a.tables.tasks
  pub moment : a.tables.now ≡ now
  pub numbers : a.last ≡ count
  pub going : a.broken ≡ false

told_of_offers : (os : List Offer) → map offer_content os ≡ map content_of (map (λ (o : Offer). o.event) os)
told_of_offers [] = refl
told_of_offers (o ∷ os) = ap (λ l. offer_content o ∷ l) (told_of_offers os)

-- what was taken in is what came, where no event is held before or after
took_in : (a b : Aggregating) (t u : Taking) (taken : List Event) (g : Gathers a t taken b u) → a.held ≡ None → b.held ≡ None → g.came ≡ taken
took_in a b t u taken g none_held now_none = ap (λ h. held_events h ++ g.came) (sym none_held) ∙ g.in_order ∙ ap (λ h. taken ++ held_events h) now_none ∙ append-nil taken

-- events were taken in
pub gathered : (a b : Aggregating) (t u : Taking) (taken : List Event) (settings : Settings) (now count : ℕ) (sent : List Sending) (since : List Content) → HasTold a settings now count sent → (g : Gathers a t taken b u) → b.held ≡ None
    → map offer_content g.offers ≡ since → (settings.times ≡ true → HaveTimes u.taken) → HasGathered b settings now count sent since
gathered a b t u taken settings now count sent since told g none_held since_is timed =
    let stays : IsSameStream a b = gathers_stays a t taken b u g in
    let came = took_in a b t u taken g told.none_held none_held in
    let contents_since : map content_of (map shown taken) ≡ since = ap (λ es. map content_of (map shown es)) (sym came) ∙ ap (map content_of) (sym g.are_offered) ∙ sym (told_of_offers g.offers) ∙ since_is in
    record {
      retention_is = stays.retention ∙ told.retention_is;
      reads = stays.reads ∙ told.reads;
      told = stays.told ∙ told.told;
      times_told = stays.times_told ∙ told.times_told;
      last = stays.last ∙ told.last;
      none_held = none_held;
      infos =
          gathered_is_absorbed a t taken b u g ∙ absorb_told (infos_of a.tables) (map shown taken) ∙ ap (infos_with (infos_of a.tables)) contents_since
          ∙ ap (λ (i : Infos). infos_with i since) (told.infos ∙ ap infos_of (sym stays.told));
      times = λ is. gathered_times a b t u taken g told.none_held (told.reads ∙ is) (told.times is) (timed is);
      moment = stays.now ∙ told.moment;
      numbers = stays.last ∙ told.numbers;
      going = stays.broken ∙ told.going;
    }

-- the taker told its totals
pub told_totals : (a : Aggregating) (totals : Rattle.tk_ids.specs.declared.info.Dropped.Dropped) (settings : Settings) (now count : ℕ) (sent : List Sending) (since : List Content) → HasGathered a settings now count sent since
    → HasGathered (record a { tables = record a.tables { dropped = totals } }) settings now count sent since
told_totals a totals settings now count sent since are = record {
  retention_is = are.retention_is;
  reads = are.reads;
  told = are.told;
  times_told = are.times_told;
  last = are.last;
  none_held = are.none_held;
  infos = are.infos;
  times = are.times;
  moment = are.moment;
  numbers = are.numbers;
  going = are.going;
}

-- rows and histograms were read
pub still_gathered : (a b : Aggregating) (settings : Settings) (now count : ℕ) (sent : List Sending) (since : List Content) → IsSameStream a b → infos_of b.tables ≡ infos_of a.tables → b.held ≡ a.held
    → (map times_id a.timing.shown ≡ map task_id a.tables.tasks → map times_id b.timing.shown ≡ map task_id b.tables.tasks) → HasGathered a settings now count sent since → HasGathered b settings now count sent since
still_gathered a b settings now count sent since stays infos held times are = record {
  retention_is = stays.retention ∙ are.retention_is;
  reads = stays.reads ∙ are.reads;
  told = stays.told ∙ are.told;
  times_told = stays.times_told ∙ are.times_told;
  last = stays.last ∙ are.last;
  none_held = held ∙ are.none_held;
  infos = infos ∙ are.infos ∙ ap (λ (x : TablesView). infos_with (infos_of x) since) (sym stays.told);
  times = λ is. times (are.times is);
  moment = stays.now ∙ are.moment;
  numbers = stays.last ∙ are.numbers;
  going = stays.broken ∙ are.going;
}

-- ---- a line

-- what leaves changes neither the stream's number nor how long items stay
pruned_last : (retention : Option ℕ) (a : Aggregating) (now : ℕ) → (pruned retention a now).last ≡ a.last
pruned_last None a now = refl
pruned_last (Some r) a now = refl

left_last : (whole : Bool) (a : Aggregating) (now : ℕ) → (left_at whole a now).last ≡ a.last
left_last true a now = refl
left_last false a now = pruned_last a.retention a now

pruned_retention : (retention : Option ℕ) (a : Aggregating) (now : ℕ) → (pruned retention a now).retention ≡ a.retention
pruned_retention None a now = refl
pruned_retention (Some r) a now = refl

left_retention : (whole : Bool) (a : Aggregating) (now : ℕ) → (left_at whole a now).retention ≡ a.retention
left_retention true a now = refl
left_retention false a now = pruned_retention a.retention a now

pruned_reads : (retention : Option ℕ) (a : Aggregating) (now : ℕ) → (pruned retention a now).timing.reads ≡ a.timing.reads
pruned_reads None a now = refl
pruned_reads (Some r) a now = refl

left_reads : (whole : Bool) (a : Aggregating) (now : ℕ) → (left_at whole a now).timing.reads ≡ a.timing.reads
left_reads true a now = refl
left_reads false a now = pruned_reads a.retention a now

-- the number after a line
pub line_last : (whole : Bool) (a : Aggregating) (now : ℕ) → (after_line whole a now).last ≡ a.last + 1
line_last whole a now = ap (λ n. n + 1) (left_last whole a now)

-- and no event that is held
pruned_held : (retention : Option ℕ) (a : Aggregating) (now : ℕ) → (pruned retention a now).held ≡ a.held
pruned_held None a now = refl
pruned_held (Some r) a now = refl

left_held : (whole : Bool) (a : Aggregating) (now : ℕ) → (left_at whole a now).held ≡ a.held
left_held true a now = refl
left_held false a now = pruned_held a.retention a now

-- what stays of tables whose rows are those of the text's calls
called_stay : (ps : Pasts) (whole : Bool) (a : Aggregating) (now : ℕ) → AreCalled ps a.tables → AreCalled ps (tables_at whole a now)
called_stay ps true a now called = record { tasks = called.tasks; resources = called.resources; ops = called.ops }
called_stay ps false a now called = by a.retention
  where
    by : (o : Option ℕ) → AreCalled ps (record (pruned o a now).tables { now = now })
    by None = record { tasks = called.tasks; resources = called.resources; ops = called.ops }
    by (Some r) = record { tasks = all_stay (IsCalledTask ps) _ a.tables.tasks called.tasks; resources = all_stay (IsCalledResource ps) _ a.tables.resources called.resources; ops = all_stay (IsCalledOp ps) _ a.tables.ops called.ops }

-- and of readers that are all so
module _ (P : TaskSight → Type 0) (Q : ResourceSight → Type 0) (R : OpSight → Type 0) (S : TimesSight → Type 0) where
  abbrev AllReaders : Aggregating → Type 0
  AllReaders a = AllByRecursion P a.tasks × AllByRecursion Q a.resources × AllByRecursion R a.ops × AllByRecursion S a.timing.readers

  pub readers_stay : (whole : Bool) (a : Aggregating) (now : ℕ) → AllReaders a → AllReaders (after_line whole a now)
  readers_stay whole a now all =
      subst AllReaders (left_is whole a now) (all_stay P _ a.tasks all.0, all_stay Q _ a.resources all.1, all_stay R _ a.ops all.2, all_stay S _ a.timing.readers all.3)

-- a line was sent
module _ (a : Aggregating) (settings : Settings) (c : Course) (kept : List Bool) (sent : List Sending) (now : ℕ) (whole : Bool) (are : HasGathered a settings c.now (length c.due) sent (kept_between kept c.told (recorded_by 0 c.due) (length c.told)))
    (sound : IsSound a) (may : MaySend a.told (sending_at whole a now)) (later : IsSound (after_line whole a now)) where
  abbrev line : Sending
  line = sending_at whole a now

  -- it is as the text says it
  pub came_line : IsStreamOf settings c kept sent → AreCalled c.pasts a.tables → AllByRecursion (IsPolledTask c.pasts) a.timing.shown → a.tables.dropped ≡ dropped_of (lost_first kept c.told (length c.told)) → TellOf settings c.told (c.due ++ due_at c now whole ∷ []) kept (sent ++ line ∷ [])
  came_line came called polls totals = record {
    one_each = came.one_each;
    first = λ i lt low. came.first i lt (subst (λ n. i < n + settings.capacity) (before_push 0 c.due (due_at c now whole) i (omega (arith, lt, came.one_each))) low);
    lines = lines_push settings kept c.told empty_tables [] 0 c.due sent (due_at c now whole) line came.lines (record {
      moment = refl;
      snapshot = refl;
      removes = ap is_some are.retention_is;
      infos = infos_leave whole a now ∙ ap (λ i. infos_without (leaving a.retention a.told line) i) are.infos
          ∙ (λ i. infos_without (leaving (are.retention_is i) (are.told i) line) (infos_with (infos_of (are.told i)) (kept_between kept c.told (recorded_by 0 c.due) (length c.told))));
      gone = λ removes. ap (λ b. gone_by b line) (sym are.told) ∙ just_due whole a now sound removes ∙ (λ i. leaving (are.retention_is i) (are.told i) line);
      dropped = dropped_stay whole a now ∙ totals;
      rows = called_stay c.pasts whole a now called;
      times = subst (λ (p : TablesView × List TaskTimes). TellsTimes settings.times c.pasts p.0 p.1 line) (λ i. (are.told i, are.times_told i)) (line_tells c.pasts whole a now sound polls settings.times are.reads are.times);
    });
    stream = goes_push empty_tables 0 sent line came.stream (ap (λ n. n + 1) are.last) (subst (λ b. MaySend b line) are.told may);
  }

  -- and all is told then
  pub told_line : HasTold (after_line whole a now) settings now (length (c.due ++ due_at c now whole ∷ [])) (sent ++ line ∷ [])
  told_line = record {
    retention_is = left_retention whole a now ∙ are.retention_is;
    reads = left_reads whole a now ∙ are.reads;
    told = sym (tables_push empty_tables sent line);
    times_told =
        sym (leads_on a now whole sound) ∙ (λ i. times_after (if whole then [] else are.times_told i) (line_sent (are.told i) line))
        ∙ sym (times_more [] empty_tables sent line);
    last = line_last whole a now ∙ sym (last_push 0 sent line);
    none_held = left_held whole a now ∙ are.none_held;
    infos = refl;
    times = λ is. line_one_each whole a now (are.times is);
    moment = refl;
    numbers = omega (arith, line_last whole a now, are.numbers, length-append c.due (due_at c now whole ∷ []));
    going = refl;
  }

-- its bytes
pub one_line : (a : Aggregating) (sent : List Sending) (now : ℕ) (whole : Bool) → a.told ≡ tables_sent empty_tables sent → bytes_after sent (sending_at whole a now ∷ []) ≡ sent_text (line_at whole a now)
one_line a sent now whole told =
    append-nil (sent_text (line_sent (tables_sent empty_tables sent) (sending_at whole a now))) ∙ ap (λ b. sent_text (line_sent b (sending_at whole a now))) (sym told)

-- the text doesn't stop a line that is due
pub is_due : (k : Course) (now : ℕ) (whole : Bool) (last moment : ℕ) → moment ≡ k.now → last ≡ length k.due → moment ≤ now → last < 2 ^ 63 → stop_by_text k (publish now whole) ≡ None
is_due k now whole last moment moment_is last_is late left = rw (le-ltb now k.now (omega (arith, moment_is, late)), lt-leb (2 ^ 63) (length k.due) (omega (arith, last_is, left))) refl

-- a moment that is too low, and numbers that are spent
pub too_low : (k : Course) (now : ℕ) (whole : Bool) (moment : ℕ) → moment ≡ k.now → now < moment → stop_by_text k (publish now whole) ≡ Some Clock
too_low k now whole moment moment_is low = rw (lt-ltb now k.now (omega (arith, moment_is, low))) refl

pub none_left : (k : Course) (now : ℕ) (whole : Bool) (last moment : ℕ) → moment ≡ k.now → last ≡ length k.due → moment ≤ now → last ≡ 2 ^ 63 → stop_by_text k (publish now whole) ≡ Some NumbersSpent
none_left k now whole last moment moment_is last_is late all = rw (le-ltb now k.now (omega (arith, moment_is, late)), le-leb (2 ^ 63) (length k.due) (omega (arith, last_is, all))) refl
