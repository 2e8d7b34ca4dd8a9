-- A line that goes on leaves an uninterrupted stream.
use Rattle.std.proofs.Common.{◌≡◌, ℕ, ◌+◌, ◌^◌, ◌<◌, List, [], ◌∷◌, ◌++◌, Bool, true, false, refl, sym, ap, ap₂, subst, ◌∙◌, append_assoc, append-nil, arith}
use Rattle.std.specs.Prelude.{◌||◌, ◌&&◌, ◌==◌, not, if◌then◌else◌, Option, None, Some, is_some, IfSome}
use Rattle.std.proofs.lemmas.Bool.{eq-eqb}
use Rattle.tk_aggregator.specs.Aggregates.{Aggregating, IsSound, IsDue, pruned, due_at, leaving_at, tables_at, untimed_at, line_at, sending_at, having_told, after_line}
use Rattle.tk_aggregator.specs.Publishing.{IsTimedStreamTo}
use Rattle.tk_aggregator.specs.Timing.{TimingView, told_by}
use Rattle.tk_stream.specs.Applied.{GoOn, times_after, what_stays, without_gone}
use Rattle.tk_stream.specs.Lines.{LineView, GoneView, none_gone, gone_of, is_seq, told_times}
use Rattle.tk_stream.specs.Ranges.{IsNumber}
use Rattle.tk_stream.specs.Retention.{due_of, prune, stats_without}
use Rattle.tk_stream.specs.Spelling.{sent_text}
use Rattle.tk_stream.specs.Streams.{Sending, line_sent, line_untimed, lines_sent, bytes_sent, tables_sent, last_sent, AreToldOf, MaySend, GoesOn, IsUninterrupted, IsStreamTo}
use Rattle.tk_stream.specs.Tables.{TablesView, empty_tables, AreFit, task_id, staying}
use Rattle.tk_stream.specs.Times.{TaskTimes, times_id}
use Rattle.tk_stream.proofs.GoneLemmas.{staying_all}
use Rattle.tk_stream.proofs.PruneLemmas.{less_fit, less_in_range, pruned_goes_on, pruned_line, distinct_begin}
use Rattle.tk_stream.proofs.RangeLemmas.{at_moment}
use Rattle.tk_aggregator.proofs.LeaveLemmas.{left_is}
use Rattle.tk_aggregator.proofs.TimingLemmas.{line_leads, sent_times, sent_gone, times_more, told_fit}

-- ---- one more line

abbrev more : List Sending → Sending → List Sending
more ss s = ss ++ s ∷ []

goes_more : (before : TablesView) (last : ℕ) (ss : List Sending) (s : Sending) → GoesOn before last ss → MaySend (tables_sent before ss) s → s.seq ≡ last_sent last ss + 1 → GoesOn before last (more ss s)
goes_more before last [] s goes may next = (next, may, tt)
goes_more before last (x ∷ ss) s goes may next = (goes.0, goes.1, goes_more x.tables x.seq ss s goes.2 may next)

itself : (n m : ℕ) → n ≡ m → (n == m) ≡ true
itself n m e = eq-eqb n m e

either : (b c : Bool) → c ≡ true → (b || c) ≡ true
either true c e = refl
either false c e = e

uninterrupted_more : (ss : List Sending) (s : Sending) → IsUninterrupted ss → MaySend (tables_sent empty_tables ss) s → s.seq ≡ last_sent 0 ss + 1 → IsUninterrupted (more ss s)
uninterrupted_more [] s goes may next = (either s.snapshot (s.seq == 1) (itself s.seq 1 next), may, tt)
uninterrupted_more (x ∷ ss) s goes may next = (goes.0, goes.1, goes_more x.tables x.seq ss s goes.2 may next)

bytes_more : (before : TablesView) (ss : List Sending) (s : Sending) → bytes_sent (lines_sent before (more ss s)) ≡ bytes_sent (lines_sent before ss) ++ sent_text (line_sent (tables_sent before ss) s)
bytes_more before [] s = append-nil (sent_text (line_sent before s))
bytes_more before (x ∷ ss) s =
    ap (λ bs. sent_text (line_sent before x) ++ bs) (bytes_more x.tables ss s)
    ∙ sym (append_assoc (sent_text (line_sent before x)) (bytes_sent (lines_sent x.tables ss)) (sent_text (line_sent (tables_sent x.tables ss) s)))

tables_more : (before : TablesView) (ss : List Sending) (s : Sending) → tables_sent before (more ss s) ≡ s.tables
tables_more before [] s = refl
tables_more before (x ∷ ss) s = tables_more x.tables ss s

last_more : (before : ℕ) (ss : List Sending) (s : Sending) → last_sent before (more ss s) ≡ s.seq
last_more before [] s = refl
last_more before (x ∷ ss) s = last_more x.seq ss s

pub goes_on_to : (bytes : List ℕ) (told : TablesView) (last : ℕ) (s : Sending) → IsStreamTo bytes told last → MaySend told s → s.seq ≡ last + 1 → (number : ℕ) → number ≡ s.seq
    → IsStreamTo (bytes ++ sent_text (line_sent told s)) s.tables number
goes_on_to bytes told last s stream may next number is = record {
  sent = more stream.sent s;
  uninterrupted = uninterrupted_more stream.sent s stream.uninterrupted (subst (λ t. MaySend t s) (sym stream.tables_are) may) (next ∙ ap (λ n. n + 1) (sym stream.last_is));
  bytes_are =
      ap₂ (λ bs t. bs ++ sent_text (line_sent t s)) stream.bytes_are (sym stream.tables_are)
      ∙ sym (bytes_more empty_tables stream.sent s);
  tables_are = tables_more empty_tables stream.sent s;
  last_is = last_more 0 stream.sent s ∙ sym is;
}

-- a snapshot opens a stream
abbrev whole_sending : TablesView → ℕ → Bool → Option (List TaskTimes) → Sending
whole_sending tables seq removes told = record { tables = tables; seq = seq; snapshot = true; removes = removes; told = told }

after_none : (tables : TablesView) (removes : Bool) → GoOn (if removes && false then what_stays empty_tables tables else empty_tables) tables
after_none tables true = record { tasks = tt; resources = tt; ops = tt; counts = tt }
after_none tables false = record { tasks = tt; resources = tt; ops = tt; counts = tt }

pub opens_at : (told : TablesView) (tables : TablesView) (seq : ℕ) (removes : Bool) (times : Option (List TaskTimes)) → MaySend told (whole_sending tables seq removes times)
    → IsStreamTo (sent_text (line_sent told (whole_sending tables seq removes times))) tables seq
opens_at told tables seq removes times may = record {
  sent = whole_sending tables seq removes times ∷ [];
  uninterrupted = (refl, record { fit = may.fit; in_range = may.in_range; numbered = may.numbered; on = λ changes. after_none tables removes; told = may.told }, tt);
  bytes_are = sym (append-nil (sent_text (line_sent empty_tables (whole_sending tables seq removes times))));
  tables_are = refl;
  last_is = refl;
}

-- ---- what an aggregator may send

within : (n : ℕ) → n < 2 ^ 63 → is_seq (n + 1) ≡ true
within n lt = grind arith

at_moment_fit : (t : TablesView) (now : ℕ) → AreFit t → AreFit (record t { now = now })
at_moment_fit t now fit = record {
  distinct = record { tasks = fit.distinct.tasks; resources = fit.distinct.resources; ops = fit.distinct.ops; counts = fit.distinct.counts };
  resources = fit.resources;
  ops = fit.ops;
}

-- with all of its tables, as a snapshot or where nothing leaves
sends_all : (a : Aggregating) (now : ℕ) (snapshot removes : Bool) (told : Option (List TaskTimes)) → (removes && not snapshot) ≡ false → IsSound a → IsDue snapshot a now → IsNumber now
    → IfSome told (AreToldOf (record a.tables { now = now }))
    → MaySend a.told (record { tables = record a.tables { now = now }; seq = a.last + 1; snapshot = snapshot; removes = removes; told = told })
sends_all a now snapshot removes told stays sound due fits of_tables = record {
  fit = at_moment_fit a.tables now sound.fit;
  in_range = at_moment a.tables now sound.in_range fits;
  numbered = within a.last due.number;
  on = λ changes. subst (λ (b : Bool). GoOn (if b then what_stays a.told a.tables else a.told) (record a.tables { now = now })) (sym stays) (record { tasks = sound.on.tasks; resources = sound.on.resources; ops = sound.on.ops; counts = sound.on.counts });
  told = of_tables;
}

-- without what is due
sends_pruned : (a : Aggregating) (now retention : ℕ) (told : Option (List TaskTimes)) → IsSound a → IsDue false a now → IsNumber now
    → IfSome told (AreToldOf (record (prune a.tables a.told now retention) { now = now }))
    → MaySend a.told (record { tables = record (prune a.tables a.told now retention) { now = now }; seq = a.last + 1; snapshot = false; removes = true; told = told })
sends_pruned a now retention told sound due fits of_tables =
    let gone = due_of a.told now retention in
    let distinct = sound.fit.distinct in
    let on = pruned_goes_on a.told a.tables now retention (distinct_begin a.told a.tables sound.on distinct) sound.on in
    record {
      fit = at_moment_fit (without_gone a.tables gone) now (less_fit a.tables gone sound.fit);
      in_range = at_moment (without_gone a.tables gone) now (less_in_range a.tables gone sound.in_range) fits;
      numbered = within a.last due.number;
      on = λ changes. record { tasks = on.tasks; resources = on.resources; ops = on.ops; counts = on.counts };
      told = of_tables;
    }

-- ---- histograms

-- those that a line tells may be told with the tables of that line
may_tell : (a : Aggregating) (now : ℕ) (snapshot : Bool) (gone : GoneView) (tables : TablesView) → tables.tasks ≡ staying task_id gone.tasks a.tables.tasks → IsSound a
    → IfSome (told_by snapshot a.timing gone.tasks) (AreToldOf tables)
may_tell a now snapshot gone tables is sound = by a.timing.reads
  where
    by : (b : Bool) → IfSome (if b then Some (stats_without times_id gone.tasks (told_times (if snapshot then [] else a.timing.told) a.timing.shown)) else None) (AreToldOf tables)
    by true = told_fit a.tables tables gone.tasks is (if snapshot then [] else a.timing.told) a.timing.shown sound.times_fit
    by false = tt

pub may_send : (a : Aggregating) (now : ℕ) (snapshot : Bool) → IsSound a → IsDue snapshot a now → IsNumber now → MaySend a.told (sending_at snapshot a now)
may_send a now true sound due fits =
    sends_all a now true (is_some a.retention) (told_by true a.timing []) (none_left (is_some a.retention)) sound due fits
    (may_tell a now true none_gone (record a.tables { now = now }) (sym (staying_all task_id a.tables.tasks)) sound)
  where
    none_left : (b : Bool) → (b && false) ≡ false
    none_left true = refl
    none_left false = refl
may_send a now false sound due fits = by a.retention
  where
    by : (o : Option ℕ) → MaySend a.told (record { tables = record (pruned o a now).tables { now = now }; seq = a.last + 1; snapshot = false; removes = is_some o; told = told_by false a.timing (due_at o a.told now).tasks })
    by None =
        sends_all a now false false (told_by false a.timing []) refl sound due fits
        (may_tell a now false none_gone (record a.tables { now = now }) (sym (staying_all task_id a.tables.tasks)) sound)
    by (Some retention) =
        sends_pruned a now retention (told_by false a.timing (due_of a.told now retention).tasks) sound due fits
        (may_tell a now false (due_of a.told now retention) (record (prune a.tables a.told now retention) { now = now }) refl sound)

-- the number of a line doesn't hang on what leaves
pub after_last : (a : Aggregating) (now : ℕ) (snapshot : Bool) → (after_line snapshot a now).last ≡ a.last + 1
after_last a now true = refl
after_last a now false = by a.retention
  where
    by : (o : Option ℕ) → (having_told (pruned o a now) now).last ≡ a.last + 1
    by None = refl
    by (Some retention) = refl

pub stream_goes_on : (a : Aggregating) (now : ℕ) (snapshot : Bool) → IsSound a → IsDue snapshot a now → IsNumber now → (bytes : List ℕ) → IsStreamTo bytes a.told a.last
    → IsStreamTo (bytes ++ sent_text (line_at snapshot a now)) (after_line snapshot a now).told (after_line snapshot a now).last
stream_goes_on a now snapshot sound due fits bytes stream =
    goes_on_to bytes a.told a.last (sending_at snapshot a now) stream (may_send a now snapshot sound due fits) refl (after_line snapshot a now).last (after_last a now snapshot)

pub stream_opens : (a : Aggregating) (now : ℕ) → IsSound a → IsDue true a now → IsNumber now → IsStreamTo (sent_text (line_at true a now)) (after_line true a now).told (after_line true a now).last
stream_opens a now sound due fits = opens_at a.told (tables_at true a now) (a.last + 1) (is_some a.retention) (told_by true a.timing []) (may_send a now true sound due fits)

-- ---- what histograms a stream leads to

-- the tasks that a line says are gone are those that leave with it
gone_at : (a : Aggregating) (now : ℕ) (snapshot : Bool) → IsSound a → (gone_of (untimed_at snapshot a now)).tasks ≡ (leaving_at snapshot a now).tasks
gone_at a now true sound = by (is_some a.retention)
  where
    by : (b : Bool) → (gone_of (line_untimed a.told (record { tables = record a.tables { now = now }; seq = a.last + 1; snapshot = true; removes = b; told = None }))).tasks ≡ []
    by true = refl
    by false = refl
gone_at a now false sound = by a.retention
  where
    by : (o : Option ℕ) → (gone_of (line_untimed a.told (record { tables = record (pruned o a now).tables { now = now }; seq = a.last + 1; snapshot = false; removes = is_some o; told = None }))).tasks ≡ (due_at o a.told now).tasks
    by None = refl
    by (Some retention) =
        ap (λ (l : LineView). (gone_of l).tasks) (sym (pruned_line a.told a.tables now retention (a.last + 1) (distinct_begin a.told a.tables sound.on sound.fit.distinct) sound.on))

-- what is told after a line are the histograms of the tasks that stay
after_times : (a : Aggregating) (now : ℕ) (snapshot : Bool) → staying times_id (leaving_at snapshot a now).tasks a.timing.shown ≡ (after_line snapshot a now).timing.told
after_times a now snapshot = ap (λ (x : Aggregating). x.timing.shown) (left_is snapshot a now)

pub leads_on : (a : Aggregating) (now : ℕ) (snapshot : Bool) → IsSound a → times_after (if snapshot then [] else a.timing.told) (line_at snapshot a now) ≡ (after_line snapshot a now).timing.told
leads_on a now snapshot sound =
    let s = sending_at snapshot a now in
    line_leads snapshot a.timing (leaving_at snapshot a now).tasks (line_at snapshot a now) sound.times_fit.once sound.times_on (λ none. ap (λ (t : TimingView). t.shown) (sound.untimed none))
    (sent_times a.told s) (ap (λ (g : GoneView). g.tasks) (sent_gone a.told s) ∙ gone_at a now snapshot sound)
    ∙ after_times a now snapshot

pub timed_goes_on : (a : Aggregating) (now : ℕ) (snapshot : Bool) → IsSound a → IsDue snapshot a now → IsNumber now → (bytes : List ℕ) → IsTimedStreamTo bytes a.told a.timing.told a.last
    → IsTimedStreamTo (bytes ++ sent_text (line_at snapshot a now)) (after_line snapshot a now).told (after_line snapshot a now).timing.told (after_line snapshot a now).last
unfolding stream_goes_on goes_on_to
timed_goes_on a now snapshot sound due fits bytes stream = (
  stream_goes_on a now snapshot sound due fits bytes stream.0,
  times_more [] empty_tables stream.0.sent (sending_at snapshot a now)
      ∙ ap₂ (λ ts t. times_after (if snapshot then [] else ts) (line_sent t (sending_at snapshot a now))) stream.1 stream.0.tables_are
      ∙ leads_on a now snapshot sound,
)

-- a snapshot says the same after any line
pub timed_opens : (a : Aggregating) (now : ℕ) → IsSound a → IsDue true a now → IsNumber now
    → IsTimedStreamTo (sent_text (line_at true a now)) (after_line true a now).told (after_line true a now).timing.told (after_line true a now).last
unfolding stream_opens opens_at
timed_opens a now sound due fits = (stream_opens a now sound due fits, leads_on a now true sound)
