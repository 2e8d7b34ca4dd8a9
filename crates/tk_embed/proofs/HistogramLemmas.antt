-- The histograms of a program's stream: each line leads from those before it to those after it.
use Rattle.std.proofs.Common.{◌≡◌, ℕ, List, [], ◌∷◌, ◌++◌, Bool, true, false, cond, nat_eq, Option, Some, None, refl, ap, ap₂, sym, subst, ◌∙◌}
use Rattle.std.specs.Prelude.{map, filter, not, is_none, unwrap_or, option_map, option_and_then, if◌then◌else◌}
use Rattle.std.specs.List.{AllByRecursion, IsDistinct}
use Rattle.std.specs.Option.{option_map_or}
use Rattle.std.proofs.lemmas.List.{append-nil}
use Rattle.std.proofs.lemmas.Option.{same_Some}
use Rattle.tk_stream.specs.Applied.{times_kind, new_items, items_told, told_item, times_told, times_after, BeginWith}
use Rattle.tk_stream.specs.Lines.{LineView, GoneView, is_new, is_told, new_infos, told_times, times_of, gone_of, gone_between, with_times}
use Rattle.tk_stream.specs.Streams.{Sending, line_sent, line_untimed, times_sent}
use Rattle.tk_stream.specs.Tables.{TablesView, item_with, staying}
use Rattle.tk_stream.specs.Times.{TaskTimes, times_id, same_times, all_times}
use Rattle.tk_stream.proofs.AppliedLemmas.{IsKind, leads}
use Rattle.tk_stream.proofs.GoneLemmas.{once_kept, staying_all}
use Rattle.tk_stream.proofs.LinesLemmas.{IsFound, each_found, map-same}
use Rattle.tk_stream.proofs.TimesLemmas.{times_agree}
use Rattle.tk_stream.proofs.PruneLemmas.{all_filter}
use Rattle.tk_embed.specs.Publishing.{TimesGiven, ChangeTimes, AreAllTimes, How, changes, everything, leaving, removes, Publishing, PublishesChanges, PublishesAll, PublishesLeaving, IsPublishedAs, ArePublished, TimesGoOn, told_by, sending_of, sendings, times_published}

-- ---- a histogram is told whole

pub times_are : IsKind times_kind all_times same_times
times_are = record {
  ids = λ t. refl;
  keys = λ t. refl;
  whole = λ t. refl;
  agrees = λ a b e same. times_agree a b same;
}

-- the tests of a line between histograms
abbrev pub differs : List TaskTimes → TaskTimes → Bool
differs old = is_told times_id same_times old

abbrev is_first : List TaskTimes → TaskTimes → Bool
is_first old = is_new times_id old

-- each that is new is told
new_told : (old xs : List TaskTimes) → filter (is_first old) (filter (differs old) xs) ≡ filter (is_first old) xs
new_told old [] = refl
new_told old (x ∷ xs) = by (item_with times_id x.0 old) refl (new_told old xs)
  where
    known : (y : TaskTimes) (b : Bool) → item_with times_id x.0 old ≡ Some y → filter (is_first old) (filter (differs old) xs) ≡ filter (is_first old) xs
        → filter (is_first old) (cond b (x ∷ filter (differs old) xs) (filter (differs old) xs)) ≡ filter (is_first old) xs
    known y true e rest = rw e rest
    known y false e rest = rest

    by : (o : Option TaskTimes) → item_with times_id x.0 old ≡ o → filter (is_first old) (filter (differs old) xs) ≡ filter (is_first old) xs
        → filter (is_first old) (cond (option_map_or (λ before. not (same_times before x)) o true) (x ∷ filter (differs old) xs) (filter (differs old) xs))
        ≡ cond (is_none o) (x ∷ filter (is_first old) xs) (filter (is_first old) xs)
    by None e rest = rw e (ap (λ ys. x ∷ ys) rest)
    by (Some y) e rest = known y (not (same_times y x)) e rest

-- and has what is told of it
made : (stats zs : List TaskTimes) → AllByRecursion (IsFound times_id stats) zs → new_items times_kind stats (map times_id zs) ≡ Some zs
made stats [] all = refl
made stats (z ∷ zs) all =
    ap₂ (λ o r. option_and_then (λ item. option_map (λ items. item ∷ items) r) (option_map (λ (t : TaskTimes). t) o)) all.0 (made stats zs all.1)

-- what a line tells between histograms leads from the old to the new
pub times_lead : (old new : List TaskTimes) → IsDistinct nat_eq (map times_id old) → IsDistinct nat_eq (map times_id new) → BeginWith times_kind old new → times_told old (told_times old new) ≡ new
times_lead old new once_old once_new begin =
    let kept : List TaskTimes = filter (differs old) new in
    let news : List TaskTimes = filter (is_first old) kept in
    let stats : told_times old new ≡ kept = map-same kept in
    let infos : new_infos times_id times_id old new ≡ map times_id news = ap (map times_id) (sym (new_told old new)) in
    let items : new_items times_kind kept (map times_id news) ≡ Some news =
    made kept news (all_filter (IsFound times_id kept) (is_first old) kept (each_found times_id kept (once_kept times_id (differs old) new once_new))) in
    ap (times_told old) stats
    ∙ same_Some (times_told old kept) new
    (sym (ap (option_map (λ xs. map (told_item times_kind kept) old ++ xs)) items)
    ∙ ap₂ (λ is ss. items_told times_kind old is ss) (sym infos) (sym stats)
    ∙ leads times_kind all_times same_times times_are old new once_old once_new begin)

-- the histograms that a line tells are those that were sent
pub sent_times : (before : TablesView) (s : Sending) → (line_sent before s).task_times ≡ s.told
sent_times before s = by s.told s.removes s.snapshot
  where
    by : (told : Option (List TaskTimes)) (removes snapshot : Bool) → (line_sent before (record s { told = told; removes = removes; snapshot = snapshot })).task_times ≡ told
    by (Some times) removes snapshot = refl
    by None true true = refl
    by None true false = refl
    by None false true = refl
    by None false false = refl

-- and it says the same is gone
pub sent_gone : (before : TablesView) (s : Sending) → gone_of (line_sent before s) ≡ gone_of (line_untimed before s)
sent_gone before s = by s.told
  where
    by : (told : Option (List TaskTimes)) → gone_of (option_map_or (λ times. with_times times (line_untimed before s)) told (line_untimed before s)) ≡ gone_of (line_untimed before s)
    by (Some times) = refl
    by None = refl

-- ---- one line

-- of no histograms none is of a task twice
pub none_twice : IsDistinct nat_eq []
unfolding IsDistinct
none_twice = tt

-- where a line tells none, those stay whose tasks stay
nothing_told : (xs : List TaskTimes) → times_told xs [] ≡ xs
nothing_told xs = ap (λ ys. ys ++ []) (map-same xs) ∙ append-nil xs

-- a line leads to what it tells, and to those that stay
after_line : (old told : List TaskTimes) (gone : List ℕ) (l : LineView) → times_of l ≡ told → (gone_of l).tasks ≡ gone → times_after old l ≡ times_told (staying times_id gone old) told
after_line old told gone l tells leave = ap₂ (λ ids times. times_told (staying times_id ids old) times) leave tells

-- one that says nothing of what is gone leads to what it was given
led_on : (base after : List TaskTimes) (o : Option TimesGiven) (l : LineView) → IsDistinct nat_eq (map times_id base) → IsDistinct nat_eq (map times_id after) → BeginWith times_kind base after
    → l.task_times ≡ option_map (λ (t : TimesGiven). told_times base after) o → (gone_of l).tasks ≡ [] → (o ≡ None → after ≡ base) → times_after base l ≡ after
led_on base after None l once_old once_new begin tells leave same =
    after_line base [] [] l (ap (λ o. unwrap_or o []) tells) leave ∙ ap (λ xs. times_told xs []) (staying_all times_id base) ∙ nothing_told base ∙ sym (same refl)
led_on base after (Some t) l once_old once_new begin tells leave same =
    after_line base (told_times base after) [] l (ap (λ o. unwrap_or o []) tells) leave ∙ ap (λ xs. times_told xs (told_times base after)) (staying_all times_id base)
    ∙ times_lead base after once_old once_new begin

-- each line leads from the histograms before it to those that are shown from then on
module _ (before : TablesView) (times : List TaskTimes) (p : Publishing) (once_old : IsDistinct nat_eq (map times_id times)) (once_new : IsDistinct nat_eq (map times_id p.times_after)) where
  abbrev s : Sending
  s = sending_of times p

  abbrev line : LineView
  line = line_sent before s

  abbrev gone_so : Bool → Bool → List ℕ
  gone_so out whole = (gone_of (line_untimed before (record s { removes = out; snapshot = whole }))).tasks

  leave_by : (k : How) (whole : Bool) → p.how ≡ k → p.head.snapshot ≡ whole → (gone_of line).tasks ≡ gone_so (removes k) whole
  leave_by k whole e is = ap (λ (g : GoneView). g.tasks) (sent_gone before s) ∙ ap₂ (λ (h : How) (b : Bool). gone_so (removes h) b) e is

  leads_by : (k : How) → p.how ≡ k → IsPublishedAs k before times p → (k ≡ changes → BeginWith times_kind times p.times_after) → times_after (if p.head.snapshot then [] else times) line ≡ p.times_after
  leads_by changes e h begin =
      ap (λ b. times_after (if b then [] else times) line) h.plain
      ∙ led_on times p.times_after p.times line once_old once_new (begin refl) (sent_times before s ∙ ap (λ b. told_by b times p.times p.times_after) h.plain) (leave_by changes false e h.plain)
      (λ none. subst (λ (o : Option TimesGiven). ChangeTimes times o p.times_after) none h.times)
  leads_by everything e h begin =
      ap (λ b. times_after (if b then [] else times) line) h.whole
      ∙ led_on [] p.times_after p.times line none_twice once_new tt (sent_times before s ∙ ap (λ b. told_by b times p.times p.times_after) h.whole) (leave_by everything true e h.whole)
      (λ none. subst (λ (o : Option TimesGiven). AreAllTimes o p.times_after) none h.times)
  leads_by (leaving retention) e h begin =
      ap (λ b. times_after (if b then [] else times) line) h.plain
      ∙ after_line times [] (gone_between before p.after).tasks line (ap (λ o. unwrap_or o []) (sent_times before s ∙ ap (λ o. told_by p.head.snapshot times o p.times_after) h.untimed)) (leave_by (leaving retention) false e h.plain)
      ∙ nothing_told (staying times_id (gone_between before p.after).tasks times) ∙ sym h.times

-- so do all lines
pub sent_are : (before : TablesView) (times : List TaskTimes) (ps : List Publishing) → IsDistinct nat_eq (map times_id times) → ArePublished before times ps → TimesGoOn times ps
    → times_sent times before (sendings times ps) ≡ times_published times ps
sent_are before times [] once h on = refl
sent_are before times (p ∷ ps) once h on =
    ap (λ xs. times_sent xs p.after (sendings p.times_after ps)) (leads_by before times p once on.0 p.how refl h.0 on.1) ∙ sent_are p.after p.times_after ps on.0 h.1 on.2
